-- Worked values: what a definition gives for some input, and what the paper says that it gives (01, "Either side of the
-- edge"; FORMAT 10). Lists of them from several crates go into one statement.
use Rattle.std.specs.Prelude.{◌≡◌, List, [], ◌∷◌}

pub data Worked : Type 1 where
  gives : {A : Type 0} → A → A → Worked

-- each definition gives what the paper says
abbrev pub AllRight : List Worked → Type 0
AllRight [] = Unit {0}
AllRight (gives got said ∷ more) = (got ≡ said) × AllRight more
