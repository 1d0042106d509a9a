-- The table has no line for a type that is not carried: one test over its lines, and the law for every satellite and type.
-- Assumes nothing.
use Prim.Native.Nat.{ℕ}
use mathlib.Core.Path.{◌≡◌, refl, subst}
use mathlib.Core.Bool.{Bool, true, false, cond, ◌&&◌}
use mathlib.Core.List.{List, [], ◌∷◌, map}
use borrow.Author.Tests.{eqb-true}
use lib.Dec.{T, eqb}
use mir.Facts.{and_yes}
use Rattle.satellites.specs.declared.Satellite.{Satellite}
use Rattle.satellites.specs.Satellites.{number_of}
use Rattle.layouts.specs.Layouts.{counted, among, carried_by, carries}
use Rattle.layouts.specs.Layouts.{table as layouts}
use Rattle.layouts.specs.Rules.{every}
use Rattle.layouts.proofs.Entries.{passes}
use Rattle.names.specs.Fields.{Line, table, names_in, names_of}

-- the types of a satellite's number
abbrev types_at : ℕ → List ℕ
types_at n = map (λ e. e.frame_type) (carried_by n layouts)

-- each satellite that a line names carries the type
abbrev carried : Line → Bool
carried l = every (λ n. among l.frame_type (types_at n)) l.sent_by

all-carried : T (every carried table)
unfolding every table counted among layouts carried_by
all-carried = tt

no_line : (n ty : ℕ) (ls : List Line) → T (every carried ls) → among ty (types_at n) ≡ false → names_in n ty ls ≡ []
unfolding every names_in
no_line n ty [] t other = refl
no_line n ty (l ∷ ls) t other =
    let both = and_yes (carried l) (every carried ls) t in
    go (among n l.sent_by) (eqb l.frame_type ty) refl refl both.0 (no_line n ty ls both.1 other)
  where
    not-here : T (among l.frame_type (types_at n)) → l.frame_type ≡ ty → ⊥
    not-here t e = subst T other (subst (λ (k : ℕ). T (among k (types_at n))) e t)

    go : (a b : Bool) → among n l.sent_by ≡ a → eqb l.frame_type ty ≡ b → T (carried l) → names_in n ty ls ≡ []
        → cond (a && b) l.names (names_in n ty ls) ≡ []
    go true true i e t rest =
        absurd (not-here (passes (λ n. among l.frame_type (types_at n)) l.sent_by n t i) (eqb-true l.frame_type ty e))
    go true false i e t rest = rest
    go false b i e t rest = rest

-- a type that a satellite does not carry has no names
pub not_carried : (s : Satellite) (t : ℕ) → carries s t ≡ false → names_of s t ≡ []
not_carried s t other = no_line (number_of s) t table all-carried other
