-- The search of a row, and what it finds.
-- Assumes nothing.
use Prim.Native.Nat.{ℕ}
use mathlib.Core.Path.{◌≡◌, refl, ◌∙◌, ap}
use mathlib.Core.Bool.{Bool, true, false, ◌||◌, cond}
use mathlib.Core.List.{List, [], ◌∷◌, map}
use lib.ListN.{get_or}
use lib.Dec.{eqb}
use denote.Ref.{Bor}
use Rattle.std.proofs.Common.{Option, Some, None}
use Rattle.std.specs.List.{find}
use Rattle.std.specs.Option.{option_map}
use Rattle.layouts.specs.Layouts.{among, Entry, found}
use Rattle.layouts.specs.Rows.{Row, says}

-- what is said of the row that is lent
said-lent : (r : Option (Bor Row)) → option_map (λ r. says r.now) r ≡ option_map says (option_map (λ r. r.now) r)
said-lent None = refl
said-lent (Some r) = refl

-- the first row of a type says what the first entry of that type is
said-first : (t : ℕ) (rows : List Row)
    → option_map says (find (λ r. eqb (get_or r 0 0) t) rows) ≡ find (λ e. eqb e.frame_type t) (map says rows)
said-first t [] = refl
said-first t (r ∷ rows) = go (eqb (get_or r 0 0) t) (said-first t rows)
  where
    go : (b : Bool) → option_map says (find (λ r. eqb (get_or r 0 0) t) rows) ≡ find (λ e. eqb e.frame_type t) (map says rows)
        → option_map says (cond b (Some r) (find (λ r. eqb (get_or r 0 0) t) rows))
        ≡ cond b (Some (says r)) (find (λ e. eqb e.frame_type t) (map says rows))
    go true rest = refl
    go false rest = rest

-- the search finds an entry exactly where the type is among the entries' own
first-found : (t : ℕ) (es : List Entry)
    → find (λ e. eqb e.frame_type t) es ≡ cond (among t (map (λ e. e.frame_type) es)) (Some (found t es)) None
unfolding among found
first-found t [] = refl
first-found t (e ∷ es) = go (eqb e.frame_type t) (first-found t es)
  where
    go : (b : Bool) → find (λ e. eqb e.frame_type t) es ≡ cond (among t (map (λ e. e.frame_type) es)) (Some (found t es)) None
        → cond b (Some e) (find (λ e. eqb e.frame_type t) es)
        ≡ cond (b || among t (map (λ e. e.frame_type) es)) (Some (cond b e (found t es))) None
    go true rest = refl
    go false rest = rest

pub row-found : (t : ℕ) (rows : List Row) (r : Option (Bor Row))
    → option_map (λ r. r.now) r ≡ find (λ r. eqb (get_or r 0 0) t) rows
    → (es : List Entry) → map says rows ≡ es
    → option_map (λ r. says r.now) r ≡ cond (among t (map (λ e. e.frame_type) es)) (Some (found t es)) None
row-found t rows r searched es same =
    said-lent r
    ∙ ap (option_map says) searched
    ∙ said-first t rows
    ∙ ap (find (λ e. eqb e.frame_type t)) same
    ∙ first-found t es
