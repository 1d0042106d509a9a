-- The parts of a text between single separators are those that `words` takes where the separator alone is no letter. Assumes nothing.
use Prim.Native.Nat.{ℕ}
use mathlib.Core.Path.{◌≡◌, refl, ◌∙◌, ap}
use mathlib.Core.Bool.{Bool, true, false, not, cond}
use mathlib.Core.List.{List, [], ◌∷◌}
use lib.Dec.{eqb}
use Rattle.std.specs.List.{onto_first}
use Rattle.words.specs.Words.{led, parts}
use Rattle.names.specs.Names.{parts_of}

pub parts-agree : (separator : ℕ) (xs : List ℕ) → parts_of separator xs ≡ parts (λ (x : ℕ). not (eqb x separator)) xs
unfolding parts
parts-agree separator [] = refl
parts-agree separator (x ∷ xs) = go (eqb x separator) (parts-agree separator xs)
  where
    rest : List (List ℕ)
    rest = parts (λ (x : ℕ). not (eqb x separator)) xs

    same : (ps : List (List ℕ)) → onto_first x ps ≡ led x ps
    same [] = refl
    same (p ∷ ps) = refl

    go : (b : Bool) → parts_of separator xs ≡ rest
        → cond b ([] ∷ parts_of separator xs) (onto_first x (parts_of separator xs)) ≡ cond (not b) (led x rest) ([] ∷ rest)
    go true e = rw e
    go false e = ap (onto_first x) e ∙ same rest
