-- The place of a letter, along a text. Assumes nothing.
use Prim.Native.Nat.{ℕ, zero, suc, ◌+◌, ◌≤◌, ◌<◌}
use native.Mathlib.Nat.{le_of_suc-le-suc, not-suc-le-zero}
use native.Mathlib.Omega.{arith}
use mathlib.Core.Path.{◌≡◌, refl}
use mathlib.Core.Bool.{Bool, true, false, cond}
use mathlib.Core.List.{List, [], ◌∷◌}
use lib.Dec.{eqb, ltb}
use lib.ListN.{length, get_or}
use borrow.Author.Tests.{eqb-true, eqb-false, ltb-false}
use Rattle.std.proofs.Common.{Option, Some, None}
use Rattle.std.specs.List.{position_or_len}
use Rattle.std.specs.Option.{unwrap_or}
use Rattle.std.proofs.lemmas.List.Recursion.{is_position_or_len}
use Rattle.pages.specs.Places.{index_of, index_after}

-- it is no place outside the text
pub index-within : (x : ℕ) (xs : List ℕ) → index_of x xs ≤ length xs
unfolding index_of index_after
index-within x [] = omega arith
index-within x (y ∷ xs) = go (eqb y x) (index-within x xs)
  where
    go : (b : Bool) → index_of x xs ≤ length xs → index_after b (index_of x xs) ≤ suc (length xs)
    go true h = omega arith
    go false h = omega arith

-- it is where the library finds the letter
index_is : (x : ℕ) (xs : List ℕ) → index_of x xs ≡ position_or_len (λ y. eqb y x) xs
unfolding index_of index_after
index_is x xs = is_position_or_len (index_of x) (λ y. eqb y x) refl (λ y ys. go (eqb y x) (index_of x ys)) xs
  where
    go : (b : Bool) (n : ℕ) → index_after b n ≡ cond b 0 (1 + n)
    go true n = refl
    go false n = omega arith

-- the answer made of what it found
pub answer_is : (x : ℕ) (xs : List ℕ) (r : Option ℕ)
    → r ≡ cond (ltb (position_or_len (λ y. eqb y x) xs) (length xs)) (Some (position_or_len (λ y. eqb y x) xs)) None
    → unwrap_or r (length xs) ≡ index_of x xs
answer_is x xs r e = rw (e, ← index_is x xs) (go (ltb (index_of x xs) (length xs)) refl)
  where
    go : (b : Bool) → ltb (index_of x xs) (length xs) ≡ b → unwrap_or (cond b (Some (index_of x xs)) None) (length xs) ≡ index_of x xs
    go true t = refl
    go false t = omega (arith, ltb-false (index_of x xs) (length xs) t, index-within x xs)

-- ---- what it is the place of

-- ahead of it stands no such letter
pub none-ahead : (x : ℕ) (xs : List ℕ) (k : ℕ) → k < index_of x xs → get_or xs k 0 ≡ x → ⊥
unfolding index_of index_after
none-ahead x [] k h e = not-suc-le-zero h
none-ahead x (y ∷ xs) k h e = go (eqb y x) refl k h e (none-ahead x xs)
  where
    go : (b : Bool) → eqb y x ≡ b → (k : ℕ) → k < index_after b (index_of x xs) → get_or (y ∷ xs) k 0 ≡ x
        → ((k : ℕ) → k < index_of x xs → get_or xs k 0 ≡ x → ⊥) → ⊥
    go true t k h e rest = not-suc-le-zero h
    go false t zero h e rest = eqb-false y x t e
    go false t (suc k) h e rest = rest k (le_of_suc-le-suc h) e

-- at it stands one
pub there : (x : ℕ) (xs : List ℕ) → index_of x xs < length xs → get_or xs (index_of x xs) 0 ≡ x
unfolding index_of index_after
there x [] h = absurd (not-suc-le-zero h)
there x (y ∷ xs) h = go (eqb y x) refl h (there x xs)
  where
    go : (b : Bool) → eqb y x ≡ b → index_after b (index_of x xs) < suc (length xs)
        → (index_of x xs < length xs → get_or xs (index_of x xs) 0 ≡ x) → get_or (y ∷ xs) (index_after b (index_of x xs)) 0 ≡ x
    go true t h rest = eqb-true y x t
    go false t h rest = rest (le_of_suc-le-suc h)
