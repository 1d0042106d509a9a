-- A front whose body went through the scrambler in its place.
-- Assumes nothing.
use Prim.Native.Nat.{ℕ, ◌-◌}
use native.Mathlib.Omega.{arith}
use mathlib.Core.Path.{◌≡◌, refl, ◌∙◌, ap}
use mathlib.Core.Logic.{◌≢◌}
use mathlib.Core.List.{List, [], ◌∷◌, ◌++◌, append-nil}
use lib.ListN.{length, take, drop, drop_of_length-le}
use lib.Seq.{take-length}
use Rattle.scrambler.specs.declared.Direction.{Direction}
use Rattle.scrambler.specs.declared.Direction.TheVariants.{Unscramble}
use Rattle.scrambler.specs.Scrambler.{Register, part_answer}
use Rattle.sealing.specs.Sealing.{opened_front}

module _ (r : Register) where
  -- all behind the first byte is lent, and put back
  pub first-stays : (d : Direction) (x : ℕ) (xs ys : List ℕ) → ys ≡ part_answer d r (take (length (x ∷ xs) - 1) xs)
      → x ∷ (ys ++ drop (length (x ∷ xs) - 1) xs) ≡ x ∷ part_answer d r xs
  first-stays d x xs ys e =
      let all : length (x ∷ xs) - 1 ≡ length xs = omega arith in
      let whole : take (length (x ∷ xs) - 1) xs ≡ xs = ap (λ (n : ℕ). take n xs) all ∙ take-length xs in
      let rest : drop (length (x ∷ xs) - 1) xs ≡ [] = drop_of_length-le xs {i = length (x ∷ xs) - 1} (omega arith) in
      ap (λ (l : List ℕ). x ∷ l)
      (ap (λ (l : List ℕ). ys ++ l) rest ∙ append-nil ys ∙ e ∙ ap (part_answer d r) whole)

  pub no_front : (front : List ℕ) → length front ≡ 0 → front ≡ opened_front r front
  unfolding opened_front
  no_front [] none = refl
  no_front (x ∷ xs) none = absurd (omega arith)

  pub front-opened : (front ys : List ℕ) → length front ≢ 0
      → ys ≡ part_answer Unscramble r (take (length front - 1) (drop 1 front))
      → take 1 front ++ (ys ++ drop (length front - 1) (drop 1 front)) ≡ opened_front r front
  unfolding opened_front
  front-opened [] ys some e = absurd (some refl)
  front-opened (x ∷ xs) ys some e = first-stays Unscramble x xs ys e
