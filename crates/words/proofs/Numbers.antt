-- Going along digits, and the number that they write. Assumes nothing.
use mathlib.Core.Path.{◌≡◌, refl}
use mathlib.Core.Bool.{Bool, true, false}
use mathlib.Core.List.{List, [], ◌∷◌}
use Prim.Native.Nat.{ℕ, ◌+◌, ◌*◌, ◌≤◌, ◌<◌}
use native.Mathlib.Numerals.{add-one}
use native.Mathlib.Omega.{arith}
use borrow.Author.Tests.{lt-ltb, le-ltb, le-leb, lt-leb, eqb-true, eqb-false}
use lib.Dec.{eqb}
use lib.ListN.{length, get_or, drop, drop_of_length-le}
use lib.Seq.{drop-cons}
use Rattle.std.proofs.Common.{Some, None}
use Rattle.words.specs.Numbers.{digit_of, are_digits, value_from, decimal_of}

module _ (text : List ℕ) (i : ℕ) (inside : i < length text) where
  pub value-next : (value : ℕ) → value_from (value * 10 + digit_of (get_or text i 0)) (drop (i + 1) text) ≡ value_from value (drop i text)
  unfolding value_from
  value-next value = rw (drop-cons text i 0, add-one)

  pub digits-next : digit_of (get_or text i 0) < 10 → are_digits 10 (drop (i + 1) text) ≡ are_digits 10 (drop i text)
  unfolding are_digits
  digits-next h = rw (drop-cons text i 0, lt-ltb (digit_of (get_or text i 0)) 10 h, add-one)

  pub no-digit : 10 ≤ digit_of (get_or text i 0) → are_digits 10 (drop i text) ≡ false
  unfolding are_digits
  no-digit h = rw (drop-cons text i 0, le-ltb (digit_of (get_or text i 0)) 10 h)

pub no-digits-left : (text : List ℕ) (i : ℕ) → length text ≤ i → are_digits 10 (drop i text) ≡ true
unfolding are_digits
no-digits-left text i h = rw (drop_of_length-le text h)

pub no-value-left : (text : List ℕ) (value i : ℕ) → length text ≤ i → value_from value (drop i text) ≡ value
unfolding value_from
no-value-left text value i h = rw (drop_of_length-le text h)

-- digits behind a number make it no less, so what is too great stays too great
value_grows : (text : List ℕ) (value : ℕ) → value ≤ value_from value text
unfolding value_from
value_grows [] value = omega arith
value_grows (x ∷ xs) value = omega (arith, value_grows xs (value * 10 + digit_of x))

pub too_great : (text : List ℕ) (value i : ℕ) → i < length text → value_from value (drop i text) ≡ value_from 0 text
    → 0xFFFFFFFF < value * 10 + digit_of (get_or text i 0) → 0xFFFFFFFF < value_from 0 text
too_great text value i inside e h =
    let next = value * 10 + digit_of (get_or text i 0) in
    omega (arith, e, value-next text i inside value, value_grows (drop (i + 1) text) next)

-- ---- the number that a text is

module _ (text : List ℕ) where
  pub empty-none : eqb (length text) 0 ≡ true → None ≡ decimal_of text
  unfolding decimal_of
  empty-none e = rw (eqb-true (length text) 0 e)

  module _ (some : eqb (length text) 0 ≡ false) where
    begun : 0 < length text
    begun = let other = eqb-false (length text) 0 some in omega arith

    pub others-none : are_digits 10 text ≡ false → None ≡ decimal_of text
    unfolding decimal_of
    others-none e = rw (lt-ltb 0 (length text) begun, e)

    pub great-none : are_digits 10 text ≡ true → 0xFFFFFFFF < value_from 0 text → None ≡ decimal_of text
    unfolding decimal_of
    great-none e h = rw (lt-ltb 0 (length text) begun, e, lt-leb (value_from 0 text) 0xFFFFFFFF h)

    -- letters that are no digits are no number either
    pub great-anyway : 0xFFFFFFFF < value_from 0 text → None ≡ decimal_of text
    great-anyway h = go (are_digits 10 text) refl
      where
        go : (b : Bool) → are_digits 10 text ≡ b → None ≡ decimal_of text
        go true e = great-none e h
        go false e = others-none e

    pub digits_number : are_digits 10 text ≡ true → value_from 0 text ≤ 0xFFFFFFFF → Some (value_from 0 text) ≡ decimal_of text
    unfolding decimal_of
    digits_number e h = rw (lt-ltb 0 (length text) begun, e, le-leb (value_from 0 text) 0xFFFFFFFF h)
