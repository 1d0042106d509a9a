-- Bits and numbers are two ways to write one thing: `bits` and `number` are inverse, and both go along with `++`.
-- Assumes nothing.
use mathlib.Core.Path.{◌≡◌, refl, sym, ap, ap₂, ◌∙◌, subst}
use mathlib.Core.Bool.{Bool, true, false, cond}
use mathlib.Core.List.{List, [], ◌∷◌, ◌++◌}
use Prim.Native.Nat.{ℕ, zero, suc, ◌+◌, ◌-◌, ◌*◌, ◌/◌, ◌%◌, ◌^◌, ◌<◌}
use native.Mathlib.Nat.{mod-one, mod-mod, mod-lt, add-mod, mul-add-mod_self_right, div-one, pow-suc, zero-lt-suc, zero-add, suc-add, add_comm, not-suc-le-zero, le_of_suc-le-suc}
use native.Mathlib.Numerals.{one-add, add-one}
use native.Mathlib.Omega.{arith}
use lib.Arith.{digits_div}
use lib.Dec.{eqb}
use lib.ListN.{length, length-append}
use lib.Pow.{pow-add, mod-pow-add, mod-mod-pow, field, shr-shr, high, low}
use Rattle.bits.specs.Bits.{◌⊕◌, odd, bits, number}

below_two : (m : ℕ) → m < 2 → cond (eqb m 1) 1 0 ≡ m
below_two zero h = refl
below_two (suc zero) h = refl
below_two (suc (suc m)) h = absurd (not-suc-le-zero (le_of_suc-le-suc (le_of_suc-le-suc h)))

pub digit-odd : (n : ℕ) → cond (odd n) 1 0 ≡ n % 2
unfolding odd
digit-odd n = below_two (n % 2) (mod-lt n (zero-lt-suc 1))

pub odd-mod : (n : ℕ) → odd (n % 2) ≡ odd n
unfolding odd
odd-mod n = rw mod-mod

pub odd-digit : (b : Bool) → odd (cond b 1 0) ≡ b
unfolding odd
odd-digit true = refl
odd-digit false = refl

pub length-bits : (w n : ℕ) → length (bits w n) ≡ w
unfolding bits
length-bits zero n = refl
length-bits (suc w) n = ap suc (length-bits w n)

pub number-bits : (w n : ℕ) → number (bits w n) ≡ n % 2 ^ w
unfolding bits number
number-bits zero n = sym (mod-one n)
number-bits (suc w) n =
    rw (length-bits w n, digit-odd (n / 2 ^ w), number-bits w n, ← one-add w) (sym (mod-pow-add n 1 w))

pub number_lt : (bs : List Bool) → number bs < 2 ^ length bs
unfolding number
number_lt [] = omega arith
number_lt (true ∷ bs) = let h = number_lt bs in omega (arith, pow-suc 2 (length bs))
number_lt (false ∷ bs) = let h = number_lt bs in omega (arith, pow-suc 2 (length bs))

-- two runs of bits one after the other
pub number_append : (xs ys : List Bool) → number (xs ++ ys) ≡ number xs * 2 ^ length ys + number ys
unfolding number
number_append [] ys = omega arith
number_append (x ∷ xs) ys =
    rw (length-append xs ys, pow-add 2 (length xs) (length ys), number_append xs ys) (omega arith)

-- only the w low bits of a number count
pub bits-mod : (w n : ℕ) → bits w (n % 2 ^ w) ≡ bits w n
unfolding bits
bits-mod zero n = refl
bits-mod (suc w) n =
    ap₂ ◌∷◌
    (rw (← one-add w, field n 1 w) (odd-mod (n / 2 ^ w)))
    (sym (bits-mod w (n % 2 ^ suc w)) ∙ rw (← one-add w, mod-mod-pow n 1 w) (bits-mod w n))

pub bits-number : (bs : List Bool) → bits (length bs) (number bs) ≡ bs
unfolding bits number
bits-number [] = refl
bits-number (b ∷ bs) =
    ap₂ ◌∷◌
    (ap odd (high (cond b 1 0) (length bs) (number_lt bs)) ∙ odd-digit b)
    (sym (bits-mod (length bs) (cond b 1 0 * 2 ^ length bs + number bs))
    ∙ ap (bits (length bs)) (low (cond b 1 0) (length bs) (number_lt bs))
    ∙ bits-number bs)

-- the same, where the list's length is known by another name
pub bits-of : (n : ℕ) (bs : List Bool) → length bs ≡ n → bits n (number bs) ≡ bs
bits-of n bs h = subst (λ (k : ℕ). bits k (number bs) ≡ bs) h (bits-number bs)

pub bits-append : (j k n : ℕ) → bits (j + k) n ≡ bits j (n / 2 ^ k) ++ bits k n
unfolding bits
bits-append zero k n = rw zero-add
bits-append (suc j) k n =
    ap (λ (w : ℕ). bits w n) (suc-add j k) ∙ ap₂ ◌∷◌ (ap odd (ap (λ (m : ℕ). n / 2 ^ m) (add_comm j k) ∙ sym (shr-shr n k j))) (bits-append j k n)

pub odd-add : (a b : ℕ) → odd (a + b) ≡ odd a ⊕ odd b
unfolding odd
odd-add a b = ap (λ (n : ℕ). eqb n 1) (add-mod a b 2) ∙ digits (a % 2) (b % 2) (mod-lt a (zero-lt-suc 1)) (mod-lt b (zero-lt-suc 1))
  where
    digits : (x y : ℕ) → x < 2 → y < 2 → eqb ((x + y) % 2) 1 ≡ eqb x 1 ⊕ eqb y 1
    digits zero zero hx hy = refl
    digits zero (suc zero) hx hy = refl
    digits (suc zero) zero hx hy = refl
    digits (suc zero) (suc zero) hx hy = refl
    digits zero (suc (suc y)) hx hy = absurd (omega arith)
    digits (suc zero) (suc (suc y)) hx hy = absurd (omega arith)
    digits (suc (suc x)) y hx hy = absurd (omega arith)

-- the digit behind a number
pub odd-behind : (n c : ℕ) → odd (n * 2 + c) ≡ odd c
unfolding odd
odd-behind n c = rw mul-add-mod_self_right

-- a bit among the w lowest
pub odd_low : (w j n : ℕ) → j < w → odd (n % 2 ^ w / 2 ^ j) ≡ odd (n / 2 ^ j)
unfolding odd
odd_low w j n h =
    let d = w - suc j in
    let e : w ≡ d + 1 + j = omega arith in
    ap (λ (k : ℕ). odd (n % 2 ^ k / 2 ^ j)) e
    ∙ ap odd (field n (d + 1) j)
    ∙ ap (λ (m : ℕ). eqb m 1) (mod-mod-pow (n / 2 ^ j) d 1)

-- one digit more
pub bits-behind : (w n c : ℕ) → c < 2 → bits (suc w) (n * 2 + c) ≡ bits w n ++ (odd c ∷ [])
unfolding bits
bits-behind w n c h =
    ap (λ (k : ℕ). bits k (n * 2 + c)) (sym (add-one w))
    ∙ bits-append w 1 (n * 2 + c)
    ∙ ap₂ ◌++◌ (ap (bits w) (digits_div n h)) (ap (λ (b : Bool). b ∷ []) (ap odd (div-one (n * 2 + c)) ∙ odd-behind n c))
