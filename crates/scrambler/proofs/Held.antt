-- The number that holds the far latest sent bits: one bit more, and the number that comes back at the end.
-- Assumes nothing.
use mathlib.Core.Path.{◌≡◌, sym, ap, ◌∙◌}
use mathlib.Core.Bool.{Bool, false}
use mathlib.Core.List.{List, [], ◌∷◌, ◌++◌, reverse, reverse-cons, reverse-reverse}
use Prim.Native.Nat.{ℕ, zero, suc, ◌+◌, ◌*◌, ◌/◌, ◌%◌, ◌^◌, ◌≤◌, ◌<◌}
use native.Mathlib.Nat.{div-one}
use native.Mathlib.Decide.{dec_lt}
use native.Mathlib.Numerals.{one-add}
use native.Mathlib.Omega.{arith}
use lib.Arith.{digits_div}
use lib.ListN.{length, get_or, take, length-take, length-reverse, get_or-append}
use lib.Seq.{get_or_at, get_or-take, ext_get_or}
use lib.Pow.{shr-shr}
use Rattle.bits.specs.Bits.{odd, bits, number}
use Rattle.bits.proofs.Numbers.{length-bits, number-bits, odd-behind, odd_low}
use Rattle.scrambler.specs.Scrambler.{remembered}
use Rattle.scrambler.specs.Walk.{Held}

-- one sent bit more; the earliest of 32 is let go
pub held_next : (far n a : ℕ) (h : List Bool) → far ≤ 32 → a < 2 → Held far n h → Held far (n % 2147483648 * 2 + a) (odd a ∷ h)
held_next far n a h most small held zero k =
    ap odd (div-one (n % 2147483648 * 2 + a)) ∙ odd-behind (n % 2147483648) a
held_next far n a h most small held (suc j) k =
    ap odd
    (ap (λ (m : ℕ). (n % 2147483648 * 2 + a) / 2 ^ m) (sym (one-add j))
    ∙ sym (shr-shr (n % 2147483648 * 2 + a) 1 j)
    ∙ ap (λ (m : ℕ). m / 2 ^ j) (digits_div (n % 2147483648) small))
    ∙ odd_low 31 j n (omega arith)
    ∙ held j (omega arith)

pub length-remembered : (far n : ℕ) → length (remembered far n) ≡ far
length-remembered far n = length-reverse (bits far n) ∙ length-bits far n

one_earlier : (w n k : ℕ) → k < suc w → Held w n (remembered w n) → Dec (k < w)
    → odd (n / 2 ^ k) ≡ get_or (remembered w n ++ (odd (n / 2 ^ w) ∷ [])) k false
one_earlier w n k l held (yes p) =
    held k p ∙ sym (get_or-append (remembered w n) (odd (n / 2 ^ w) ∷ []) false k (rw length-remembered p))
one_earlier w n k l held (no q) =
    let e : k ≡ w = omega arith in
    sym (get_or_at (remembered w n) (odd (n / 2 ^ w)) [] false k (length-remembered w n ∙ sym e) ∙ ap (λ (m : ℕ). odd (n / 2 ^ m)) (sym e))

-- a start, as a number, holds the sent bits that it stands for
pub held_start : (far n : ℕ) → Held far n (remembered far n)
unfolding bits
held_start zero n k l = absurd (omega arith)
held_start (suc w) n k l =
    one_earlier w n k l (held_start w n) (dec_lt k w) ∙ ap (λ (h : List Bool). get_or h k false) (sym (reverse-cons (odd (n / 2 ^ w)) (bits w n)))

-- and the number that comes back at the end stands for those that it holds
pub held-end : (far n : ℕ) (h : List Bool) → far ≤ length h → Held far n h → number (reverse (take far h)) ≡ n % 2 ^ far
held-end far n h long held =
    ap (λ (l : List Bool). number (reverse l)) same ∙ ap number (reverse-reverse (bits far n)) ∙ number-bits far n
  where
    taken : length (take far h) ≡ far
    taken = rw length-take (omega arith)

    same : take far h ≡ remembered far n
    same =
        ext_get_or false (take far h) (remembered far n) (taken ∙ sym (length-remembered far n))
        (λ i l. let p : i < far = rw taken at l in get_or-take far h i false p ∙ sym (held i p) ∙ held_start far n i p)
