-- The register as a number of 16 bits: what `shifted`, `step` and `of` do to it, in the terms of the division.
-- Assumes nothing.
use mathlib.Core.Path.{◌≡◌, refl, sym, ap, ap₂, ◌∙◌}
use mathlib.Core.Bool.{Bool, true, false, cond}
use mathlib.Core.List.{List, [], ◌∷◌, ◌++◌}
use Prim.Native.Nat.{ℕ, ◌+◌, ◌*◌, ◌/◌, ◌%◌, ◌^◌, ◌<◌}
use native.Mathlib.Nat.{mul-div_cancel, mul-mod_left, div-one, mod-eq_of_lt, zero-lt-suc}
use native.Mathlib.Omega.{arith}
use lib.Bits.{bit_xor, xor_lt}
use lib.ListN.{length, replicate}
use Rattle.std.specs.List.{fold}
use Rattle.std.proofs.lemmas.List.{replicate-append-replicate}
use Rattle.bits.specs.Bits.{◌⊞◌, odd, bits, number, bits_of}
use Rattle.bits.proofs.Numbers.{length-bits, number-bits, bits-mod, bits-of, bits-append}
use Rattle.bits.proofs.Xor.{⊕-false, ⊞-zeros, bits-xor}
use Rattle.checksum.specs.Checksum.{polynomial, start, divided, after, stepped, checksum}
use Rattle.checksum.proofs.Division.{length-after, after-append, folded}

even : (m : ℕ) → odd (m * 2 / 1) ≡ false
unfolding odd
even m = rw (div-one (m * 2), mul-mod_left m 2)

-- twice the lower 15 bits: the highest bit is gone and a 0 stands behind
moved-bits : (r : ℕ) → bits 16 (r % 32768 * 2) ≡ bits 15 r ++ (false ∷ [])
unfolding bits
moved-bits r =
    bits-append 15 1 (r % 32768 * 2)
    ∙ ap₂ ◌++◌
    (ap (bits 15) (mul-div_cancel (r % 32768) (zero-lt-suc 1)) ∙ bits-mod 15 r)
    (ap (λ (b : Bool). b ∷ []) (even (r % 32768)))

top_bit : (r : ℕ) → bits 16 r ≡ odd (r / 32768) ∷ bits 15 r
unfolding bits
top_bit r = refl

taken-bits : (b : Bool) → cond b (bits 16 polynomial) (bits 16 0) ≡ bits 16 (cond b polynomial 0)
taken-bits true = refl
taken-bits false = refl

divided-bits : (r : ℕ) (top : Bool) → odd (r / 32768) ≡ top
    → divided (bits 16 r) false ≡ bits 16 (bit_xor (r % 32768 * 2) (cond top polynomial 0))
unfolding divided
divided-bits r top h =
    ap (λ (l : List Bool). divided l false) (top_bit r)
    ∙ ap₂ ◌⊞◌
    (sym (moved-bits r))
    (ap (λ (b : Bool). cond b (bits 16 polynomial) (bits 16 0)) (⊕-false (odd (r / 32768)) ∙ h) ∙ taken-bits top)
    ∙ sym (bits-xor 16 (r % 32768 * 2) (cond top polynomial 0))

-- one bit of the division on the number, by its highest bit
pub shifted-is : (r : ℕ) (top : Bool) → odd (r / 32768) ≡ top
    → bit_xor (r % 32768 * 2) (cond top polynomial 0) ≡ number (divided (bits 16 r) false)
shifted-is r top h =
    sym (ap number (divided-bits r top h) ∙ number-bits 16 (bit_xor (r % 32768 * 2) (cond top polynomial 0)) ∙ mod-eq_of_lt (small top))
  where
    small : (b : Bool) → bit_xor (r % 32768 * 2) (cond b polynomial 0) < 2 ^ 16
    small true = xor_lt 16 (r % 32768 * 2) polynomial (omega arith) (omega arith)
    small false = xor_lt 16 (r % 32768 * 2) 0 (omega arith) (omega arith)

-- a number of 16 bits is that of its bits
pub same_register : (r : ℕ) → r < 65536 → number (bits 16 r) ≡ r
same_register r h = number-bits 16 r ∙ mod-eq_of_lt h

-- `step` brings the byte in at once
brought : (b : ℕ) → bits 16 (b * 256) ≡ bits 8 b ++ replicate 8 false
unfolding bits odd
brought b =
    bits-append 8 8 (b * 256)
    ∙ ap₂ ◌++◌ (ap (bits 8) (mul-div_cancel b (zero-lt-suc 255))) (sym (bits-mod 8 (b * 256)) ∙ ap (bits 8) (mul-mod_left b 256))

pub step_from : (r b : ℕ) → number (after (bits 16 (bit_xor r (b * 256))) (replicate 8 false)) ≡ stepped r b
step_from r b =
    ap number
    (ap (λ (l : List Bool). after l (replicate 8 false))
    (bits-xor 16 r (b * 256)
    ∙ ap (λ (l : List Bool). bits 16 r ⊞ l) (brought b)
    ∙ ⊞-zeros (bits 16 r) (bits 8 b) 8 (rw (length-bits 8 b, length-bits 16 r) (omega arith)))
    ∙ sym (rw (length-bits 8 b) at (folded (bits 16 r) (bits 8 b) (length-bits 16 r) (rw length-bits (omega arith)))))

-- one shift more
pub shift-next : (r : List Bool) (k : ℕ) → length r ≡ 16
    → number (divided (bits 16 (number (after r (replicate k false)))) false) ≡ number (after r (replicate (k + 1) false))
unfolding after
shift-next r k h =
    let l = after r (replicate k false) in
    ap (λ (m : List Bool). number (divided m false)) (bits-of 16 l (length-after r (replicate k false) h))
    ∙ ap number (sym (after-append r (replicate k false) (false ∷ [])))
    ∙ ap (λ (ds : List Bool). number (after r ds)) (replicate-append-replicate k 1 false)

-- the bytes one after the other
bytes-steps : (r : List Bool) (xs : List ℕ) → length r ≡ 16 → fold stepped (number r) xs ≡ number (after r (bits_of xs))
unfolding after bits_of
bytes-steps r [] h = refl
bytes-steps r (x ∷ xs) h =
    let next = after r (bits 8 x) in
    ap (λ (m : List Bool). fold stepped (number (after m (bits 8 x))) xs) (bits-of 16 r h)
    ∙ bytes-steps next xs (length-after r (bits 8 x) h)
    ∙ ap number (sym (after-append r (bits 8 x) (bits_of xs)))

pub checksum-steps : (xs : List ℕ) → fold stepped start xs ≡ checksum xs
unfolding checksum
checksum-steps xs =
    ap (λ (n : ℕ). fold stepped n xs) (sym (number-bits 16 start)) ∙ bytes-steps (bits 16 start) xs (length-bits 16 start)
