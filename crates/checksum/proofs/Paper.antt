-- The checksum as the textbook draws it, over every register and every byte: "CRC-CCITT-FALSE: polynomial 1021, start FFFF, no
-- reflection, final value not altered" (01, "Checksum"; FORMAT 4). The polynomial is x^16 + x^12 + x^5 + 1.
-- Assumes nothing.
use mathlib.Core.Path.{◌≡◌, refl, sym, ◌∙◌, ap, ap₂}
use mathlib.Core.Bool.{Bool, true, false, cond}
use mathlib.Core.List.{List, [], ◌∷◌, ◌++◌, append-nil}
use Prim.Native.Nat.{ℕ, ◌/◌, ◌^◌}
use lib.ListN.{replicate}
use Rattle.bits.specs.Bits.{◌⊕◌, ◌⊞◌, odd, bits, bits_of}
use Rattle.bits.proofs.Bytes.{bits_of-append}
use Rattle.bits.proofs.Xor.{⊕-false}
use Rattle.checksum.specs.Checksum.{divided, after, checksum, start}
use Rattle.checksum.proofs.Division.{after-append, bits-checksum}

-- "start FFFF": sixteen 1s
pub starts : bits 16 (checksum []) ≡ replicate 16 true
unfolding bits odd bits_of after
starts = bits-checksum []

-- one data bit: the register moves up by one place. What leaves it, xor the data bit, comes in at x^12, x^5 and 1
pub one_bit : (r15 r14 r13 r12 r11 r10 r9 r8 r7 r6 r5 r4 r3 r2 r1 r0 d : Bool)
    → let t = r15 ⊕ d in
    divided (r15 ∷ r14 ∷ r13 ∷ r12 ∷ r11 ∷ r10 ∷ r9 ∷ r8 ∷ r7 ∷ r6 ∷ r5 ∷ r4 ∷ r3 ∷ r2 ∷ r1 ∷ r0 ∷ []) d
    ≡ r14 ∷ r13 ∷ r12 ∷ (r11 ⊕ t) ∷ r10 ∷ r9 ∷ r8 ∷ r7 ∷ r6 ∷ r5 ∷ (r4 ⊕ t) ∷ r3 ∷ r2 ∷ r1 ∷ r0 ∷ t ∷ []
unfolding divided bits odd ◌⊞◌
one_bit r15 r14 r13 r12 r11 r10 r9 r8 r7 r6 r5 r4 r3 r2 r1 r0 d = by (r15 ⊕ d)
  where
    by : (t : Bool)
        → (r14 ∷ r13 ∷ r12 ∷ r11 ∷ r10 ∷ r9 ∷ r8 ∷ r7 ∷ r6 ∷ r5 ∷ r4 ∷ r3 ∷ r2 ∷ r1 ∷ r0 ∷ false ∷ []) ⊞ cond t (bits 16 0x1021) (bits 16 0)
        ≡ r14 ∷ r13 ∷ r12 ∷ (r11 ⊕ t) ∷ r10 ∷ r9 ∷ r8 ∷ r7 ∷ r6 ∷ r5 ∷ (r4 ⊕ t) ∷ r3 ∷ r2 ∷ r1 ∷ r0 ∷ t ∷ []
    by true = simp ⊕-false
    by false = simp ⊕-false

-- eight data bits, the highest of a byte first
eight-bits : (r : List Bool) (x : ℕ)
    → let bit : ℕ → Bool = λ (k : ℕ). odd (x / 2 ^ k) in
    let half = divided (divided (divided (divided r (bit 7)) (bit 6)) (bit 5)) (bit 4) in
    after r (bits 8 x) ≡ divided (divided (divided (divided half (bit 3)) (bit 2)) (bit 1)) (bit 0)
unfolding after bits
eight-bits r x = refl

-- one byte more
pub one_byte : (xs : List ℕ) (x : ℕ)
    → let bit : ℕ → Bool = λ (k : ℕ). odd (x / 2 ^ k) in
    let half = divided (divided (divided (divided (bits 16 (checksum xs)) (bit 7)) (bit 6)) (bit 5)) (bit 4) in
    bits 16 (checksum (xs ++ (x ∷ []))) ≡ divided (divided (divided (divided half (bit 3)) (bit 2)) (bit 1)) (bit 0)
unfolding bits_of
one_byte xs x =
    bits-checksum (xs ++ (x ∷ []))
    ∙ ap (after (bits 16 start)) (bits_of-append xs (x ∷ []))
    ∙ after-append (bits 16 start) (bits_of xs) (bits_of (x ∷ []))
    ∙ ap₂ after (sym (bits-checksum xs)) (append-nil (bits 8 x))
    ∙ eight-bits (bits 16 (checksum xs)) x
