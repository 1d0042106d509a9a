-- Laws of the division: it keeps 16 bits, goes along with `++`, and the difference of two registers after data depends on
-- the differences of the registers and of the data alone.
-- Assumes nothing.
use mathlib.Core.Path.{◌≡◌, refl, sym, ap, ap₂, ◌∙◌}
use mathlib.Core.Bool.{Bool, true, false, cond}
use mathlib.Core.List.{List, [], ◌∷◌, ◌++◌}
use Prim.Native.Nat.{ℕ, ◌≤◌}
use native.Mathlib.Nat.{suc_inj, le_of_eq}
use native.Mathlib.Omega.{arith}
use lib.ListN.{length, replicate, length-append}
use Rattle.bits.specs.Bits.{◌⊕◌, ◌⊞◌, odd, bits, bits_of}
use Rattle.bits.proofs.Numbers.{length-bits, bits-of}
use Rattle.bits.proofs.Bytes.{length-bits_of}
use Rattle.bits.proofs.Xor.{⊕-swap, ⊕-false, ⊞-nil, ⊞-comm, ⊞-assoc, ⊞-swap, ⊞-front, ⊞-append, length-⊞}
use Rattle.checksum.specs.Checksum.{polynomial, start, divided, after, checksum}

-- what is taken away, by the bit that says whether it is
abbrev taken : Bool → List Bool
taken b = cond b (bits 16 polynomial) (bits 16 0)

length_taken : (b : Bool) → length (taken b) ≡ 16
length_taken true = length-bits 16 polynomial
length_taken false = length-bits 16 0

taken-⊞ : (a b : Bool) → taken a ⊞ taken b ≡ taken (a ⊕ b)
unfolding bits ◌⊞◌ odd
taken-⊞ true true = refl
taken-⊞ true false = refl
taken-⊞ false true = refl
taken-⊞ false false = refl

moved_length : (b : Bool) (bs : List Bool) → length (b ∷ bs) ≡ 16 → length (bs ++ (false ∷ [])) ≡ 16
moved_length b bs h = rw length-append (omega arith)

pub length-divided : (r : List Bool) (d : Bool) → length r ≡ 16 → length (divided r d) ≡ 16
unfolding divided
length-divided [] d h = h
length-divided (b ∷ bs) d h =
    length-⊞ (bs ++ (false ∷ [])) (taken (b ⊕ d)) (le_of_eq (length_taken (b ⊕ d) ∙ sym (moved_length b bs h))) ∙ moved_length b bs h

pub length-after : (r ds : List Bool) → length r ≡ 16 → length (after r ds) ≡ 16
unfolding after
length-after r [] h = h
length-after r (d ∷ ds) h = length-after (divided r d) ds (length-divided r d h)

pub after-append : (r xs ys : List Bool) → after r (xs ++ ys) ≡ after (after r xs) ys
unfolding after
after-append r [] ys = refl
after-append r (x ∷ xs) ys = after-append (divided r x) xs ys

divided-⊞ : (q r : List Bool) (d e : Bool) → length q ≡ length r → divided q d ⊞ divided r e ≡ divided (q ⊞ r) (d ⊕ e)
unfolding divided ◌⊞◌
divided-⊞ [] [] d e h = refl
divided-⊞ [] (c ∷ cs) d e h = absurd (omega arith)
divided-⊞ (b ∷ bs) [] d e h = absurd (omega arith)
divided-⊞ (b ∷ bs) (c ∷ cs) d e h =
    ⊞-swap (bs ++ (false ∷ [])) (taken (b ⊕ d)) (cs ++ (false ∷ [])) (taken (c ⊕ e))
    ∙ ap₂ ◌⊞◌ (⊞-append bs cs (false ∷ []) (false ∷ []) (suc_inj h)) (taken-⊞ (b ⊕ d) (c ⊕ e) ∙ ap taken (⊕-swap b d c e))

pub after-⊞ : (q r xs ys : List Bool) → length q ≡ 16 → length r ≡ 16 → length xs ≡ length ys
    → after q xs ⊞ after r ys ≡ after (q ⊞ r) (xs ⊞ ys)
unfolding after ◌⊞◌
after-⊞ q r [] [] hq hr h = refl
after-⊞ q r [] (y ∷ ys) hq hr h = absurd (omega arith)
after-⊞ q r (x ∷ xs) [] hq hr h = absurd (omega arith)
after-⊞ q r (x ∷ xs) (y ∷ ys) hq hr h =
    after-⊞ (divided q x) (divided r y) xs ys (length-divided q x hq) (length-divided r y hr) (suc_inj h)
    ∙ ap (λ (l : List Bool). after l (xs ⊞ ys)) (divided-⊞ q r x y (hq ∙ sym hr))

-- the bits of a checksum are the register's
pub bits-checksum : (xs : List ℕ) → bits 16 (checksum xs) ≡ after (bits 16 start) (bits_of xs)
unfolding checksum
bits-checksum xs = bits-of 16 (after (bits 16 start) (bits_of xs)) (length-after (bits 16 start) (bits_of xs) (length-bits 16 start))

started : bits 16 start ⊞ bits 16 start ≡ bits 16 0
unfolding bits ◌⊞◌ odd
started = refl

-- the difference of two checksums of messages of one length depends on the difference of the messages alone
pub checksum-difference : (xs ys : List ℕ) → length xs ≡ length ys
    → bits 16 (checksum xs) ⊞ bits 16 (checksum ys) ≡ after (bits 16 0) (bits_of xs ⊞ bits_of ys)
checksum-difference xs ys h =
    ap₂ ◌⊞◌ (bits-checksum xs) (bits-checksum ys)
    ∙ after-⊞ (bits 16 start) (bits 16 start) (bits_of xs) (bits_of ys) (length-bits 16 start) (length-bits 16 start)
    (length-bits_of xs ∙ rw h (sym (length-bits_of ys)))
    ∙ ap (λ (l : List Bool). after l (bits_of xs ⊞ bits_of ys)) started

-- data bits can be brought in at once: they meet the bits that are the next to leave
pub folded : (r ds : List Bool) → length r ≡ 16 → length ds ≤ 16 → after r ds ≡ after (r ⊞ ds) (replicate (length ds) false)
unfolding after divided ◌⊞◌
folded r [] hr h = sym (⊞-nil r)
folded [] (d ∷ ds) hr h = absurd (omega arith)
folded (b ∷ bs) (d ∷ ds) hr h =
    folded (divided (b ∷ bs) d) ds (length-divided (b ∷ bs) d hr) (omega arith)
    ∙ ap (λ (l : List Bool). after l (replicate (length ds) false))
    (met ∙ ap₂ ◌⊞◌ (⊞-front bs (false ∷ []) ds (omega arith)) (ap taken (sym (⊕-false (b ⊕ d)))))
  where
    moved : List Bool
    moved = bs ++ (false ∷ [])

    met : (moved ⊞ taken (b ⊕ d)) ⊞ ds ≡ (moved ⊞ ds) ⊞ taken (b ⊕ d)
    met =
        ⊞-assoc moved (taken (b ⊕ d)) ds
        ∙ ap (λ (l : List Bool). moved ⊞ l) (⊞-comm (taken (b ⊕ d)) ds)
        ∙ sym (⊞-assoc moved ds (taken (b ⊕ d)))
