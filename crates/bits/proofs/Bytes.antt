-- Bytes and their bits: `bits_of` and `packed` are inverse, and a cut between bytes is a cut at a multiple of 8 bits.
-- Assumes nothing.
use mathlib.Core.Path.{◌≡◌, refl, sym, ap, ap₂, ◌∙◌}
use mathlib.Core.Bool.{Bool}
use mathlib.Core.List.{List, [], ◌∷◌, ◌++◌, append_assoc}
use Prim.Native.Nat.{ℕ, zero, suc, ◌+◌, ◌*◌}
use native.Mathlib.Nat.{mod-eq_of_lt, suc-add, zero-add, le_trans, min-le_left}
use native.Mathlib.Omega.{arith}
use lib.ListN.{length, take, drop, length-append, length-take, length-drop, take-append-drop}
use lib.Seq.{take-nil, drop-nil, take_at, drop_at, take-append-add, drop-append-add, take-append-le, drop-append-le}
use lib.Pow.{pow_mono}
use Rattle.bits.specs.Bits.{bits, number, bits_of, packed, in_bytes, Bytes}
use Rattle.bits.proofs.Numbers.{length-bits, number-bits, number_lt, bits-of}

pub length-bits_of : (xs : List ℕ) → length (bits_of xs) ≡ 8 * length xs
unfolding bits_of
length-bits_of [] = refl
length-bits_of (x ∷ xs) = rw (length-append (bits 8 x) (bits_of xs), length-bits 8 x, length-bits_of xs) (omega arith)

pub length-packed : (n : ℕ) (bs : List Bool) → length (packed n bs) ≡ n
unfolding packed
length-packed zero bs = refl
length-packed (suc n) bs = ap suc (length-packed n (drop 8 bs))

pub bits_of-append : (xs ys : List ℕ) → bits_of (xs ++ ys) ≡ bits_of xs ++ bits_of ys
unfolding bits_of
bits_of-append [] ys = refl
bits_of-append (x ∷ xs) ys = rw (bits_of-append xs ys, append_assoc (bits 8 x) (bits_of xs) (bits_of ys))

one_more : (n x : ℕ) → 8 * suc n ≡ length (bits 8 x) + 8 * n
one_more n x = rw length-bits (omega arith)

-- as many whole bytes as are taken or dropped
pub take-bits_of : (n : ℕ) (xs : List ℕ) → take (8 * n) (bits_of xs) ≡ bits_of (take n xs)
unfolding bits_of
take-bits_of zero xs = refl
take-bits_of (suc n) [] = take-nil (8 * suc n)
take-bits_of (suc n) (x ∷ xs) =
    rw (one_more n x, take-append-add (bits 8 x) (bits_of xs) (8 * n), take-bits_of n xs)

pub drop-bits_of : (n : ℕ) (xs : List ℕ) → drop (8 * n) (bits_of xs) ≡ bits_of (drop n xs)
unfolding bits_of
drop-bits_of zero xs = refl
drop-bits_of (suc n) [] = drop-nil (8 * suc n)
drop-bits_of (suc n) (x ∷ xs) =
    rw (one_more n x, drop-append-add (bits 8 x) (bits_of xs) (8 * n), drop-bits_of n xs)

pub packed-bits_of : (xs : List ℕ) → Bytes xs → packed (length xs) (bits_of xs) ≡ xs
unfolding bits_of packed
packed-bits_of [] h = refl
packed-bits_of (x ∷ xs) h =
    ap₂ ◌∷◌
    (ap number (take_at (bits 8 x) (bits_of xs) 8 (length-bits 8 x)) ∙ number-bits 8 x ∙ mod-eq_of_lt (h 0))
    (ap (packed (length xs)) (drop_at (bits 8 x) (bits_of xs) 8 (length-bits 8 x)) ∙ packed-bits_of xs (λ i. h (suc i)))

pub bits_of-packed : (n : ℕ) (bs : List Bool) → length bs ≡ 8 * n → bits_of (packed n bs) ≡ bs
unfolding bits_of packed
bits_of-packed zero [] h = refl
bits_of-packed zero (b ∷ bs) h = absurd (omega arith)
bits_of-packed (suc n) bs h =
    ap₂ ◌++◌ (bits-of 8 (take 8 bs) (rw length-take (omega arith))) (bits_of-packed n (drop 8 bs) (rw length-drop (omega arith)))
    ∙ take-append-drop 8 bs

-- the bits of a number written as bytes
pub bits_of-in_bytes : (n v : ℕ) → bits_of (in_bytes n v) ≡ bits (8 * n) v
bits_of-in_bytes n v = bits_of-packed n (bits (8 * n) v) (length-bits (8 * n) v)

pub packed-append : (m n : ℕ) (xs ys : List Bool) → length xs ≡ 8 * m → packed (m + n) (xs ++ ys) ≡ packed m xs ++ packed n ys
unfolding packed
packed-append zero n [] ys h = rw zero-add
packed-append zero n (x ∷ xs) ys h = absurd (omega arith)
packed-append (suc m) n xs ys h =
    ap (λ (k : ℕ). packed k (xs ++ ys)) (suc-add m n)
    ∙ ap₂ ◌∷◌
    (ap number (take-append-le 8 xs ys (omega arith)))
    (ap (packed (m + n)) (drop-append-le 8 xs ys (omega arith)) ∙ packed-append m n (drop 8 xs) ys (rw length-drop (omega arith)))

pub packed-bytes : (n : ℕ) (bs : List Bool) → Bytes (packed n bs)
unfolding packed
packed-bytes zero bs i = omega arith
packed-bytes (suc n) bs zero = le_trans (number_lt (take 8 bs)) (pow_mono {j = 8} (rw length-take (min-le_left 8 (length bs))))
packed-bytes (suc n) bs (suc i) = packed-bytes n (drop 8 bs) i

pub append-bytes : (xs ys : List ℕ) → Bytes xs → Bytes ys → Bytes (xs ++ ys)
append-bytes [] ys hx hy i = hy i
append-bytes (x ∷ xs) ys hx hy zero = hx 0
append-bytes (x ∷ xs) ys hx hy (suc i) = append-bytes xs ys (λ j. hx (suc j)) hy i

-- bytes whose bits are the same are the same
pub same_bytes : (xs ys : List ℕ) → Bytes xs → Bytes ys → bits_of xs ≡ bits_of ys → xs ≡ ys
same_bytes xs ys hx hy e =
    let long : length xs ≡ length ys = omega (arith, length-bits_of xs, length-bits_of ys, ap length e) in
    sym (packed-bits_of xs hx) ∙ ap₂ packed long e ∙ packed-bits_of ys hy
