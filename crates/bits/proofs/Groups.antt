-- A few bytes as one number, and the field that is cut out of it or put into it: the arithmetic of `gather`, `spread`,
-- `cut` and `put`, over bits alone.
-- Assumes nothing.
use mathlib.Core.Path.{◌≡◌, sym, ap, ap₂, ◌∙◌}
use mathlib.Core.Bool.{Bool}
use mathlib.Core.List.{List, [], ◌∷◌, ◌++◌, append-nil}
use Prim.Native.Nat.{ℕ, zero, suc, ◌+◌, ◌*◌, ◌-◌, ◌/◌, ◌%◌, ◌^◌, ◌≤◌, ◌<◌}
use native.Mathlib.Nat.{mod-eq_of_lt, le_trans, le_refl}
use native.Mathlib.Numerals.{add-one, sub-one}
use native.Mathlib.Omega.{arith}
use lib.ListN.{length, get_or, take, drop, set, length-append, length-take, length-drop, take-append-drop}
use lib.Seq.{take-suc, take_all, drop-cons, lt-length-set, get_or-set_same, drop-set-lt, append_snoc, drop-drop}
use lib.Pow.{pow_mono, pow-add, high, low}
use Rattle.bits.specs.Bits.{bits, number, bits_of, packed, changed, in_bytes}
use Rattle.bits.proofs.Numbers.{length-bits, number-bits, number_lt, number_append, bits-append}
use Rattle.bits.proofs.Bytes.{length-bits_of, bits_of-append, packed-append}

-- n bytes make a number of at most 8 n bits
pub gathered-lt : (n : ℕ) (xs : List ℕ) → length xs ≤ n → number (bits_of xs) < 2 ^ (8 * n)
gathered-lt n xs h = le_trans (number_lt (bits_of xs)) (pow_mono (rw length-bits_of (omega arith)))

-- one byte more is gathered
pub gathered_next : (xs : List ℕ) (i : ℕ) → i < length xs → get_or xs i 0 < 256
    → number (bits_of (take (i + 1) xs)) ≡ number (bits_of (take i xs)) * 256 + get_or xs i 0
unfolding bits_of
gathered_next xs i h b =
    rw (add-one i, take-suc xs i 0 h, bits_of-append (take i xs) (get_or xs i 0 ∷ []), append-nil (bits 8 (get_or xs i 0)))
    (number_append (bits_of (take i xs)) (bits 8 (get_or xs i 0))
    ∙ rw (length-bits 8 (get_or xs i 0), number-bits 8 (get_or xs i 0), mod-eq_of_lt b))

-- the last of n + 1 bytes is the lowest
pub in_bytes-next : (n v : ℕ) → in_bytes (suc n) v ≡ in_bytes n (v / 256) ++ (v % 256 ∷ [])
unfolding packed
in_bytes-next n v =
    let e : 8 * suc n ≡ 8 * n + 8 = omega arith in
    ap₂ (λ (m k : ℕ). packed m (bits k v)) (sym (add-one n)) e
    ∙ ap (packed (n + 1)) (bits-append (8 * n) 8 v)
    ∙ packed-append n 1 (bits (8 * n) (v / 256)) (bits 8 v) (length-bits (8 * n) (v / 256))
    ∙ ap (λ (b : ℕ). in_bytes n (v / 256) ++ (b ∷ [])) (ap number (take_all 8 (bits 8 v) (rw length-bits (omega arith))) ∙ number-bits 8 v)

-- the byte ahead of those already stored
pub spread-next : (i v : ℕ) (xs : List ℕ) → 0 < i → i ≤ length xs
    → in_bytes (i - 1) (v / 256) ++ drop (i - 1) (set xs (i - 1) (v % 256)) ≡ in_bytes i v ++ drop i xs
spread-next zero v xs p h = absurd (omega arith)
spread-next (suc k) v xs p h =
    let b = v % 256 in
    rw (
      sub-one (suc k),
      drop-cons (set xs k b) k 0 (lt-length-set xs k b h),
      get_or-set_same xs k b 0 h,
      drop-set-lt (suc k) xs k b (le_refl (suc k)),
      in_bytes-next k v,
    )
    (sym (append_snoc (in_bytes k (v / 256)) (v % 256) (drop (suc k) xs)))

-- bits fall into those ahead of a field, the field, and those behind it
pub parts : (bs : List Bool) (r w : ℕ) → take r bs ++ (take w (drop r bs) ++ drop (r + w) bs) ≡ bs
parts bs r w = rw (← drop-drop w r bs, take-append-drop w (drop r bs)) (take-append-drop r bs)

-- with the field changed they are as many
pub length-changed : (r w v : ℕ) (bs : List Bool) → r + w ≤ length bs → length (changed r w v bs) ≡ length bs
length-changed r w v bs h =
    rw (
      length-append (take r bs) (bits w v ++ drop (r + w) bs),
      length-append (bits w v) (drop (r + w) bs),
      length-bits w v,
      length-take,
      length-drop,
    )
    (omega arith)

number-parts : (p m q : List Bool) → number (p ++ (m ++ q)) ≡ (number p * 2 ^ length m + number m) * 2 ^ length q + number q
number-parts p m q =
    rw (number_append p (m ++ q), number_append m q, length-append m q, pow-add 2 (length m) (length q)) (omega arith)

-- a field of w bits with r bits ahead and k behind, in the number of all of them
module _ (bs : List Bool) (r w k : ℕ) (h : length bs ≡ r + (w + k)) where
  mid-length : length (take w (drop r bs)) ≡ w
  mid-length = rw (length-take, length-drop) (omega arith)

  end-length : length (drop (r + w) bs) ≡ k
  end-length = rw length-drop (omega arith)

  whole : number bs ≡ (number (take r bs) * 2 ^ w + number (take w (drop r bs))) * 2 ^ k + number (drop (r + w) bs)
  whole =
      ap number (sym (parts bs r w)) ∙ number-parts (take r bs) (take w (drop r bs)) (drop (r + w) bs) ∙ rw (mid-length, end-length)

  end_lt : number (drop (r + w) bs) < 2 ^ k
  end_lt = rw end-length at (number_lt (drop (r + w) bs))

  mid-lt : number (take w (drop r bs)) < 2 ^ w
  mid-lt = rw mid-length at (number_lt (take w (drop r bs)))

  behind-is : number bs % 2 ^ k ≡ number (drop (r + w) bs)
  behind-is = rw whole (low (number (take r bs) * 2 ^ w + number (take w (drop r bs))) k end_lt)

  upper : number bs / 2 ^ k ≡ number (take r bs) * 2 ^ w + number (take w (drop r bs))
  upper = rw whole (high (number (take r bs) * 2 ^ w + number (take w (drop r bs))) k end_lt)

  pub field_is : number bs / 2 ^ k % 2 ^ w ≡ number (take w (drop r bs))
  field_is = rw upper (low (number (take r bs)) w mid-lt)

  ahead-is : number bs / 2 ^ k / 2 ^ w ≡ number (take r bs)
  ahead-is = rw upper (high (number (take r bs)) w mid-lt)

  -- and in that of the same bits with the field changed
  pub number-changed : (v : ℕ) → (number bs / 2 ^ k / 2 ^ w * 2 ^ w + v % 2 ^ w) * 2 ^ k + number bs % 2 ^ k ≡ number (changed r w v bs)
  number-changed v =
      rw (ahead-is, behind-is)
      (sym (number-parts (take r bs) (bits w v) (drop (r + w) bs) ∙ rw (length-bits w v, end-length, number-bits w v)))
