-- Laws of fields, over every start bit and every width: what is replaced can be read again, every other bit stays, and a
-- field is that of the bytes it touches.
-- Assumes nothing.
use mathlib.Core.Path.{◌≡◌, refl, sym, ap, ap₂, ◌∙◌}
use mathlib.Core.Bool.{Bool, true, false, ◌&&◌, cond}
use mathlib.Core.List.{List, [], ◌∷◌, ◌++◌, append_assoc}
use Prim.{⊥}
use Prim.Native.Nat.{ℕ, zero, suc, ◌+◌, ◌*◌, ◌^◌, ◌%◌, ◌≤◌}
use native.Mathlib.Nat.{add_assoc}
use native.Mathlib.Omega.{arith}
use lib.Dec.{leb}
use borrow.Author.Tests.{le-leb, leb-true}
use lib.ListN.{length, take, drop, length-take, length-drop, take-append-drop}
use lib.Seq.{take_at, drop_at, take-append-add, drop-append-add, take-append-le, drop-append-le, take-take, drop-drop}
use Rattle.bits.specs.Bits.{bits, number, bits_of, packed, field, changed, replaced, is_field, field_answer, replaced_answer, Bytes}
use Rattle.bits.proofs.Numbers.{length-bits, number-bits, bits-of}
use Rattle.bits.proofs.Bytes.{length-bits_of, length-packed, take-bits_of, drop-bits_of, bits_of-append, packed-bits_of, bits_of-packed, packed-append}
use Rattle.bits.proofs.Groups.{parts, length-changed}

-- ---- what replacing does to the bits

pub length-replaced : (at w v : ℕ) (s : List ℕ) → length (replaced at w v s) ≡ length s
unfolding replaced
length-replaced at w v s = length-packed (length s) (changed at w v (bits_of s))

module _ (at w v : ℕ) (s : List ℕ) (h : at + w ≤ 8 * length s) where
  inside : at + w ≤ length (bits_of s)
  inside = rw length-bits_of h

  ahead : length (take at (bits_of s)) ≡ at
  ahead = rw (length-take, length-bits_of) (omega arith)

  pub bits-replaced : bits_of (replaced at w v s) ≡ changed at w v (bits_of s)
  unfolding replaced
  bits-replaced =
      bits_of-packed (length s) (changed at w v (bits_of s)) (length-changed at w v (bits_of s) inside ∙ length-bits_of s)

  -- the bits ahead of the field and behind it stay
  pub replaced-ahead : take at (bits_of (replaced at w v s)) ≡ take at (bits_of s)
  replaced-ahead = rw bits-replaced (take_at (take at (bits_of s)) (bits w v ++ drop (at + w) (bits_of s)) at ahead)

  pub from_field : drop at (bits_of (replaced at w v s)) ≡ bits w v ++ drop (at + w) (bits_of s)
  from_field = rw bits-replaced (drop_at (take at (bits_of s)) (bits w v ++ drop (at + w) (bits_of s)) at ahead)

  pub replaced-behind : drop (at + w) (bits_of (replaced at w v s)) ≡ drop (at + w) (bits_of s)
  replaced-behind =
      sym (drop-drop w at (bits_of (replaced at w v s))) ∙ rw from_field (drop_at (bits w v) (drop (at + w) (bits_of s)) w (length-bits w v))

  -- the field now reads as the value's low bits
  pub field-replaced : field at w (replaced at w v s) ≡ v % 2 ^ w
  unfolding field
  field-replaced = rw (from_field, take_at (bits w v) (drop (at + w) (bits_of s)) w (length-bits w v)) (number-bits w v)

-- ---- what the functions answer

pub is_field_lem : (at w : ℕ) (s : List ℕ) → w ≤ 32 → at + w ≤ 8 * length s → is_field at w s ≡ true
unfolding is_field
is_field_lem at w s n h = ap₂ ◌&&◌ (le-leb w 32 n) (le-leb (at + w) (8 * length s) h)

-- there is no other
pub no_field : (at w : ℕ) (s : List ℕ) → (w ≤ 32 → at + w ≤ 8 * length s → ⊥) → is_field at w s ≡ false
unfolding is_field
no_field at w s none = by (leb w 32) (leb (at + w) (8 * length s)) refl refl
  where
    by : (narrow inside : Bool) → leb w 32 ≡ narrow → leb (at + w) (8 * length s) ≡ inside → narrow && inside ≡ false
    by true true n h = absurd (none (leb-true w 32 n) (leb-true (at + w) (8 * length s) h))
    by true false n h = refl
    by false _ n h = refl

-- replacing keeps the length, for every place and width
pub length-replaced-answer : (at w v : ℕ) (s : List ℕ) → length (replaced_answer at w v s) ≡ length s
length-replaced-answer at w v s = go (is_field at w s)
  where
    go : (inside : Bool) → length (cond inside (replaced at w v s) s) ≡ length s
    go true = length-replaced at w v s
    go false = refl

-- reading what was replaced gives the value's low bits, for every width from 0 to 32
pub read-replaced : (at w v : ℕ) (s : List ℕ) → w ≤ 32 → at + w ≤ 8 * length s
    → field_answer at w (replaced_answer at w v s) ≡ v % 2 ^ w
read-replaced at w v s n h =
    rw (is_field_lem at w s n h, is_field_lem at w (replaced at w v s) n (rw (length-replaced at w v s) h)) (field-replaced at w v s h)

-- a field replaced by its own value leaves the bytes as they are
pub replaced-same : (at w : ℕ) (s : List ℕ) → at + w ≤ 8 * length s → Bytes s → replaced at w (field at w s) s ≡ s
unfolding replaced field
replaced-same at w s h b =
    ap (λ (m : List Bool). packed (length s) (take at (bits_of s) ++ (m ++ drop (at + w) (bits_of s)))) own
    ∙ ap (packed (length s)) (parts (bits_of s) at w) ∙ packed-bits_of s b
  where
    wide : length (take w (drop at (bits_of s))) ≡ w
    wide = rw (length-take, length-drop, length-bits_of) (omega arith)

    own : bits w (number (take w (drop at (bits_of s)))) ≡ take w (drop at (bits_of s))
    own = bits-of w (take w (drop at (bits_of s))) wide

-- ---- a field and the bytes that it touches

take-drop-take : (w r n : ℕ) (l : List Bool) → r + w ≤ n → take w (drop r (take n l)) ≡ take w (drop r l)
take-drop-take w zero n l h = take-take w n l (omega arith)
take-drop-take w (suc r) zero l h = absurd (omega arith)
take-drop-take w (suc r) (suc n) [] h = refl
take-drop-take w (suc r) (suc n) (x ∷ l) h = take-drop-take w r n l (omega arith)

pub take-bytes : (n : ℕ) (s : List ℕ) → Bytes s → Bytes (take n s)
take-bytes zero s h i = omega arith
take-bytes (suc n) [] h i = omega arith
take-bytes (suc n) (x ∷ s) h zero = h 0
take-bytes (suc n) (x ∷ s) h (suc i) = take-bytes n s (λ j. h (suc j)) i

pub drop-bytes : (n : ℕ) (s : List ℕ) → Bytes s → Bytes (drop n s)
drop-bytes zero s h = h
drop-bytes (suc n) [] h = h
drop-bytes (suc n) (x ∷ s) h = drop-bytes n s (λ j. h (suc j))

-- r bits into the t bytes from byte q on
module _ (q t r w : ℕ) (s : List ℕ) (inner : r + w ≤ 8 * t) where
  pub field-part : field (8 * q + r) w s ≡ field r w (take t (drop q s))
  unfolding field
  field-part =
      ap (λ (l : List Bool). number (take w l))
      (sym (drop-drop r (8 * q) (bits_of s)) ∙ ap (drop r) (drop-bits_of q s))
      ∙ ap number (sym (take-drop-take w r (8 * t) (bits_of (drop q s)) inner))
      ∙ ap (λ (l : List Bool). number (take w (drop r l))) (take-bits_of t (drop q s))

  module _ (outer : q + t ≤ length s) (b : Bytes s) where
    abbrev before : List ℕ
    before = take q s

    abbrev touched : List ℕ
    touched = take t (drop q s)

    abbrev after : List ℕ
    after = drop t (drop q s)

    before-length : length before ≡ q
    before-length = rw length-take (omega arith)

    touched-length : length touched ≡ t
    touched-length = rw (length-take, length-drop) (omega arith)

    whole : length s ≡ q + (t + length after)
    whole = rw (length-drop t (drop q s), length-drop q s) (omega arith)

    before-bits : length (bits_of before) ≡ 8 * q
    before-bits = rw (length-bits_of, before-length)

    touched-bits : length (bits_of touched) ≡ 8 * t
    touched-bits = rw (length-bits_of, touched-length)

    split : bits_of s ≡ bits_of before ++ (bits_of touched ++ bits_of after)
    split =
        ap bits_of (sym (take-append-drop q s))
        ∙ bits_of-append before (drop q s)
        ∙ ap (λ (l : List Bool). bits_of before ++ l) (ap bits_of (sym (take-append-drop t (drop q s))) ∙ bits_of-append touched after)

    taken : take (8 * q + r) (bits_of s) ≡ bits_of before ++ take r (bits_of touched)
    taken =
        rw (split, ← before-bits, take-append-add (bits_of before) (bits_of touched ++ bits_of after) r)
        (ap (λ (l : List Bool). bits_of before ++ l) (take-append-le r (bits_of touched) (bits_of after) (rw touched-bits (omega arith))))

    dropped : drop (8 * q + r + w) (bits_of s) ≡ drop (r + w) (bits_of touched) ++ bits_of after
    dropped =
        ap (λ (n : ℕ). drop n (bits_of s)) (add_assoc (8 * q) r w)
        ∙ rw (split, ← before-bits, drop-append-add (bits_of before) (bits_of touched ++ bits_of after) (r + w))
        (drop-append-le (r + w) (bits_of touched) (bits_of after) (rw touched-bits inner))

    changed-length : (v : ℕ) → length (changed r w v (bits_of touched)) ≡ 8 * t
    changed-length v = length-changed r w v (bits_of touched) (rw touched-bits inner) ∙ touched-bits

    pub replaced-part : (v : ℕ) → replaced (8 * q + r) w v s ≡ before ++ (replaced r w v touched ++ after)
    unfolding replaced
    replaced-part v =
        rw (taken, dropped)
        (ap₂ packed whole (simp append_assoc)
        ∙ packed-append q (t + length after) (bits_of before) (changed r w v (bits_of touched) ++ bits_of after) before-bits
        ∙ ap₂ ◌++◌ (rw before-length at (packed-bits_of before (take-bytes q s b)))
        (packed-append t (length after) (changed r w v (bits_of touched)) (bits_of after) (changed-length v)
        ∙ ap₂ ◌++◌
        (ap (λ (n : ℕ). packed n (changed r w v (bits_of touched))) (sym touched-length))
        (packed-bits_of after (drop-bytes t (drop q s) (drop-bytes q s b)))))
