-- Bits, most significant first (01, "From antenna order to bytes"; FORMAT 1). Every statement about frames, fields,
-- checksums and scrambling is one about these lists of bits; numbers and bytes stand only at the edges.
use Rattle.std.specs.Prelude.{ℕ, zero, suc, ◌+◌, ◌*◌, ◌/◌, ◌%◌, ◌^◌, ◌<◌, Bool, true, false, not, ◌&&◌, cond, List, [], ◌∷◌, ◌++◌, length, get_or, take, drop, eqb, leb}

infixl 65 ◌⊕◌
infixl 60 ◌⊞◌
-- two bits, xor
abbrev pub ◌⊕◌ : Bool → Bool → Bool
true ⊕ b = not b
false ⊕ b = b

-- two lists of bits, xor place by place; past the end of the shorter one stand 0s
unfoldable pub ◌⊞◌ : List Bool → List Bool → List Bool
[] ⊞ ys = ys
(x ∷ xs) ⊞ [] = x ∷ xs
(x ∷ xs) ⊞ (y ∷ ys) = (x ⊕ y) ∷ (xs ⊞ ys)

-- the lowest bit of a number
unfoldable pub odd : ℕ → Bool
odd n = eqb (n % 2) 1

-- the w low bits of n
unfoldable pub bits : ℕ → ℕ → List Bool
bits zero n = []
bits (suc w) n = odd (n / 2 ^ w) ∷ bits w n

-- the unsigned number that bits stand for
unfoldable pub number : List Bool → ℕ
number [] = 0
number (b ∷ bs) = cond b 1 0 * 2 ^ length bs + number bs

-- the bits of bytes, in antenna order
unfoldable pub bits_of : List ℕ → List Bool
bits_of [] = []
bits_of (x ∷ xs) = bits 8 x ++ bits_of xs

-- every element is a byte
abbrev pub Bytes : List ℕ → Type 0
Bytes xs = (i : ℕ) → get_or xs i 0 < 256

-- n bytes made of bits in antenna order
unfoldable pub packed : ℕ → List Bool → List ℕ
packed zero bs = []
packed (suc n) bs = number (take 8 bs) ∷ packed n (drop 8 bs)

-- a field: the number that stands in `width` bits from bit `at` on
unfoldable pub field : ℕ → ℕ → List ℕ → ℕ
field at width bytes = number (take width (drop at (bits_of bytes)))

-- bits, of which `width` from bit `at` on are changed to the low bits of v, and no other
abbrev pub changed : ℕ → ℕ → ℕ → List Bool → List Bool
changed at width v bs = take at bs ++ (bits width v ++ drop (at + width) bs)

-- the bytes with that field replaced by the low `width` bits of v
unfoldable pub replaced : ℕ → ℕ → ℕ → List ℕ → List ℕ
replaced at width v bytes = packed (length bytes) (changed at width v (bits_of bytes))

-- a field has at most 32 bits and lies inside the bytes
unfoldable pub is_field : ℕ → ℕ → List ℕ → Bool
is_field at width bytes = leb width 32 && leb (at + width) (8 * length bytes)

-- what reading answers for any place and width: the field, or 0 where there is none
abbrev pub field_answer : ℕ → ℕ → List ℕ → ℕ
field_answer at width bytes = cond (is_field at width bytes) (field at width bytes) 0

-- what replacing leaves for any place and width: the bytes stay where there is no field
abbrev pub replaced_answer : ℕ → ℕ → ℕ → List ℕ → List ℕ
replaced_answer at width v bytes = cond (is_field at width bytes) (replaced at width v bytes) bytes

-- a number as n bytes, the highest first
abbrev pub in_bytes : ℕ → ℕ → List ℕ
in_bytes n v = packed n (bits (8 * n) v)
