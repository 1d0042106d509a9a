-- What the contracts say, about their own text (`Post`, as the check reads it: the arguments a, the result r, and the parameters at
-- exit s), of the very bytes, start bit, width and value that the call was given.
-- Assumes nothing.
use Prim.{⊥}
use Prim.Native.Nat.{◌+◌, ◌*◌, ◌≤◌}
use mathlib.Core.Path.{◌≡◌, ◌∙◌, ap}
use mathlib.Core.List.{◌++◌}
use lib.ListN.{length, take, drop}
use Rattle.bits.specs.Bits.{bits, bits_of, field, field_answer, replaced, replaced_answer}
use Rattle.bits.proofs.Fields.{is_field_lem, no_field, bits-replaced}
use Rattle.bits.proofs.read_field.Reads as read-field
use Rattle.bits.proofs.replace_field.Reads as replace-field

pub read-field-says : (κs a r s : _) → read-field.Post κs a r s
    → (r ≡ field_answer a.1.0 a.1.1.0 a.0.now) × (s.0.now ≡ a.0.now)
read-field-says κs a r s p = p

pub replace-field-says : (κs a r s : _) → replace-field.Post κs a r s
    → s.0.now ≡ replaced_answer a.1.0 a.1.1.0 a.1.1.1.0 a.0.now
replace-field-says κs a r s p = p

-- ---- a field of at most 32 bits inside the bytes

pub read-inside : (κs a r s : _) → read-field.Post κs a r s → a.1.1.0 ≤ 32 → a.1.0 + a.1.1.0 ≤ 8 * length a.0.now
    → r ≡ field a.1.0 a.1.1.0 a.0.now
read-inside κs a r s p narrow inside = p.0 ∙ rw (is_field_lem a.1.0 a.1.1.0 a.0.now narrow inside)

-- its bits are the value's low bits, and every other bit stays
pub replaced-inside : (κs a r s : _) → replace-field.Post κs a r s → a.1.1.0 ≤ 32 → a.1.0 + a.1.1.0 ≤ 8 * length a.0.now
    → bits_of s.0.now
    ≡ take a.1.0 (bits_of a.0.now) ++ (bits a.1.1.0 a.1.1.1.0 ++ drop (a.1.0 + a.1.1.0) (bits_of a.0.now))
replaced-inside κs a r s p narrow inside =
    let bytes : s.0.now ≡ replaced a.1.0 a.1.1.0 a.1.1.1.0 a.0.now =
    p ∙ rw (is_field_lem a.1.0 a.1.1.0 a.0.now narrow inside) in
    ap bits_of bytes ∙ bits-replaced a.1.0 a.1.1.0 a.1.1.1.0 a.0.now inside

-- ---- no such field

pub read_none : (κs a r s : _) → read-field.Post κs a r s → (a.1.1.0 ≤ 32 → a.1.0 + a.1.1.0 ≤ 8 * length a.0.now → ⊥) → r ≡ 0
read_none κs a r s p none = p.0 ∙ rw (no_field a.1.0 a.1.1.0 a.0.now none)

pub replaced-none : (κs a r s : _) → replace-field.Post κs a r s
    → (a.1.1.0 ≤ 32 → a.1.0 + a.1.1.0 ≤ 8 * length a.0.now → ⊥) → s.0.now ≡ a.0.now
replaced-none κs a r s p none = p ∙ rw (no_field a.1.0 a.1.1.0 a.0.now none)
