-- Tests 9, 13 and 11 on what lies from type byte to checksum, and that part with one field replaced.
use Rattle.std.specs.Prelude.{ℕ, ◌^◌, cond, List, [], ◌∷◌, eqb, ltb, get_or}
use Rattle.bits.specs.Bits.{replaced_answer}
use Rattle.scrambler.specs.Scrambler.{Register}
use Rattle.layouts.specs.declared.Layout.{Layout}
use Rattle.layouts.specs.Layouts.{width_at, start_at}
use Rattle.refusals.specs.Tests.{Test, test, refusal}
use Rattle.frames.specs.Frames.{sealed, clear_body}
use Rattle.frames.specs.Reading.{checksum_right}

-- 13 and 11, for any layout; and with 9 ahead
abbrev pub field_tests : Layout → ℕ → ℕ → List Test
field_tests layout k v = test 13 (ltb k layout.fields) ∷ test 11 (ltb v (2 ^ width_at layout.widths k)) ∷ []

abbrev pub part_tests : Register → Layout → List ℕ → ℕ → ℕ → List Test
part_tests r layout part k v = test 9 (checksum_right r part) ∷ field_tests layout k v

-- the part with the field of its unscrambled body replaced
abbrev pub edited_part : Register → Layout → List ℕ → ℕ → ℕ → List ℕ
edited_part r layout part k v =
    sealed r (get_or part 0 0) (replaced_answer (start_at layout.widths k) (width_at layout.widths k) v (clear_body r part))

abbrev pub part_after : Register → Layout → List ℕ → ℕ → ℕ → List ℕ
part_after r layout part k v = cond (eqb (refusal (part_tests r layout part k v)) 0) (edited_part r layout part k v) part
