-- What editing answers and leaves, from the tests that hold and the first that fails.
-- Assumes nothing.
use Prim.Native.Nat.{ℕ, ◌-◌, ◌^◌, ◌<◌}
use native.Mathlib.Omega.{arith}
use mathlib.Core.Path.{◌≡◌, refl, sym, ◌∙◌, ap, ap₂}
use mathlib.Core.Logic.{◌≢◌}
use mathlib.Core.Bool.{true}
use mathlib.Core.List.{List, [], ◌∷◌, ◌++◌, append-nil, append_assoc}
use lib.Dec.{ltb}
use lib.ListN.{length, take, drop, set, length-drop, drop_of_length-le, take-append-drop}
use borrow.Author.Tests.{ltb-true, ne_eqb}
use Rattle.bits.specs.Bits.{bits_of, packed, replaced_answer}
use Rattle.satellites.specs.declared.Satellite.{Satellite}
use Rattle.std.specs.Prelude.{Some, None, Ok, Err, ⊤}
use Rattle.satellites.specs.Satellites.{type_byte_at}
use Rattle.layouts.specs.declared.Layout.{Layout}
use Rattle.layouts.specs.Layouts.{laid_out, width_at, start_at}
use Rattle.layouts.proofs.Entries.{widths-allowed}
use Rattle.layouts.proofs.Laid.{width-laid, start-laid}
use Rattle.bodies.specs.Bodies.{told, tiled}
use Rattle.bodies.proofs.Changes.{field-changed}
use Rattle.refusals.specs.Tests.{Test, test, refusal, holding}
use Rattle.frames.specs.Registers.{Registers}
use Rattle.frames.specs.Frames.{sealed, body_of, frame_of, from_type_byte, clear_body, type_of, entry_in, values_of}
use Rattle.frames.specs.Reading.{checksum_test, whole_tests, frame_tests}
use Rattle.frames.specs.Writing.{accepted_writing, refused_writing}
use Rattle.frames.specs.Editing.{editing_tests, editing_by, edited, frame_after_by}
use Rattle.refusals.specs.declared.Refusal.{Refusal}
use Rattle.refusals.proofs.Refusals.{number-above}
use Rattle.frames.specs.Answers.{written_in_numbers}
use Rattle.frames.proofs.Told.{refused-written}
use Rattle.fronts.specs.Fronts.{tested_by}
use Rattle.fronts.proofs.Told.{whole-refused}
use Rattle.refusals.proofs.Tests.{numbered, holds-numbered}
use Rattle.frames.proofs.Fronts.{whole-fails, front-is, is_carried, is-typed, clear-length, clear-tiled}
use Rattle.frames.proofs.Edits.{Answers, refused-with, accepted-with, passed-7}
use Rattle.editing.specs.Changed.{part_tests, edited_part}
use Rattle.editing.proofs.Changes.{Leaves, part-refused, part-accepted}

pub unknown-refused : (r : Registers) (frame : List ℕ) (k v : ℕ)
    → (refused_writing 1 k ≡ editing_by r None frame k v) × (frame ≡ frame_after_by r None frame k v)
unfolding editing_by frame_after_by editing_tests refusal
unknown-refused r frame k v = (refl, refl)

module _ (r : Registers) (s : Satellite) (frame : List ℕ) (k v : ℕ) where
  -- tests 2 to 7
  pub whole-refuses : (e : Refusal) → Err e ≡ tested_by (whole_tests s frame) s frame
      → Answers r s frame k v (written_in_numbers (Err e)) frame
  unfolding editing_tests frame_tests
  whole-refuses e told =
      let n = refusal (whole_tests s frame) in
      let its = whole-refused s frame k e told in
      let some : n ≢ 0 = λ none. omega (arith, number-above e, its.0, none) in
      let answers =
      refused-with r s frame k v n
      (ap (λ (ts : List Test). refusal (test 1 true ∷ ts)) (append_assoc (whole_tests s frame) (checksum_test (r s) s frame ∷ []) _)
      ∙ whole-fails s frame _ n refl some)
      some in
      (refused-written e n k its ∙ answers.0, answers.1)

  module _ (whole : refusal (whole_tests s frame) ≡ 0) where
    abbrev type : ℕ
    type = type_of s frame

    abbrev ws : List ℕ
    ws = (entry_in s frame).widths

    abbrev layout : Layout
    layout = laid_out s (entry_in s frame)

    abbrev part : List ℕ
    part = from_type_byte s frame

    abbrev body : List ℕ
    body = clear_body (r s) part

    -- the tests that are left are those of the part
    part-decides : refusal (editing_tests r (Some s) frame k v) ≡ refusal (part_tests (r s) layout part k v)
    part-decides =
        passed-7 r s frame k v whole
        ∙ ap (λ (w : ℕ). refusal (checksum_test (r s) s frame ∷ test 13 (ltb k (length ws)) ∷ test 11 (ltb v (2 ^ w)) ∷ []))
        (sym (width-laid ws k))

    -- the body with its field replaced is that of the values with one changed
    body-edited : k < length ws
        → replaced_answer (start_at layout.widths k) (width_at layout.widths k) v body
        ≡ body_of (entry_in s frame) (set (told ws (bits_of body)) k v)
    body-edited inside =
        let bytes : length body ≡ (entry_in s frame).size - 3 = omega (arith, clear-length s frame whole (r s)) in
        ap₂ (λ (at w : ℕ). replaced_answer at w v body) (start-laid ws k (omega (arith, inside))) (width-laid ws k)
        ∙ field-changed ws body k v (clear-tiled s frame whole (r s)) (widths-allowed s type (is_carried s frame whole)) inside
        ∙ ap (λ (n : ℕ). packed n (tiled ws (set (told ws (bits_of body)) k v))) bytes

    -- where none fails, there is such a field
    inside : refusal (part_tests (r s) layout part k v) ≡ 0 → k < length ws
    unfolding numbered holding
    inside none = ltb-true k (length ws) (holds-numbered (part_tests (r s) layout part k v) tt none 13)

    -- behind what is ahead of the type byte, it is the edited frame
    part-edited : k < length ws → take (type_byte_at s) frame ++ edited_part (r s) layout part k v ≡ edited (r s) s frame k v
    unfolding frame_of values_of
    part-edited inside =
        ap₂ ◌++◌ (front-is s frame whole) (ap₂ (sealed (r s)) (is-typed s frame whole) (body-edited inside))

    -- the frame, with a part put back where it was lent
    abbrev put_back : List ℕ → List ℕ
    put_back left = take (type_byte_at s) frame ++ (left ++ drop (length frame - type_byte_at s) part)

    behind : (left is : List ℕ) → left ≡ is → put_back left ≡ take (type_byte_at s) frame ++ is
    behind left is e =
        let none : drop (length frame - type_byte_at s) part ≡ [] =
        drop_of_length-le part {i = length frame - type_byte_at s} (omega (arith, length-drop (type_byte_at s) frame)) in
        ap (λ (l : List ℕ). take (type_byte_at s) frame ++ l) (ap (λ (l : List ℕ). left ++ l) none ∙ append-nil left ∙ e)

    -- what the part's answer and what is left of it say of the frame
    pub part-refuses : (e : Refusal) (left : List ℕ) → Leaves (r s) layout part k v (Err e) left
        → Answers r s frame k v (written_in_numbers (Err e)) (put_back left)
    part-refuses e left leaves =
        let n = refusal (part_tests (r s) layout part k v) in
        let its = part-refused (r s) layout part k v e leaves.0 in
        let some : n ≢ 0 = λ none. omega (arith, number-above e, its.0, none) in
        let kept : left ≡ part = leaves.1 ∙ rw (ne_eqb n 0 some) in
        let told = refused-with r s frame k v n part-decides some in
        (refused-written e n k its ∙ told.0, behind left part kept ∙ take-append-drop (type_byte_at s) frame ∙ told.1)

    pub part-accepts : (done : ⊤) (left : List ℕ) → Leaves (r s) layout part k v (Ok done) left
        → Answers r s frame k v (accepted_writing s type) (put_back left)
    part-accepts done left leaves =
        let none = part-accepted (r s) layout part k v done leaves.0 in
        let told = accepted-with r s frame k v (part-decides ∙ none) in
        let new : left ≡ edited_part (r s) layout part k v = leaves.1 ∙ rw none in
        (told.0, behind left (edited_part (r s) layout part k v) new ∙ part-edited (inside none) ∙ told.1)
