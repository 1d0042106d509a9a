-- The numbers that are answered beside a refusal are small, whatever is asked: 32 bits hold them.
-- Assumes nothing.
use Prim.Native.Nat.{ℕ, ◌+◌, ◌≤◌, zero-le}
use native.Mathlib.Omega.{arith}
use mathlib.Core.Path.{◌≡◌, refl, sym, subst}
use mathlib.Core.Bool.{Bool, true, false, cond}
use mathlib.Core.List.{List}
use lib.Dec.{eqb}
use lib.ListN.{length}
use Rattle.frames.specs.Registers.{Registers}
use Rattle.satellites.specs.declared.Satellite.{Satellite}
use Rattle.std.specs.Prelude.{Option, Some, None}
use Rattle.satellites.proofs.Laws.{type-byte-most}
use Rattle.layouts.specs.Layouts.{carries, entry_of, most_fields}
use Rattle.layouts.proofs.Entries.{fields-most, size-most, no-entry}
use Rattle.bodies.specs.Bodies.{fitting}
use Rattle.bodies.proofs.Laws.{fitting-below}
use Rattle.frames.specs.Answers.{Reading, Writing}
use Rattle.refusals.specs.Tests.{refusal}
use Rattle.frames.specs.Frames.{frame_length, type_of}
use Rattle.frames.specs.Reading.{reading_by, reading_tests, accepted_reading, refused_reading}
use Rattle.frames.specs.Writing.{writing, writing_tests, accepted_writing, refused_writing}
use Rattle.frames.specs.Editing.{editing_by, editing_tests}

-- 19 bytes ahead of the type byte, and what a size byte can tell
abbrev pub most_bytes : ℕ
most_bytes = 19 + 255

fields-few : (s : Satellite) (t : ℕ) → length (entry_of s t).widths ≤ most_fields
fields-few s t = go (carries s t) refl
  where
    go : (b : Bool) → carries s t ≡ b → length (entry_of s t).widths ≤ most_fields
    go true carried = fields-most s t carried
    go false other = rw (no-entry s t other) (omega arith)

frame-short : (s : Satellite) (t : ℕ) → frame_length s t ≤ most_bytes
frame-short s t = go (carries s t) refl
  where
    go : (b : Bool) → carries s t ≡ b → frame_length s t ≤ most_bytes
    go true carried = omega (arith, type-byte-most s, size-most s t carried)
    go false other = rw (no-entry s t other) (omega (arith, type-byte-most s))

reading_small : (r : Registers) (k : Option Satellite) (frame room : List ℕ) → (reading_by r k frame room).count ≤ most_fields
unfolding reading_by
reading_small r None frame room = omega arith
reading_small r (Some s) frame room = go (eqb (refusal (reading_tests r (Some s) frame room)) 0) (refusal (reading_tests r (Some s) frame room))
  where
    go : (b : Bool) (number : ℕ) → (cond b (accepted_reading s frame) (refused_reading number)).count ≤ most_fields
    go true number = fields-few s (type_of s frame)
    go false number = omega arith

pub count_small : (r : Registers) (k : Option Satellite) (frame room : List ℕ) {told : Reading} → told ≡ reading_by r k frame room
    → told.count ≤ most_fields
count_small r k frame room e = subst (λ (told : Reading). told.count ≤ most_fields) (sym e) (reading_small r k frame room)

-- what writing and editing answer
refused-small : (number field most : ℕ) → field ≤ most → (refused_writing number field).answer ≤ most
refused-small number field most fields = go (eqb number 11)
  where
    go : (b : Bool) → cond b field 0 ≤ most
    go true = fields
    go false = zero-le

answer-small : (s : Satellite) (t number field most : ℕ) (accepted : Bool) → most_bytes ≤ most → field ≤ most
    → (cond accepted (accepted_writing s t) (refused_writing number field)).answer ≤ most
answer-small s t number field most true frames fields = omega (arith, frame-short s t)
answer-small s t number field most false frames fields = refused-small number field most fields

writing-small : (k : Option Satellite) (t : ℕ) (values output : List ℕ) → (writing k t values output).answer ≤ most_bytes
unfolding writing
writing-small None t values output = refused-small (refusal (writing_tests None t values output)) 0 most_bytes zero-le
writing-small (Some s) t values output =
    let number = refusal (writing_tests (Some s) t values output) in
    let ws = (entry_of s t).widths in
    let fields : fitting ws values ≤ most_bytes = omega (arith, fitting-below ws values, fields-few s t) in
    answer-small s t number (fitting ws values) most_bytes (eqb number 0) (omega arith) fields

pub written_small : (k : Option Satellite) (t : ℕ) (values output : List ℕ) {told : Writing} → told ≡ writing k t values output
    → told.answer ≤ most_bytes
written_small k t values output e =
    subst (λ (told : Writing). told.answer ≤ most_bytes) (sym e) (writing-small k t values output)

-- in editing, the field that is told is the caller's own number
editing-small : (r : Registers) (k : Option Satellite) (frame : List ℕ) (field v most : ℕ) → most_bytes ≤ most → field ≤ most
    → (editing_by r k frame field v).answer ≤ most
unfolding editing_by
editing-small r None frame field v most frames fields =
    refused-small (refusal (editing_tests r None frame field v)) field most fields
editing-small r (Some s) frame field v most frames fields =
    let number = refusal (editing_tests r (Some s) frame field v) in
    answer-small s (type_of s frame) number field most (eqb number 0) frames fields

pub edited-small : (r : Registers) (k : Option Satellite) (frame : List ℕ) (field v : ℕ) {told : Writing} (most : ℕ) → most_bytes ≤ most
    → field ≤ most → told ≡ editing_by r k frame field v → told.answer ≤ most
edited-small r k frame field v most frames fields e =
    subst (λ (told : Writing). told.answer ≤ most) (sym e) (editing-small r k frame field v most frames fields)
