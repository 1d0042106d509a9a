-- Editing one field (01, "What is refused, and in which order"; FORMAT 7 and 8): the tests in their order, the answer, and the
-- frame.
use Rattle.std.specs.Prelude.{ℕ, ◌^◌, true, false, cond, List, [], ◌∷◌, ◌++◌, length, set, eqb, ltb, Option, Some, None}
use Rattle.scrambler.specs.Scrambler.{Register}
use Rattle.satellites.specs.declared.Satellite.{Satellite}
use Rattle.layouts.specs.Layouts.{width_at}
use Rattle.frames.specs.Answers.{Writing}
use Rattle.refusals.specs.Tests.{Test, test, refusal}
use Rattle.frames.specs.Registers.{Registers, register_of}
use Rattle.frames.specs.Frames.{frame_of, type_of, entry_in, values_of}
use Rattle.frames.specs.Reading.{frame_tests}
use Rattle.frames.specs.Writing.{accepted_writing, refused_writing}

-- "Editing (satellite, frame, field, value) tests 1 to 7, 9, 13, 11"
unfoldable pub editing_tests : Registers → Option Satellite → List ℕ → ℕ → ℕ → List Test
editing_tests r None frame k v = test 1 false ∷ []
editing_tests r (Some s) frame k v =
    test 1 true
    ∷ (frame_tests (r s) s frame
    -- "no field of that number"
    ++ (test 13 (ltb k (length (entry_in s frame).widths))
    -- "a value does not fit its field"
    ∷ test 11 (ltb v (2 ^ width_at (entry_in s frame).widths k))
    ∷ []))

-- "It answers the length; a refusal answers 0, and 11 the field's number"
unfoldable pub editing_by : Registers → Option Satellite → List ℕ → ℕ → ℕ → Writing
editing_by r None frame k v = refused_writing (refusal (editing_tests r None frame k v)) k
editing_by r (Some s) frame k v =
    let number = refusal (editing_tests r (Some s) frame k v) in
    cond (eqb number 0) (accepted_writing s (type_of s frame)) (refused_writing number k)

-- "The edited frame": the one of its values, written afresh with that field alone replaced
abbrev pub edited : Register → Satellite → List ℕ → ℕ → ℕ → List ℕ
edited r s frame k v = frame_of r s (type_of s frame) (set (values_of r s frame) k v)

-- "replaces the old one in the same lent buffer, which it fills"
unfoldable pub frame_after_by : Registers → Option Satellite → List ℕ → ℕ → ℕ → List ℕ
frame_after_by r None frame k v = frame
frame_after_by r (Some s) frame k v = cond (eqb (refusal (editing_tests r (Some s) frame k v)) 0) (edited (r s) s frame k v) frame

-- the two that the contract of editing cites, with the satellite's register
abbrev pub editing : Option Satellite → List ℕ → ℕ → ℕ → Writing
editing s frame k v = editing_by register_of s frame k v

abbrev pub frame_after : Option Satellite → List ℕ → ℕ → ℕ → List ℕ
frame_after s frame k v = frame_after_by register_of s frame k v
