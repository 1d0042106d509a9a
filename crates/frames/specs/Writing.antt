-- Writing (01, "What is refused, and in which order"; FORMAT 7 and 8): the tests in their order, the answer, and the output.
use Rattle.std.specs.Prelude.{ℕ, true, false, cond, List, [], ◌∷◌, ◌++◌, length, drop, eqb, leb, Option, Some, None}
use Rattle.satellites.specs.declared.Satellite.{Satellite}
use Rattle.layouts.specs.Layouts.{carries, entry_of}
use Rattle.bodies.specs.Bodies.{fitting}
use Rattle.frames.specs.Answers.{Writing}
use Rattle.refusals.specs.Tests.{Test, test, refusal}
use Rattle.frames.specs.Registers.{Registers, register_of}
use Rattle.frames.specs.Frames.{frame_of, frame_length}

-- "Writing (satellite, type, values, output) tests 1, 5, 10, 11, 12"
unfoldable pub writing_tests : Option Satellite → ℕ → List ℕ → List ℕ → List Test
writing_tests None t values output = test 1 false ∷ []
writing_tests (Some s) t values output =
    test 1 true
    -- "type not carried by this satellite"
    ∷ test 5 (carries s t)
    -- "number of values is not the field count"
    ∷ test 10 (eqb (length values) (length (entry_of s t).widths))
    -- "a value does not fit its field"
    ∷ test 11 (eqb (fitting (entry_of s t).widths values) (length (entry_of s t).widths))
    -- "output shorter than the frame"
    ∷ test 12 (leb (frame_length s t) (length output))
    ∷ []

-- "It answers the length"
abbrev pub accepted_writing : Satellite → ℕ → Writing
accepted_writing s t = record { refusal = 0; answer = frame_length s t }

-- "A refusal answers 0, except 11, which answers the lowest field number that does not fit"
abbrev pub refused_writing : ℕ → ℕ → Writing
refused_writing number lowest = record { refusal = number; answer = cond (eqb number 11) lowest 0 }

unfoldable pub writing : Option Satellite → ℕ → List ℕ → List ℕ → Writing
writing None t values output = refused_writing (refusal (writing_tests None t values output)) 0
writing (Some s) t values output =
    let number = refusal (writing_tests (Some s) t values output) in
    cond (eqb number 0) (accepted_writing s t) (refused_writing number (fitting (entry_of s t).widths values))

-- "and fills that many bytes; bytes past the frame's end stay"
unfoldable pub output_after_by : Registers → Option Satellite → ℕ → List ℕ → List ℕ → List ℕ
output_after_by r None t values output = output
output_after_by r (Some s) t values output =
    cond (eqb (refusal (writing_tests (Some s) t values output)) 0) (frame_of (r s) s t values ++ drop (frame_length s t) output) output

-- what the contract of writing cites, with the satellite's register. The answer needs none
abbrev pub output_after : Option Satellite → ℕ → List ℕ → List ℕ → List ℕ
output_after k t values output = output_after_by register_of k t values output
