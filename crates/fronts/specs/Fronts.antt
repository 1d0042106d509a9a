-- What is answered for a front, and what writing one leaves.
use Rattle.std.specs.Prelude.{ℕ, cond, List, eqb, length, Result, Ok, Err}
use Rattle.satellites.specs.declared.Satellite.{Satellite}
use Rattle.satellites.specs.Satellites.{type_byte_at}
use Rattle.layouts.specs.Layouts.{layout_of, laid_out}
use Rattle.refusals.specs.declared.Refusal.{Refusal}
use Rattle.refusals.specs.Tests.{Test, answer_by}
use Rattle.frames.specs.Frames.{ahead, type_of, entry_in}
use Rattle.fronts.specs.declared.Front.{Front}
use Rattle.fronts.specs.declared.Refused.{Refused}

-- an accepted front has a type, and the fields of that type
abbrev pub front_in : Satellite → List ℕ → Front
front_in s frame = record { ty = type_of s frame; layout = laid_out s (entry_in s frame) }

-- that front, or the refusal of the first of some tests that fails; 11, which tells a place, is none of them
abbrev pub tested_by : List Test → Satellite → List ℕ → Result Front Refusal
tested_by tests s frame = answer_by tests 0 (front_in s frame)

-- a refused front has a type too, and what is told of that type
abbrev pub refused_in : Satellite → List ℕ → Refusal → Refused
refused_in s frame refusal = record { refusal = refusal; ty = type_of s frame; layout = layout_of s (type_of s frame) }

-- what some tests answer, with what is told of a front that they refuse
abbrev pub told_of : Satellite → List ℕ → Result Front Refusal → Result Front Refused
told_of s frame (Ok front) = Ok front
told_of s frame (Err refusal) = Err (refused_in s frame refusal)

abbrev pub front_of : List Test → Satellite → List ℕ → Result Front Refused
front_of tests s frame = told_of s frame (tested_by tests s frame)

-- a part as long as what comes before the type byte is filled with it; any other stays as it is
abbrev pub front_after : Satellite → ℕ → List ℕ → List ℕ
front_after s size part = cond (eqb (length part) (type_byte_at s)) (ahead s size) part
