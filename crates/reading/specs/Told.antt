-- What test 9 answers, and what the room is told of a body.
use Rattle.std.specs.Prelude.{ℕ, Bool, cond, List, Result, Ok, Err, ⊤}
use Rattle.layouts.specs.declared.Layout.{Layout}
use Rattle.bodies.specs.Bodies.{filled, values_from, widths_in}
use Rattle.refusals.specs.declared.Refusal.{Refusal}
use Rattle.refusals.specs.declared.Refusal.TheVariants.{Checksum}

-- by whether the checksum is right
abbrev pub checked : Bool → Result ⊤ Refusal
checked right = cond right (Ok tt) (Err Checksum)

-- the room after a body, where its checksum is right
abbrev pub told_to : Bool → Layout → List ℕ → List ℕ → List ℕ
told_to right layout body room = cond right (filled (values_from 0 (widths_in layout) body) room) room
