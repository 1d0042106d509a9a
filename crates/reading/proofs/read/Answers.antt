-- `reading::read` meets its contract: a number that names no satellite is refused as such.
-- Assumes nothing.
use Rattle.std.proofs.Common.{sym, ◌∙◌, ap, Err}
use Rattle.std.specs.Prelude.{Option}
use Rattle.satellites.specs.declared.Satellite.{Satellite}
use Rattle.refusals.proofs.Answered.{handed-on, none-found}
use Rattle.frames.specs.Registers.{register_of}
use Rattle.frames.specs.Answers.{read_in_numbers}
use Rattle.frames.specs.Reading.{reading, room_after}
use Rattle.reading.proofs.Answers.{unknown-refused}
use Rattle.reading.proofs.read.Goals as goal

pub returns-in_err-satellite-clause-value : goal.returns-in_err-satellite-clause-value
returns-in_err-satellite-clause-value c =
    let a = c.args in
    let found = c.in_err-satellite.field-0.0 in
    let none = none-found c.from_number.result _ found c.in_err-satellite.ensures.value in
    ap read_in_numbers (handed-on c.from_residual.result found c.from_residual.ensures.1 ∙ ap Err none.1)
    ∙ (unknown-refused register_of a.frame.now a.room.now).0
    ∙ ap (λ (k : Option Satellite). reading k a.frame.now a.room.now) (sym none.0 ∙ c.from_number.ensures.value)

pub returns-in_err-satellite-clause-room_after : goal.returns-in_err-satellite-clause-room_after
returns-in_err-satellite-clause-room_after c =
    let a = c.args in
    let none = none-found c.from_number.result _ c.in_err-satellite.field-0.0 c.in_err-satellite.ensures.value in
    (unknown-refused register_of a.frame.now a.room.now).1
    ∙ ap (λ (k : Option Satellite). room_after k a.frame.now a.room.now) (sym none.0 ∙ c.from_number.ensures.value)
