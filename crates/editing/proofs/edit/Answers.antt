-- `editing::edit` meets its contract: a number that names no satellite is refused as such.
-- Assumes nothing.
use Rattle.std.proofs.Common.{sym, ◌∙◌, ap, Err}
use Rattle.std.specs.Prelude.{Option}
use Rattle.satellites.specs.declared.Satellite.{Satellite}
use Rattle.refusals.proofs.Answered.{handed-on, none-found}
use Rattle.frames.specs.Registers.{register_of}
use Rattle.frames.specs.Answers.{written_in_numbers}
use Rattle.frames.specs.Editing.{editing, frame_after}
use Rattle.editing.proofs.Answers.{unknown-refused}
use Rattle.editing.proofs.edit.Goals as goal

pub returns-in_err-satellite-clause-value : goal.returns-in_err-satellite-clause-value
returns-in_err-satellite-clause-value c =
    let a = c.args in
    let found = c.in_err-satellite.field-0.0 in
    let none = none-found c.from_number.result _ found c.in_err-satellite.ensures.value in
    ap written_in_numbers (handed-on c.from_residual.result found c.from_residual.ensures.1 ∙ ap Err none.1)
    ∙ (unknown-refused register_of a.frame.now a.field a.value).0
    ∙ ap (λ (s : Option Satellite). editing s a.frame.now a.field a.value) (sym none.0 ∙ c.from_number.ensures.value)

pub returns-in_err-satellite-clause-frame_after : goal.returns-in_err-satellite-clause-frame_after
returns-in_err-satellite-clause-frame_after c =
    let a = c.args in
    let none = none-found c.from_number.result _ c.in_err-satellite.field-0.0 c.in_err-satellite.ensures.value in
    (unknown-refused register_of a.frame.now a.field a.value).1
    ∙ ap (λ (s : Option Satellite). frame_after s a.frame.now a.field a.value) (sym none.0 ∙ c.from_number.ensures.value)
