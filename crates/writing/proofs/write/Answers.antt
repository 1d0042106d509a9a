-- `writing::write` meets its contract: a number that names no satellite is refused as such.
-- Assumes nothing.
use Rattle.std.proofs.Common.{sym, ◌∙◌, ap, Err}
use Rattle.std.specs.Prelude.{Option}
use Rattle.satellites.specs.declared.Satellite.{Satellite}
use Rattle.refusals.proofs.Answered.{handed-on, none-found}
use Rattle.frames.specs.Registers.{register_of}
use Rattle.frames.specs.Answers.{written_in_numbers}
use Rattle.frames.specs.Writing.{writing, output_after}
use Rattle.writing.proofs.Answers.{unknown-refused}
use Rattle.writing.proofs.write.Goals as goal

pub returns-in_err-satellite-clause-value : goal.returns-in_err-satellite-clause-value
returns-in_err-satellite-clause-value c =
    let a = c.args in
    let found = c.in_err-satellite.field-0.0 in
    let none = none-found c.from_number.result _ found c.in_err-satellite.ensures.value in
    ap written_in_numbers (handed-on c.from_residual.result found c.from_residual.ensures.1 ∙ ap Err none.1)
    ∙ (unknown-refused register_of a.ty a.values.now a.output.now).0
    ∙ ap (λ (k : Option Satellite). writing k a.ty a.values.now a.output.now) (sym none.0 ∙ c.from_number.ensures.value)

pub returns-in_err-satellite-clause-output_after : goal.returns-in_err-satellite-clause-output_after
returns-in_err-satellite-clause-output_after c =
    let a = c.args in
    let none = none-found c.from_number.result _ c.in_err-satellite.field-0.0 c.in_err-satellite.ensures.value in
    (unknown-refused register_of a.ty a.values.now a.output.now).1
    ∙ ap (λ (k : Option Satellite). output_after k a.ty a.values.now a.output.now) (sym none.0 ∙ c.from_number.ensures.value)
