-- `tolimbar::tolimbar_read` meets its contract: a count is small, and that of a refusal 0.
-- Assumes nothing.
use Rattle.std.proofs.Common.{◌∙◌, sym, ap, arith}
use Rattle.satellites.specs.Satellites.{known}
use Rattle.refusals.specs.Refusals.{number_of}
use Rattle.refusals.proofs.Refusals.{number-above}
use Rattle.frames.specs.Answers as frames
use Rattle.frames.specs.Registers.{register_of}
use Rattle.frames.proofs.DemandOne.{reading-refused}
use Rattle.frames.proofs.Small.{count_small}
use Rattle.tolimbar.specs.Answers.{reading_in_c}
use Rattle.tolimbar.proofs.tolimbar_read.Goals as goal

pub overflow_cast-result : goal.overflow_cast-result
overflow_cast-result c = omega (arith, count_small _ _ _ _ c.in-Ok.ensures.value)

pub returns-in-Err-clause-value : goal.returns-in-Err-clause-value
returns-in-Err-clause-value c =
    let a = c.args in
    let refusal = c.in-Err.refusal in
    let told = reading-refused register_of (known a.satellite) a.frame.now a.room.now (number_of refusal)
    (ap (λ (r : frames.Reading). r.refusal) (sym c.in-Err.ensures.value)) (λ none. omega (arith, number-above refusal, none)) in
    ap (λ n. record { refusal = n; ty = 0; count = 0 }) c.number.ensures ∙ sym (ap reading_in_c told.0)
