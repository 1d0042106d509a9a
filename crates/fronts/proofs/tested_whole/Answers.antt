-- A whole frame is refused as its front is, or for its length, or is as its front told.
use Rattle.std.proofs.Common.{sym, ◌∙◌, ap, Ok}
use Rattle.refusals.proofs.Answered.{handed-on}
use Rattle.fronts.proofs.Fails.{is-front, front-refused, fails-7, whole-passes}
use Rattle.fronts.proofs.tested_whole.Goals as goal

pub returns-in_err-front-clause-value : goal.returns-in_err-front-clause-value
returns-in_err-front-clause-value c =
    let a = c.args in
    handed-on c.from_residual.result c.in_err-front.field-0.0 c.from_residual.ensures.1
    ∙ front-refused a.satellite a.frame.now c.in_err-front.field-0.0 c.in_err-front.ensures.value

pub returns-then-frame-front-clause-value : goal.returns-then-frame-front-clause-value
returns-then-frame-front-clause-value c =
    let a = c.args in
    let front = is-front a.satellite a.frame.now c.in_ok-front.front c.in_ok-front.ensures.value in
    fails-7 a.satellite a.frame.now front.1 (λ e. c.if-frame-front.true (e ∙ sym (ap (λ f. f.layout.frame) front.0)))

pub returns-clause-value : goal.returns-clause-value
returns-clause-value c =
    let a = c.args in
    let front = is-front a.satellite a.frame.now c.in_ok-front.front c.in_ok-front.ensures.value in
    ap Ok front.0 ∙ whole-passes a.satellite a.frame.now front.1 (c.if-frame-front.false ∙ ap (λ f. f.layout.frame) front.0)
