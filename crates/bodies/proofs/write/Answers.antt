-- One field more is written. Where the walk ends, no field is left.
-- Assumes nothing.
use Rattle.std.proofs.Common.{◌≡◌, ◌∙◌, Fits, w8, get_or, ap, arith, rules}
use Rattle.bodies.specs.Bodies.{laid_from}
use Rattle.bodies.proofs.Walk.{laid_one, laid-all}
use Rattle.bodies.proofs.write.Goals as goal

pub loop-k-preserved : goal.loop-k-preserved
loop-k-preserved c =
    let at = c.loop-k in
    let ws = c.widths-widths.result.now in
    let vs = c.args.values.now in
    let small : Fits w8 (get_or ws at.k 0) = search rules in
    let value : c.unwrap_or-value.result ≡ get_or vs at.k 0 = search rules in
    record {
      small = omega (arith, small.fits);
      left = rw (c.replace_field.ensures, value) (laid_one at.at at.k ws vs at.body (omega arith) ∙ at.invariant.left);
    }

pub returns-clause-body_after : goal.returns-clause-body_after
returns-clause-body_after c =
    let at = c.loop-k in
    laid-all at.at at.k c.widths-widths.result.now c.args.values.now at.body (omega arith)
    ∙ at.invariant.left
    ∙ ap (λ ws. laid_from 0 ws c.args.values.now c.args.body.now) c.widths-widths.ensures
