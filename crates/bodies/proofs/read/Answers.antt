-- One place more is filled. Where the walk ends, no place or no field is left.
-- Assumes nothing.
use Rattle.std.proofs.Common.{◌≡◌, ◌<◌, ◌≤◌, ◌∙◌, Fits, w8, length, get_or, take, min, ap, arith, rules, length-take, get_or-take}
use Rattle.bodies.specs.Bodies.{widths_in}
use Rattle.bodies.proofs.Walk.{filled-one, filled-past}
use Rattle.bodies.proofs.read.Goals as goal

pub loop-k-preserved : goal.loop-k-preserved
loop-k-preserved c =
    let ws = widths_in c.args.layout in
    let at = c.loop-k in
    let count = c.min-count.result in
    let lent = c.widths-widths.result.now in
    let many : length lent ≡ length ws = ap length c.widths-widths.ensures in
    let before : at.k < count = omega (arith, length-take count lent) in
    let width : get_or (take count lent) at.k 0 ≡ get_or ws at.k 0 =
    get_or-take count lent at.k 0 before ∙ ap (λ l. get_or l at.k 0) c.widths-widths.ensures in
    let small : Fits w8 (get_or ws at.k 0) = search rules in
    record {
      small = omega (arith, width, small.fits);
      left = rw (c.read_field.ensures.value, width)
          (filled-one at.at at.k ws c.args.body.now at.room (omega (arith, many)) (omega arith) ∙ at.invariant.left);
    }

pub returns-clause-room_after : goal.returns-clause-room_after
returns-clause-room_after c =
    let ws = widths_in c.args.layout in
    let at = c.loop-k in
    let lent = c.widths-widths.result.now in
    let many : length lent ≡ length ws = ap length c.widths-widths.ensures in
    let past : min (length ws) (length at.room) ≤ at.k = omega (arith, many, length-take c.min-count.result lent) in
    filled-past at.at at.k ws c.args.body.now at.room past ∙ at.invariant.left
