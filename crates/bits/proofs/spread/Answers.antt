-- `bits::spread` meets its contract: each turn stores the byte ahead of those already stored.
-- Assumes nothing.
use Rattle.std.proofs.Common.{◌≡◌, ◌∙◌, arith}
use Rattle.bits.specs.Bits.{packed}
use Rattle.bits.proofs.Groups.{spread-next}
use Rattle.bits.proofs.spread.Goals as goal

pub loop-i-preserved : goal.loop-i-preserved
loop-i-preserved c =
    let l = c.loop-i in
    spread-next l.i l.left l.group c.loop-i-test.true (omega arith) ∙ l.invariant

pub returns : goal.returns
unfolding packed
returns c =
    let l = c.loop-i in
    let e : l.i ≡ 0 = omega arith in
    rw e at l.invariant
