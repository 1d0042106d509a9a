-- `scrambler::walk::pass_byte` meets its contract: each turn takes the byte one bit further.
-- Assumes nothing.
use Rattle.std.proofs.Common.{◌≡◌, refl, ◌-◌, ◌/◌, ◌%◌, ◌^◌, mod-lt, zero-lt-suc, arith}
use Rattle.scrambler.proofs.Turn.{going_start, going_next, going_end, out-lt}
use Rattle.scrambler.proofs.walk.pass_byte.Goals as goal

pub loop-left-init : goal.loop-left-init
loop-left-init c =
    let a = c.args in
    (omega arith, omega arith, λ h k. going_start a.way a.near a.far h a.byte a.sent k)

pub loop-left-preserved : goal.loop-left-preserved
loop-left-preserved c =
    let a = c.args in
    let l = c.loop-left in
    let bit = a.byte / 2 ^ (l.left - 1) % 2 in
    let crossed = c.step-crossed.result in (
      omega arith,
      out-lt l.out crossed l.left c.loop-left-test.true l.invariant.0 c.step-crossed.ensures.0 l.invariant.1,
      λ h k. rw c.on_air.ensures
          (going_next a.way a.near a.far h a.byte c.requires l.held l.out bit
          crossed (mod-lt _ (zero-lt-suc 1)) c.step-crossed.ensures.0 c.step-crossed.ensures.1
          l.left c.loop-left-test.true l.invariant.0 refl (l.invariant.2 h k)),
    )

pub returns : goal.returns
returns c =
    let a = c.args in
    let l = c.loop-left in
    let e : l.left ≡ 0 = omega arith in
    record {
      small = rw e at l.invariant.1;
      comes = λ h k. (going_end a.way a.near a.far h a.byte l.held l.out (rw e at (l.invariant.2 h k))).0;
      holds = λ h k. (going_end a.way a.near a.far h a.byte l.held l.out (rw e at (l.invariant.2 h k))).1;
    }
