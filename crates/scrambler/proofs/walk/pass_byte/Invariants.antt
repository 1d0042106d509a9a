-- Whatever sent bits the register held at first, the byte is on its way through them.
use Rattle.std.proofs.Common.{◌<◌, ◌≤◌, ◌-◌, ◌^◌, Bool, List}
use Rattle.scrambler.specs.Walk.{Held}
use Rattle.scrambler.proofs.Turn.{Going}
use Rattle.scrambler.proofs.walk.pass_byte.Given as goal

abbrev pub invariant-loop-left : goal.invariant-loop-left
invariant-loop-left l =
    (l.left ≤ 8)
    × (l.out < 2 ^ (8 - l.left))
    × ((h : List Bool) → Held l.far l.sent h → Going l.way l.near l.far h l.byte l.held l.out l.left)

abbrev pub decreases-loop-left : goal.decreases-loop-left
decreases-loop-left l = l.left
