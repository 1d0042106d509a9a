-- The fields that are left lead from the body to the same end.
use Rattle.std.proofs.Common.{◌≡◌, ◌*◌, ◌≤◌, drop}
use Rattle.bodies.specs.Bodies.{laid_from}
use Rattle.bodies.proofs.write.Given as goal

abbrev pub invariant-loop-k : goal.invariant-loop-k
invariant-loop-k l =
    record {
      small : l.at ≤ 255 * l.k;
      left : laid_from l.at (drop l.k l.widths) (drop l.k l.values) l.body ≡ laid_from 0 l.widths l.values l.initial.body;
    }
