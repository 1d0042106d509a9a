-- The places already filled stay, and the fields that are left lead to the same end in the others.
use Rattle.std.proofs.Common.{◌≡◌, ◌*◌, ◌≤◌, ◌++◌, take, drop}
use Rattle.bodies.specs.Bodies.{filled, values_from, widths_in}
use Rattle.bodies.proofs.read.Given as goal

abbrev pub invariant-loop-k : goal.invariant-loop-k
invariant-loop-k l =
    record {
      small : l.at ≤ 255 * l.k;
      left : take l.k l.room ++ filled (values_from l.at (drop l.k (widths_in l.fn.layout)) l.body) (drop l.k l.room)
          ≡ filled (values_from 0 (widths_in l.fn.layout) l.body) l.initial.room;
    }
