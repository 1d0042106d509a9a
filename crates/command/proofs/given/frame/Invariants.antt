-- The bytes so far have their places.
use Rattle.std.proofs.Common.{length, ◌≤◌}
use Rattle.command.proofs.given.frame.Given as goal

abbrev pub invariant-loop-k : goal.invariant-loop-k
invariant-loop-k l = record {
  within : l.n ≤ length l.out;
}
