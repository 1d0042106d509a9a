-- The first `i` bytes are put, and what is behind them stays. Assumes nothing.
use Rattle.std.proofs.Common.{◌≡◌, take, drop, ◌++◌}
use Rattle.words.specs.Numbers.{bytes_of}
use Rattle.words.proofs.pairs.Given as goal

abbrev pub invariant-loop-i : goal.invariant-loop-i
invariant-loop-i l = l.out ≡ take l.i (bytes_of l.text) ++ drop l.i l.initial.out
