-- As many words as were counted, and as many as are left. Assumes nothing.
use Rattle.std.proofs.Common.{◌≡◌, ◌+◌, ◌≤◌, length}
use Rattle.words.specs.Words.{words_of}
use Rattle.words.proofs.count.Given as goal

abbrev pub invariant-loop-begun : goal.invariant-loop-begun
invariant-loop-begun l = record {
  small : l.words + length l.rest ≤ length l.line;
  all : l.words + length (words_of l.rest) ≡ length (words_of l.line);
}

abbrev pub decreases-loop-begun : goal.decreases-loop-begun
decreases-loop-begun l = length l.rest
