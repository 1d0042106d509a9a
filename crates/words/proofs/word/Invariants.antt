-- Word `left` of what is left is word `n`. Assumes nothing.
use Rattle.std.proofs.Common.{◌≡◌, length}
use Rattle.words.specs.Words.{word_of}
use Rattle.words.proofs.word.Given as goal

abbrev pub invariant-loop-begun : goal.invariant-loop-begun
invariant-loop-begun l = word_of l.left l.rest ≡ word_of l.n l.line

abbrev pub decreases-loop-begun : goal.decreases-loop-begun
decreases-loop-begun l = length l.rest
