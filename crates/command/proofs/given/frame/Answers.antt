-- The bytes of a word have their places behind those so far.
-- Assumes nothing.
use Rattle.std.proofs.Common.{rules}
use Rattle.words.proofs.Laws.{bytes_fit}
use Rattle.command.proofs.given.frame.Goals as goal

pub overflow_add-n : goal.overflow_add-n
overflow_add-n c = search (rules, bytes_fit)

pub loop-k-preserved : goal.loop-k-preserved
loop-k-preserved c = search (rules, bytes_fit)
