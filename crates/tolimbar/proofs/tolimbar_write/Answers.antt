-- `tolimbar::tolimbar_write` meets its contract: what is answered is small.
-- Assumes nothing.
use Rattle.std.proofs.Common.{arith}
use Rattle.frames.proofs.Small.{written_small}
use Rattle.tolimbar.proofs.tolimbar_write.Goals as goal

pub written-requires : goal.written-requires
written-requires c = omega (arith, written_small _ _ _ _ c.write.ensures.value)
