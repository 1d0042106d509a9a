-- `tolimbar::tolimbar_edit` meets its contract: what is answered is a frame's length, or a number of 32 bits that was given.
-- Assumes nothing.
use Rattle.std.proofs.Common.{arith}
use Rattle.frames.proofs.Small.{edited-small}
use Rattle.tolimbar.proofs.tolimbar_edit.Goals as goal

pub written-requires : goal.written-requires
written-requires c =
    let field = c.ranges.field.fits in
    omega (arith, edited-small _ _ _ _ _ 4294967295 (omega arith) (omega (arith, field)) c.edit.ensures.value)
