-- No value has more than 32 bits.
-- Assumes nothing.
use Rattle.std.proofs.Common.{◌^◌}
use native.Mathlib.Nat.{le_trans}
use borrow.Author.Tests.{lt-ltb}
use Rattle.std.proofs.lemmas.Bool.{le-leb}
use lib.Pow.{pow_mono}
use Rattle.bodies.proofs.fits.Goals as goal

pub returns-then-width-ge32 : goal.returns-then-width-ge32
returns-then-width-ge32 c =
    let a = c.args in
    rw (le-leb 32 a.width c.if-width-ge32.true, lt-ltb a.value (2 ^ a.width) (le_trans c.ranges.value.fits (pow_mono {i = 32} c.if-width-ge32.true)))
