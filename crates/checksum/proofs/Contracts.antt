-- What the contracts say, about their own text (`Post`, as the check reads it: the arguments a, the result r, and the parameters at
-- exit s), of the very bytes and register that the call was given. Paper.antt says what these definitions are.
-- Assumes nothing.
use mathlib.Core.Path.{◌≡◌}
use Rattle.bits.specs.Bits.{bits, number}
use Rattle.checksum.specs.Checksum.{after, checksum}
use Rattle.checksum.proofs.of.Reads as of
use Rattle.checksum.proofs.step.Reads as step

pub of-says : (κs a r s : _) → of.Post κs a r s → (r ≡ checksum a.0.now) × (s.0.now ≡ a.0.now)
of-says κs a r s p = p

-- the byte's eight bits go in, the highest first
pub step-says : (κs a r s : _) → step.Post κs a r s → r ≡ number (after (bits 16 a.0) (bits 8 a.1.0))
step-says κs a r s p = p
