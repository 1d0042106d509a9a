-- What the contracts say, about their own text (`Post`, as the check reads it: the arguments a, the result r, and the parameters at
-- exit s): the definitions of the very layout, values and bytes that the call was given.
-- Assumes nothing.
use Prim.Native.Nat.{◌^◌}
use mathlib.Core.Path.{◌≡◌}
use lib.Dec.{ltb}
use lib.ListN.{take}
use Rattle.bodies.specs.Bodies.{filled, laid_from, values_from}
use Rattle.bodies.specs.Bodies as bodies
use Rattle.bodies.proofs.read.Reads as read
use Rattle.bodies.proofs.fitting.Reads as fitting
use Rattle.bodies.proofs.write.Reads as write
use Rattle.bodies.proofs.fits.Reads as fits

-- the fields one after the other, from the body's first bit on
pub read-says : (κs a r s : _) → read.Post κs a r s
    → (s.1.1.0.now ≡ filled (values_from 0 (take a.0.fields a.0.widths) a.1.0.now) a.1.1.0.now)
    × (s.1.0.now ≡ a.1.0.now)
read-says κs a r s p = p

pub fitting-says : (κs a r s : _) → fitting.Post κs a r s
    → (r ≡ bodies.fitting (take a.0.fields a.0.widths) a.1.0.now) × (s.1.0.now ≡ a.1.0.now)
fitting-says κs a r s p = p

pub write-says : (κs a r s : _) → write.Post κs a r s
    → (s.1.1.0.now ≡ laid_from 0 (take a.0.fields a.0.widths) a.1.0.now a.1.1.0.now)
    × (s.1.0.now ≡ a.1.0.now)
write-says κs a r s p = p

pub fits-says : (κs a r s : _) → fits.Post κs a r s → r ≡ ltb a.0 (2 ^ a.1.0)
fits-says κs a r s p = p
