-- What the contracts say, about their own text (`Post`, as the check reads it: the arguments a, the result r, and the parameters at exit s).
-- Assumes nothing.
use mathlib.Core.Path.{◌≡◌, ◌∙◌, ap}
use Rattle.refusals.specs.Refusals.{number_of, place_in, refusal_at}
use Rattle.refusals.proofs.Refusals.{itself}
use Rattle.refusals.proofs.Refusal.number.Reads as number
use Rattle.refusals.proofs.Refusal.place.Reads as place

-- the refusal has that number in 01's table
pub number-says : (κs a r s : _) → number.Post κs a r s → refusal_at r (place_in a.0) ≡ a.0
number-says κs a r s p = ap (λ n. refusal_at n (place_in a.0)) p ∙ itself a.0

-- and it names that place
pub place-says : (κs a r s : _) → place.Post κs a r s → refusal_at (number_of a.0) r ≡ a.0
place-says κs a r s p = ap (refusal_at (number_of a.0)) p ∙ itself a.0
