-- Any two results that a public function's contract allows for one input are equal. `Post` is the contract's own text, as
-- the check reads it.
-- And nothing is asked of a caller: `Pre`, what the contract requires, holds of all arguments.
-- Assumes nothing.
use mathlib.Core.Path.{◌≡◌, sym, ◌∙◌}
use Rattle.refusals.proofs.Refusal.number.Reads as number
use Rattle.refusals.proofs.Refusal.place.Reads as place

pub number-determined : (κs a r r' s s' : _) → number.Post κs a r s → number.Post κs a r' s' → r ≡ r'
number-determined κs a r r' s s' p q = p ∙ sym q

pub place-determined : (κs a r r' s s' : _) → place.Post κs a r s → place.Post κs a r' s' → r ≡ r'
place-determined κs a r r' s s' p q = p ∙ sym q

pub number-asks-nothing : (κs a : _) → number.Pre κs a
number-asks-nothing κs a = tt

pub place-asks-nothing : (κs a : _) → place.Pre κs a
place-asks-nothing κs a = tt
