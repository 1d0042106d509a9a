-- Any two results that a public function's contract allows for one input are equal: the letters that it answers, and what is left in each
-- slice that the function was lent. `Post` is the contract's own text, as the check reads it: the arguments, the result, and the parameters
-- at exit.
-- And nothing is asked of a caller: `Pre`, what the contract requires, holds of all arguments.
-- Assumes nothing.
use mathlib.Core.Path.{◌≡◌, sym, ◌∙◌}
use Rattle.names.proofs.of.Reads as name
use Rattle.names.proofs.in_row.Reads as in_row
use Rattle.names.proofs.row.Reads as row
use Rattle.names.proofs.of_satellite.Reads as satellite

pub of-determined : (κs a r r' s s' : _) → name.Post κs a r s → name.Post κs a r' s' → r.now ≡ r'.now
of-determined κs a r r' s s' p q = p ∙ sym q

pub name-asks-nothing : (κs a : _) → name.Pre κs a
name-asks-nothing κs a = tt

pub in-row-determined : (κs a r r' s s' : _) → in_row.Post κs a r s → in_row.Post κs a r' s' → (r.now ≡ r'.now) × (s.0.now ≡ s'.0.now)
in-row-determined κs a r r' s s' p q = (p.0 ∙ sym q.0, p.1 ∙ sym q.1)

pub in-row-asks-nothing : (κs a : _) → in_row.Pre κs a
in-row-asks-nothing κs a = tt

pub row-determined : (κs a r r' s s' : _) → row.Post κs a r s → row.Post κs a r' s' → r.now ≡ r'.now
row-determined κs a r r' s s' p q = p ∙ sym q

pub row-asks-nothing : (κs a : _) → row.Pre κs a
row-asks-nothing κs a = tt

pub of-satellite-determined : (κs a r r' s s' : _) → satellite.Post κs a r s → satellite.Post κs a r' s' → r.now ≡ r'.now
of-satellite-determined κs a r r' s s' p q = p ∙ sym q

pub satellite-asks-nothing : (κs a : _) → satellite.Pre κs a
satellite-asks-nothing κs a = tt
