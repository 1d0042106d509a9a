-- Any two results that a public function's contract allows for one input are equal: the answer, and what is left in the lent front or
-- part. `Post` is the contract's own text, as the check reads it: the arguments, the result, and the parameters at exit.
-- And nothing is asked of a caller: `Pre`, what the contract requires, holds of all arguments.
-- Assumes nothing.
use mathlib.Core.Path.{◌≡◌, sym, ◌∙◌}
use Rattle.sealing.proofs.open_front.Reads as open-front
use Rattle.sealing.proofs.open.Reads as opens
use Rattle.sealing.proofs.seal.Reads as seal

pub open-front-determined : (κs a r r' s s' : _) → open-front.Post κs a r s → open-front.Post κs a r' s'
    → s.1.1.1.0.now ≡ s'.1.1.1.0.now
open-front-determined κs a r r' s s' p q = p ∙ sym q

pub open-determined : (κs a r r' s s' : _) → opens.Post κs a r s → opens.Post κs a r' s'
    → (r ≡ r') × (s.1.1.1.0.now ≡ s'.1.1.1.0.now)
open-determined κs a r r' s s' p q = (p.0 ∙ sym q.0, p.1 ∙ sym q.1)

pub seal-determined : (κs a r r' s s' : _) → seal.Post κs a r s → seal.Post κs a r' s'
    → s.1.1.1.0.now ≡ s'.1.1.1.0.now
seal-determined κs a r r' s s' p q = p ∙ sym q

pub open-front-asks-nothing : (κs a : _) → open-front.Pre κs a
open-front-asks-nothing κs a = tt

pub open-asks-nothing : (κs a : _) → opens.Pre κs a
open-asks-nothing κs a = tt

pub seal-asks-nothing : (κs a : _) → seal.Pre κs a
seal-asks-nothing κs a = tt
