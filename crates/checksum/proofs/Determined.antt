-- Any two results that a public function's contract allows for one input are equal: the answer, and what is left in each slice that the
-- function was lent. `Post` is the contract's own text, as the check reads it: the arguments, the result, and the parameters at exit.
-- And nothing is asked of a caller: `Pre`, what the contract requires, holds of all arguments.
-- Assumes nothing.
use mathlib.Core.Path.{◌≡◌, sym, ◌∙◌}
use Rattle.checksum.proofs.of.Reads as of
use Rattle.checksum.proofs.step.Reads as step

pub of-determined : (κs a r r' s s' : _) → of.Post κs a r s → of.Post κs a r' s' → (r ≡ r') × (s.0.now ≡ s'.0.now)
of-determined κs a r r' s s' p q = (p.0 ∙ sym q.0, p.1 ∙ sym q.1)

pub step-determined : (κs a r r' s s' : _) → step.Post κs a r s → step.Post κs a r' s' → r ≡ r'
step-determined κs a r r' s s' p q = p ∙ sym q

pub of-asks-nothing : (κs a : _) → of.Pre κs a
of-asks-nothing κs a = tt

pub step-asks-nothing : (κs a : _) → step.Pre κs a
step-asks-nothing κs a = tt
