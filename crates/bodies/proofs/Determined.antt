-- Any two results that a public function's contract allows for one input are equal: the answer, and what is left in each slice that the
-- function was lent. `Post` is the contract's own text, as the check reads it: the arguments, the result, and the parameters at exit.
-- And nothing is asked of a caller: `Pre`, what the contract requires, holds of all arguments.
-- Assumes nothing.
use mathlib.Core.Path.{◌≡◌, sym, ◌∙◌}
use Rattle.bodies.proofs.read.Reads as read
use Rattle.bodies.proofs.fitting.Reads as fitting
use Rattle.bodies.proofs.write.Reads as write
use Rattle.bodies.proofs.fits.Reads as fits

pub read-determined : (κs a r r' s s' : _) → read.Post κs a r s → read.Post κs a r' s'
    → (s.1.0.now ≡ s'.1.0.now) × (s.1.1.0.now ≡ s'.1.1.0.now)
read-determined κs a r r' s s' p q = (p.1 ∙ sym q.1, p.0 ∙ sym q.0)

pub fitting-determined : (κs a r r' s s' : _) → fitting.Post κs a r s → fitting.Post κs a r' s'
    → (r ≡ r') × (s.1.0.now ≡ s'.1.0.now)
fitting-determined κs a r r' s s' p q = (p.0 ∙ sym q.0, p.1 ∙ sym q.1)

pub write-determined : (κs a r r' s s' : _) → write.Post κs a r s → write.Post κs a r' s'
    → (s.1.0.now ≡ s'.1.0.now) × (s.1.1.0.now ≡ s'.1.1.0.now)
write-determined κs a r r' s s' p q = (p.1 ∙ sym q.1, p.0 ∙ sym q.0)

pub fits-determined : (κs a r r' s s' : _) → fits.Post κs a r s → fits.Post κs a r' s' → r ≡ r'
fits-determined κs a r r' s s' p q = p ∙ sym q

pub read-asks-nothing : (κs a : _) → read.Pre κs a
read-asks-nothing κs a = tt

pub fitting-asks-nothing : (κs a : _) → fitting.Pre κs a
fitting-asks-nothing κs a = tt

pub write-asks-nothing : (κs a : _) → write.Pre κs a
write-asks-nothing κs a = tt

pub fits-asks-nothing : (κs a : _) → fits.Pre κs a
fits-asks-nothing κs a = tt
