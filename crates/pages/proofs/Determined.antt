-- Any two results that a contract allows for one input are equal: the answer, and what is left in the page and in the text.
-- `Post` is the contract's own text, as the check reads it: the arguments, the result, and the parameters at exit.
-- And nothing is asked of a caller: `Pre`, what the contract requires, holds of all arguments.
-- Assumes nothing.
use mathlib.Core.Path.{◌≡◌, sym, ◌∙◌}
use Rattle.pages.proofs.find.Reads as find
use Rattle.pages.proofs.text.Reads as text

pub text-determined : (κs a r r' s s' : _) → text.Post κs a r s → text.Post κs a r' s'
    → (r ≡ r') × ((s.0.now ≡ s'.0.now) × (s.1.1.0.now ≡ s'.1.1.0.now))
text-determined κs a r r' s s' p q = (p.0 ∙ sym q.0, (p.1.0 ∙ sym q.1.0, p.1.1 ∙ sym q.1.1))

pub text-asks-nothing : (κs a : _) → text.Pre κs a
text-asks-nothing κs a = tt

pub find-determined : (κs a r r' s s' : _) → find.Post κs a r s → find.Post κs a r' s' → (r ≡ r') × (s.0.now ≡ s'.0.now)
find-determined κs a r r' s s' p q = (p.0 ∙ sym q.0, p.1.1 ∙ sym q.1.1)

pub find-asks-nothing : (κs a : _) → find.Pre κs a
find-asks-nothing κs a = tt
