-- Any two results that a public function's contract allows for one input are equal: the answer, and what is left in each slice that the
-- function was lent. `Post` is the contract's own text, as the check reads it: the arguments, the result, and the parameters at exit.
-- And nothing is asked of a caller: `Pre`, what the contract requires, holds of all arguments.
-- Assumes nothing.
use mathlib.Core.Path.{◌≡◌, sym, ◌∙◌}
use Rattle.fronts.proofs.of.Reads as of
use Rattle.fronts.proofs.type_sent.Reads as type-sent
use Rattle.fronts.proofs.whole.Reads as whole
use Rattle.fronts.proofs.preamble.write.Reads as write

pub whole-determined : (κs a r r' s s' : _) → whole.Post κs a r s → whole.Post κs a r' s'
    → (r ≡ r') × (s.1.0.now ≡ s'.1.0.now)
whole-determined κs a r r' s s' p q = (p.0 ∙ sym q.0, p.1 ∙ sym q.1)

pub of-determined : (κs a r r' s s' : _) → of.Post κs a r s → of.Post κs a r' s'
    → (r ≡ r') × (s.1.0.now ≡ s'.1.0.now)
of-determined κs a r r' s s' p q = (p.0 ∙ sym q.0, p.1 ∙ sym q.1)

pub type-sent-determined : (κs a r r' s s' : _) → type-sent.Post κs a r s → type-sent.Post κs a r' s'
    → (r ≡ r') × (s.1.0.now ≡ s'.1.0.now)
type-sent-determined κs a r r' s s' p q = (p.0 ∙ sym q.0, p.1 ∙ sym q.1)

pub write-determined : (κs a r r' s s' : _) → write.Post κs a r s → write.Post κs a r' s' → s.1.1.0.now ≡ s'.1.1.0.now
write-determined κs a r r' s s' p q = p ∙ sym q

pub whole-asks-nothing : (κs a : _) → whole.Pre κs a
whole-asks-nothing κs a = tt

pub of-asks-nothing : (κs a : _) → of.Pre κs a
of-asks-nothing κs a = tt

pub type-sent-asks-nothing : (κs a : _) → type-sent.Pre κs a
type-sent-asks-nothing κs a = tt

pub write-asks-nothing : (κs a : _) → write.Pre κs a
write-asks-nothing κs a = tt
