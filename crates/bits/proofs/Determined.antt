-- Any two results that a public function's contract allows for one input are equal: the answer, and what is left in each slice that the
-- function was lent. `Post` is the contract's own text, as the check reads it: the arguments, the result, and the parameters at exit.
-- And nothing is asked of a caller: `Pre`, what the contract requires, holds of all arguments.
-- Assumes nothing.
use mathlib.Core.Path.{◌≡◌, sym, ◌∙◌}
use Rattle.bits.proofs.read_field.Reads as read-field
use Rattle.bits.proofs.replace_field.Reads as replace-field

pub read-field-determined : (κs a r r' s s' : _) → read-field.Post κs a r s → read-field.Post κs a r' s'
    → (r ≡ r') × (s.0.now ≡ s'.0.now)
read-field-determined κs a r r' s s' p q = (p.0 ∙ sym q.0, p.1 ∙ sym q.1)

pub replace-field-determined : (κs a r r' s s' : _) → replace-field.Post κs a r s → replace-field.Post κs a r' s' → s.0.now ≡ s'.0.now
replace-field-determined κs a r r' s s' p q = p ∙ sym q

pub read-field-asks-nothing : (κs a : _) → read-field.Pre κs a
read-field-asks-nothing κs a = tt

pub replace-field-asks-nothing : (κs a : _) → replace-field.Pre κs a
replace-field-asks-nothing κs a = tt
