-- Any two results that a public function's contract allows for one input are equal: the answer, and what is left in each lent array.
-- `Post` is the contract's own text, as the check reads it: the arguments, the result, and the parameters at exit.
-- And nothing is asked of a caller: `Pre`, what the contract requires, holds of all arguments.
-- Assumes nothing.
use mathlib.Core.Path.{◌≡◌, sym, ◌∙◌}
use Rattle.tolimbar_c.proofs.tolimbar_read.Reads as read
use Rattle.tolimbar_c.proofs.tolimbar_write.Reads as write
use Rattle.tolimbar_c.proofs.tolimbar_edit.Reads as edit
use Rattle.tolimbar_c.proofs.tolimbar_temperature.Reads as temperature
use Rattle.tolimbar_c.proofs.tolimbar_summary.Reads as summary

pub read-determined : (κs a r r' s s' : _) → read.Post κs a r s → read.Post κs a r' s'
    → (r ≡ r') × ((s.1.0.now ≡ s'.1.0.now) × (s.1.1.0.now ≡ s'.1.1.0.now))
read-determined κs a r r' s s' p q = (p.0 ∙ sym q.0, (p.1.1.0 ∙ sym q.1.1.0, p.1.0 ∙ sym q.1.0))

pub write-determined : (κs a r r' s s' : _) → write.Post κs a r s → write.Post κs a r' s'
    → (r ≡ r') × ((s.1.1.0.now ≡ s'.1.1.0.now) × (s.1.1.1.0.now ≡ s'.1.1.1.0.now))
write-determined κs a r r' s s' p q = (p.0 ∙ sym q.0, (p.1.1 ∙ sym q.1.1, p.1.0 ∙ sym q.1.0))

pub edit-determined : (κs a r r' s s' : _) → edit.Post κs a r s → edit.Post κs a r' s'
    → (r ≡ r') × (s.1.0.now ≡ s'.1.0.now)
edit-determined κs a r r' s s' p q = (p.0 ∙ sym q.0, p.1.0 ∙ sym q.1.0)

pub temperature-determined : (κs a r r' s s' : _) → temperature.Post κs a r s → temperature.Post κs a r' s'
    → (r ≡ r') × (s.1.0.now ≡ s'.1.0.now)
temperature-determined κs a r r' s s' p q = (p.0 ∙ sym q.0, p.1 ∙ sym q.1)

pub summary-determined : (κs a r r' s s' : _) → summary.Post κs a r s → summary.Post κs a r' s'
    → (r ≡ r') × ((s.0.now ≡ s'.0.now) × ((s.1.0.now ≡ s'.1.0.now) × (s.1.1.0.now ≡ s'.1.1.0.now)))
summary-determined κs a r r' s s' p q =
    (p.0 ∙ sym q.0, (p.1.1.1 ∙ sym q.1.1.1, (p.1.0 ∙ sym q.1.0, p.1.1.0 ∙ sym q.1.1.0)))

pub read-asks-nothing : (κs a : _) → read.Pre κs a
read-asks-nothing κs a = tt

pub write-asks-nothing : (κs a : _) → write.Pre κs a
write-asks-nothing κs a = tt

pub edit-asks-nothing : (κs a : _) → edit.Pre κs a
edit-asks-nothing κs a = tt

pub temperature-asks-nothing : (κs a : _) → temperature.Pre κs a
temperature-asks-nothing κs a = tt

pub summary-asks-nothing : (κs a : _) → summary.Pre κs a
summary-asks-nothing κs a = tt
