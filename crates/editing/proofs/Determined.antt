-- Any two results that the public function's contract allows for one input are equal: the answer, and what is left in the lent frame.
-- `Post` is the contract's own text, as the check reads it: the arguments, the result, and the parameters at exit.
-- And nothing is asked of a caller: `Pre`, what the contract requires, holds of all arguments.
-- Assumes nothing.
use mathlib.Core.Path.{◌≡◌, sym, ◌∙◌}
use Rattle.frames.proofs.Told.{same_written}
use Rattle.editing.proofs.edit.Reads as edit

pub edit-determined : (κs a r r' s s' : _) → edit.Post κs a r s → edit.Post κs a r' s'
    → (r ≡ r') × (s.1.0.now ≡ s'.1.0.now)
edit-determined κs a r r' s s' p q = (same_written r r' (p.0 ∙ sym q.0), p.1.0 ∙ sym q.1.0)

pub edit-asks-nothing : (κs a : _) → edit.Pre κs a
edit-asks-nothing κs a = tt
