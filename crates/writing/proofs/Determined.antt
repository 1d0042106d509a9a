-- Any two results that the public function's contract allows for one input are equal: the answer, and what is left in the lent values
-- and output.
-- `Post` is the contract's own text, as the check reads it: the arguments, the result, and the parameters at exit.
-- And nothing is asked of a caller: `Pre`, what the contract requires, holds of all arguments.
-- Assumes nothing.
use mathlib.Core.Path.{◌≡◌, sym, ◌∙◌}
use Rattle.frames.proofs.Told.{same_written}
use Rattle.writing.proofs.write.Reads as write

pub write-determined : (κs a r r' s s' : _) → write.Post κs a r s → write.Post κs a r' s'
    → (r ≡ r') × ((s.1.1.0.now ≡ s'.1.1.0.now) × (s.1.1.1.0.now ≡ s'.1.1.1.0.now))
write-determined κs a r r' s s' p q = (same_written r r' (p.0 ∙ sym q.0), (p.1.1 ∙ sym q.1.1, p.1.0 ∙ sym q.1.0))

pub write-asks-nothing : (κs a : _) → write.Pre κs a
write-asks-nothing κs a = tt
