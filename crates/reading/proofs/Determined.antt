-- Any two results that the public function's contract allows for one input are equal: the answer, and what is left in the lent frame
-- and room.
-- `Post` is the contract's own text, as the check reads it: the arguments, the result, and the parameters at exit.
-- And nothing is asked of a caller: `Pre`, what the contract requires, holds of all arguments.
-- Assumes nothing.
use mathlib.Core.Path.{◌≡◌, sym, ◌∙◌}
use Rattle.frames.proofs.Told.{same_read}
use Rattle.reading.proofs.read.Reads as read

pub read-determined : (κs a r r' s s' : _) → read.Post κs a r s → read.Post κs a r' s'
    → (r ≡ r') × ((s.1.0.now ≡ s'.1.0.now) × (s.1.1.0.now ≡ s'.1.1.0.now))
read-determined κs a r r' s s' p q = (same_read r r' (p.0 ∙ sym q.0), (p.1.1.0 ∙ sym q.1.1.0, p.1.0 ∙ sym q.1.0))

pub read-asks-nothing : (κs a : _) → read.Pre κs a
read-asks-nothing κs a = tt
