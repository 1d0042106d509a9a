-- Any two results that a public function's contract allows for one input are equal: the answer, and what is left in the lent bytes. Of an
-- answer that is a part of a lent text, this is said of its letters, `r.now`.
-- `Post` is the contract's own text, as the check reads it: the arguments, the result, and the parameters at exit.
-- And nothing is asked of a caller: `Pre`, what the contract requires, holds of all arguments.
-- Assumes nothing.
use mathlib.Core.Path.{◌≡◌, sym, ◌∙◌}
use Rattle.words.proofs.word.Reads as word
use Rattle.words.proofs.count.Reads as count
use Rattle.words.proofs.are_digits.Reads as are-digits
use Rattle.words.proofs.decimal.Reads as decimal
use Rattle.words.proofs.pairs.Reads as pairs

pub word-determined : (κs a r r' s s' : _) → word.Post κs a r s → word.Post κs a r' s' → (r.now ≡ r'.now) × (s.0.now ≡ s'.0.now)
word-determined κs a r r' s s' p q = (p.0 ∙ sym q.0, p.1 ∙ sym q.1)

pub count-determined : (κs a r r' s s' : _) → count.Post κs a r s → count.Post κs a r' s' → (r ≡ r') × (s.0.now ≡ s'.0.now)
count-determined κs a r r' s s' p q = (p.0 ∙ sym q.0, p.1 ∙ sym q.1)

pub are-digits-determined : (κs a r r' s s' : _) → are-digits.Post κs a r s → are-digits.Post κs a r' s'
    → (r ≡ r') × (s.0.now ≡ s'.0.now)
are-digits-determined κs a r r' s s' p q = (p.0 ∙ sym q.0, p.1 ∙ sym q.1)

pub decimal-determined : (κs a r r' s s' : _) → decimal.Post κs a r s → decimal.Post κs a r' s' → (r ≡ r') × (s.0.now ≡ s'.0.now)
decimal-determined κs a r r' s s' p q = (p.0 ∙ sym q.0, p.1 ∙ sym q.1)

pub pairs-determined : (κs a r r' s s' : _) → pairs.Post κs a r s → pairs.Post κs a r' s'
    → (r ≡ r') × ((s.0.now ≡ s'.0.now) × (s.1.0.now ≡ s'.1.0.now))
pairs-determined κs a r r' s s' p q =
    let same = p.0 ∙ sym q.0 in
    (same, (p.1.0 ∙ sym q.1.0, rw same at p.1.1 ∙ sym q.1.1))

pub word-asks-nothing : (κs a : _) → word.Pre κs a
word-asks-nothing κs a = tt

pub count-asks-nothing : (κs a : _) → count.Pre κs a
count-asks-nothing κs a = tt

pub are-digits-ask-nothing : (κs a : _) → are-digits.Pre κs a
are-digits-ask-nothing κs a = tt

pub decimal-asks-nothing : (κs a : _) → decimal.Pre κs a
decimal-asks-nothing κs a = tt

pub pairs-ask-nothing : (κs a : _) → pairs.Pre κs a
pairs-ask-nothing κs a = tt
