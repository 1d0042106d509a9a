-- Any two results that a public function's contract allows for one input are equal. `Post` is the contract's own text, as
-- the check reads it.
-- And nothing is asked of a caller: `Pre`, what the contract requires, holds of all arguments.
-- Assumes nothing.
use mathlib.Core.Path.{◌≡◌, sym, ◌∙◌}
use Rattle.satellites.proofs.Satellite.count.Reads as count
use Rattle.satellites.proofs.Satellite.from_number.Reads as from-number
use Rattle.satellites.proofs.Satellite.number.Reads as number
use Rattle.satellites.proofs.Satellite.address.Reads as address
use Rattle.satellites.proofs.Satellite.training.Reads as training
use Rattle.satellites.proofs.Satellite.has_size_byte.Reads as has-size-byte
use Rattle.satellites.proofs.Satellite.type_byte_at.Reads as type-byte-at

pub count-determined : (κs a r r' s s' : _) → count.Post κs a r s → count.Post κs a r' s' → r ≡ r'
count-determined κs a r r' s s' p q = p ∙ sym q

pub from-number-determined : (κs a r r' s s' : _) → from-number.Post κs a r s → from-number.Post κs a r' s' → r ≡ r'
from-number-determined κs a r r' s s' p q = p.0 ∙ sym q.0

pub number-determined : (κs a r r' s s' : _) → number.Post κs a r s → number.Post κs a r' s' → r ≡ r'
number-determined κs a r r' s s' p q = p ∙ sym q

pub address-determined : (κs a r r' s s' : _) → address.Post κs a r s → address.Post κs a r' s' → r ≡ r'
address-determined κs a r r' s s' p q = p ∙ sym q

pub training-determined : (κs a r r' s s' : _) → training.Post κs a r s → training.Post κs a r' s' → r ≡ r'
training-determined κs a r r' s s' p q = p ∙ sym q

pub has-size-byte-determined : (κs a r r' s s' : _) → has-size-byte.Post κs a r s → has-size-byte.Post κs a r' s' → r ≡ r'
has-size-byte-determined κs a r r' s s' p q = p ∙ sym q

pub type-byte-at-determined : (κs a r r' s s' : _) → type-byte-at.Post κs a r s → type-byte-at.Post κs a r' s' → r ≡ r'
type-byte-at-determined κs a r r' s s' p q = p ∙ sym q

pub count-asks-nothing : (κs a : _) → count.Pre κs a
count-asks-nothing κs a = tt

pub from-number-asks-nothing : (κs a : _) → from-number.Pre κs a
from-number-asks-nothing κs a = tt

pub number-asks-nothing : (κs a : _) → number.Pre κs a
number-asks-nothing κs a = tt

pub address-asks-nothing : (κs a : _) → address.Pre κs a
address-asks-nothing κs a = tt

pub training-asks-nothing : (κs a : _) → training.Pre κs a
training-asks-nothing κs a = tt

pub has-size-byte-asks-nothing : (κs a : _) → has-size-byte.Pre κs a
has-size-byte-asks-nothing κs a = tt

pub type-byte-at-asks-nothing : (κs a : _) → type-byte-at.Pre κs a
type-byte-at-asks-nothing κs a = tt
