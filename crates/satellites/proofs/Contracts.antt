-- What the contracts say, about their own text (`Post`, as the check reads it: the arguments a, the result r, and the parameters at
-- exit s), in the paper's own values: the satellites by number, and the constants that Paper.antt of specs/ has typed a second time.
-- Assumes nothing.
use Prim.Native.Nat.{◌+◌}
use mathlib.Core.Path.{◌≡◌, ◌∙◌, ap}
use mathlib.Core.Bool.{cond}
use mathlib.Core.List.{List, [], ◌∷◌}
use lib.Dec.{leb}
use lib.ListN.{get_or}
use Rattle.satellites.specs.declared.Satellite.TheVariants.{HadesD, HadesIcm, MariaG, Unne1, HadesR, Unne1b, HadesSa}
use Rattle.std.specs.Prelude.{Option, Some, None}
use Rattle.satellites.specs.declared.Satellite.{Satellite}
use Rattle.satellites.specs.Satellites.{number_of, known, values_in}
use Rattle.satellites.specs.Paper.{Constants, paper}
use Rattle.satellites.proofs.Laws.{known-number}
use Rattle.satellites.proofs.Paper.{as-printed}
use Rattle.satellites.proofs.Satellite.count.Reads as count
use Rattle.satellites.proofs.Satellite.from_number.Reads as from-number
use Rattle.satellites.proofs.Satellite.number.Reads as number
use Rattle.satellites.proofs.Satellite.address.Reads as address
use Rattle.satellites.proofs.Satellite.training.Reads as training
use Rattle.satellites.proofs.Satellite.has_size_byte.Reads as has-size-byte
use Rattle.satellites.proofs.Satellite.type_byte_at.Reads as type-byte-at

-- "0 HADES-D, 1 HADES-ICM, 2 MARIA-G, 3 UNNE-1, 4 HADES-R, 5 UNNE-1B, 6 HADES-SA"
abbrev by_number : List (Option Satellite)
by_number = Some HadesD ∷ Some HadesIcm ∷ Some MariaG ∷ Some Unne1 ∷ Some HadesR ∷ Some Unne1b ∷ Some HadesSa ∷ []

-- "The seven satellites"
pub count-says : (κs a r s : _) → count.Post κs a r s → r ≡ 7
count-says κs a r s p = p

-- the satellite of the very number, uncut
pub from-number-says : (κs a r s : _) → from-number.Post κs a r s → r ≡ get_or by_number a.0 None
from-number-says κs a r s p = p.0

-- refusal 1, "satellite number above 6", and no number; or 0 and the number itself
pub from-number-values : (κs a r s : _) → from-number.Post κs a r s
    → values_in r ≡ record { refusal = cond (leb a.0 6) 0 1; numbers = cond (leb a.0 6) (a.0 ∷ []) [] }
from-number-values κs a r s p = p.1

-- the number names that satellite
pub number-says : (κs a r s : _) → number.Post κs a r s → get_or by_number r None ≡ Some a.0
number-says κs a r s p = ap known p ∙ known-number a.0

-- the constants are the paper's for the satellite's number
pub address-says : (κs a r s : _) → address.Post κs a r s → r ≡ (paper (number_of a.0)).address
address-says κs a r s p = p ∙ ap (λ (c : Constants). c.address) (as-printed a.0)

pub training-says : (κs a r s : _) → training.Post κs a r s → r ≡ (paper (number_of a.0)).training
training-says κs a r s p = p ∙ ap (λ (c : Constants). c.training) (as-printed a.0)

pub has-size-byte-says : (κs a r s : _) → has-size-byte.Post κs a r s → r ≡ (paper (number_of a.0)).size_byte
has-size-byte-says κs a r s p = p ∙ ap (λ (c : Constants). c.size_byte) (as-printed a.0)

-- "training, sync, size byte if any, and type byte"
pub type-byte-at-says : (κs a r s : _) → type-byte-at.Post κs a r s
    → r ≡ (paper (number_of a.0)).training + 2 + cond (paper (number_of a.0)).size_byte 1 0
type-byte-at-says κs a r s p = p ∙ ap (λ (c : Constants). c.training + 2 + cond c.size_byte 1 0) (as-printed a.0)
