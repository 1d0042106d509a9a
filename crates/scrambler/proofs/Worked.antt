-- The marked parts, and the start, computed. Assumes nothing.
use mathlib.Core.Path.{◌≡◌, refl}
use mathlib.Core.Bool.{true, false}
use mathlib.Core.List.{◌∷◌}
use lib.ListN.{replicate}
use Rattle.bits.specs.Bits.{odd, bits, number, bits_of, packed}
use Rattle.bits.specs.Worked.{AllRight}
use Rattle.scrambler.specs.Scrambler.{FAR, START, through, allowed}
use Rattle.scrambler.specs.Worked.{worked_parts}

pub parts-right : AllRight worked_parts
unfolding odd bits number bits_of packed through allowed
parts-right = (refl, (refl, (refl, (refl, (refl, tt)))))

-- before the body stand a 1, then sixteen 0s
pub start_is : bits FAR START ≡ true ∷ replicate 16 false
unfolding odd bits
start_is = refl
