-- The marked checksums, computed. Assumes nothing.
use mathlib.Core.Path.{refl}
use Rattle.bits.specs.Bits.{◌⊞◌, odd, bits, number, bits_of}
use Rattle.bits.specs.Worked.{AllRight}
use Rattle.checksum.specs.Checksum.{divided, after, checksum}
use Rattle.checksum.specs.Worked.{worked_checksums}

pub checksums-right : AllRight worked_checksums
unfolding ◌⊞◌ odd bits number bits_of divided after checksum
checksums-right = (refl, (refl, (refl, tt)))
