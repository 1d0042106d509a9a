-- `bits::cut` meets its contract: a quotient and a remainder of the gathered number are the field.
-- Assumes nothing.
use Rattle.std.proofs.Common.{arith}
use Rattle.bits.specs.Bits.{bits_of, field}
use Rattle.bits.specs.Located.{lead}
use Rattle.bits.proofs.Bytes.{length-bits_of}
use Rattle.bits.proofs.Groups.{field_is}
use Rattle.bits.proofs.cut.Goals as goal

pub returns : goal.returns
unfolding field
returns c =
    let a = c.args in
    rw (c.gather.ensures, c.power-under.ensures.0, c.power-span.ensures.0)
    (field_is (bits_of a.group.now) (lead a.group.now a.width a.rest) a.width a.rest (rw length-bits_of (omega arith)))
