-- The sum is the number that the bytes passed stand for.
use Rattle.std.proofs.Common.{◌≡◌, take}
use Rattle.bits.specs.Bits.{number, bits_of}
use Rattle.bits.proofs.gather.Given as goal

abbrev pub invariant-loop-byte : goal.invariant-loop-byte
invariant-loop-byte l = l.sum ≡ number (bits_of (take l.byte-index l.group))
