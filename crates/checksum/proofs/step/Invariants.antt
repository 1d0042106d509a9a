-- The register after so many divisions.
use Rattle.std.proofs.Common.{◌≡◌, false, replicate}
use Rattle.bits.specs.Bits.{bits, number}
use Rattle.checksum.specs.Checksum.{after}
use Rattle.checksum.proofs.step.Given as goal

abbrev pub invariant-loop : goal.invariant-loop
invariant-loop l = l.r ≡ number (after (bits 16 l.initial.r) (replicate l.counter false))
