-- What is left of the value, in the bytes still to come, ahead of the bytes already stored, is the value in bytes.
use Rattle.std.proofs.Common.{◌≡◌, ◌++◌, length, drop}
use Rattle.bits.specs.Bits.{in_bytes}
use Rattle.bits.proofs.spread.Given as goal

abbrev pub invariant-loop-i : goal.invariant-loop-i
invariant-loop-i l = in_bytes l.i l.left ++ drop l.i l.group ≡ in_bytes (length l.initial.group) l.value
