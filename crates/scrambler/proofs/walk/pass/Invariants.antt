-- The part is on its way through the register.
use Rattle.scrambler.specs.Scrambler.{remembered}
use Rattle.scrambler.proofs.Passing.{Passing}
use Rattle.scrambler.proofs.walk.pass.Given as goal

abbrev pub invariant-loop-byte : goal.invariant-loop-byte
invariant-loop-byte l = Passing l.way l.near l.far (remembered l.far l.start) l.initial.part l.part l.sent l.byte-index
