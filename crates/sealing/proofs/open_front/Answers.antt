-- `sealing::open_front` meets its contract.
-- Assumes nothing.
use Rattle.std.proofs.Common.{sym, length}
use Rattle.std.proofs.lemmas.Bool.{eqb-true, eqb-false}
use Rattle.scrambler.specs.Scrambler.{from}
use Rattle.sealing.proofs.Opening.{no_front, front-opened}
use Rattle.sealing.proofs.open_front.Goals as goal

pub returns-then-not-is_empty : goal.returns-then-not-is_empty
returns-then-not-is_empty c =
    let a = c.args in
    front-opened (from a.near a.far a.start) a.front.now c.unscramble.new.part (eqb-false (length a.front.now) 0 (sym c.if-not-is_empty.ensures))
    c.unscramble.ensures.bytes

pub returns-else-not-is_empty : goal.returns-else-not-is_empty
returns-else-not-is_empty c =
    let a = c.args in
    no_front (from a.near a.far a.start) a.front.now (eqb-true (length a.front.now) 0 (sym c.if-not-is_empty.ensures))
