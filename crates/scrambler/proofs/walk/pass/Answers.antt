-- `scrambler::walk::pass` meets its contract: each turn takes the part one byte further.
-- Assumes nothing.
use Rattle.std.proofs.Common.{◌≡◌, sym, ap, ◌∙◌, true, false, le_of_eq, arith}
use Rattle.std.proofs.lemmas.Bool.Decides.{nat_tests}
use Rattle.scrambler.specs.Scrambler.{from, remembered, allowed}
use Rattle.scrambler.proofs.Held.{held_start, length-remembered}
use Rattle.scrambler.proofs.Passing.{passing-start, passing-next, passing-end}
use Rattle.scrambler.proofs.walk.pass.Goals as goal

pub returns-then-near-lt1 : goal.returns-then-near-lt1
unfolding allowed
returns-then-near-lt1 c =
    let a = c.args in
    let e = c.then-near-lt1.either in
    let no : allowed (from a.near a.far a.start) ≡ false = grind (arith, nat_tests) in
    record { register = rw no; bytes = rw no }

pub loop-byte-init : goal.loop-byte-init
loop-byte-init c =
    let a = c.args in
    passing-start a.way a.near a.far (remembered a.far a.start) a.part.now a.start
    (held_start a.far a.start) (le_of_eq (sym (length-remembered a.far a.start)))

pub loop-byte-preserved : goal.loop-byte-preserved
loop-byte-preserved c =
    let a = c.args in
    let l = c.loop-byte in
    let p = c.pass_byte-passed in
    passing-next a.way a.near a.far (remembered a.far a.start) a.part.now l.part l.sent l.byte-index
    p.result.sent p.result.byte (omega arith) p.ensures l.invariant

pub returns : goal.returns
unfolding allowed
returns c =
    let a = c.args in
    let l = c.loop-byte in
    let yes : allowed (from a.near a.far a.start) ≡ true = grind (arith, nat_tests) in
    let first = remembered a.far a.start in
    let end = passing-end a.way a.near a.far first a.part.now l.part l.sent l.byte-index (omega arith) l.invariant in
    record { register = rw yes (ap (from a.near a.far) (c.lowest.ensures ∙ end.0)); bytes = rw yes end.1 }
