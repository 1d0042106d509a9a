-- `sealing::seal` meets its contract.
-- Assumes nothing.
use Rattle.std.proofs.Common.{sym, ◌∙◌, ◌≤◌, length, arith}
use Rattle.scrambler.specs.Scrambler.{from}
use Rattle.sealing.proofs.Laws.{seals}
use Rattle.sealing.proofs.Sealing.{sealed-is}
use Rattle.sealing.proofs.seal.Goals as goal

pub returns : goal.returns
returns c =
    let a = c.args in
    let r = from a.near a.far a.start in
    let part = a.part.now in
    let enough : 3 ≤ length part = omega (arith, c.if-part-lt-LEAST_BYTES.false) in
    let sum = c.of in
    sealed-is r part c.split_at_mut-front.result.0.now c.scramble.new.part c.copy_from_slice.new.self sum.result enough c.split_at_mut-front.ensures.front
    sum.ensures.value (c.copy_from_slice.ensures.after ∙ c.to_be_bytes.ensures) c.scramble.ensures.bytes
    ∙ sym (seals r part enough)
