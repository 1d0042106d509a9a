-- Training is compared first, and sync where it is right.
use Rattle.std.proofs.Common.{sym, ◌∙◌, arith}
use Rattle.fronts.proofs.Compared.{training-compared, sync-compared}
use Rattle.fronts.proofs.preamble.is_right.Goals as goal

pub returns-then-is_training : goal.returns-then-is_training
returns-then-is_training c =
    let a = c.args in
    let n = c.training in
    let front = c.split_at.ensures.front in
    let behind = c.split_at.ensures.back in
    let first = training-compared a.satellite n.result n.ensures a.frame.now (omega (arith, c.requires, n.ensures)) c.is_training.result
    (rw front at c.is_training.ensures) in
    rw (sym first ∙ c.if-is_training.true)
    (sync-compared a.satellite n.result n.ensures a.frame.now c.starts_with.result (rw behind at c.starts_with.ensures.value))

pub returns-else-is_training : goal.returns-else-is_training
returns-else-is_training c =
    let a = c.args in
    let n = c.training in
    let front = c.split_at.ensures.front in
    let first = training-compared a.satellite n.result n.ensures a.frame.now (omega (arith, c.requires, n.ensures)) c.is_training.result
    (rw front at c.is_training.ensures) in
    rw (sym first ∙ c.if-is_training.false) c.if-is_training.false
