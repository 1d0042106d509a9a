-- `bits::read_field` meets its contract: the field is that of the bytes it touches.
-- Assumes nothing.
use Rattle.std.proofs.Common.{◌∙◌, arith}
use Rattle.bits.proofs.Fields.{is_field_lem, no_field}
use Rattle.bits.proofs.Places.{field-touched}
use Rattle.bits.proofs.read_field.Goals as goal

pub returns-in-Some-clause-value : goal.returns-in-Some-clause-value
returns-in-Some-clause-value c =
    let a = c.args in
    let t = c.in-Some.ensures in
    c.cut.ensures ∙ field-touched a.at a.width a.bytes.now c.in-Some.place t ∙ rw (is_field_lem a.at a.width a.bytes.now t.narrow (omega arith))

pub returns-in_default-clause-value : goal.returns-in_default-clause-value
returns-in_default-clause-value c =
    let a = c.args in
    rw (no_field a.at a.width a.bytes.now (λ narrow inside. omega (arith, c.in_default.ensures narrow)))
