-- `bits::replace_field` meets its contract: the field is replaced in the bytes it touches, and the others stay.
-- Assumes nothing.
use Rattle.std.proofs.Common.{◌∙◌, rules, get_or, Fits, w8, arith}
use Rattle.bits.proofs.Fields.{is_field_lem, no_field}
use Rattle.bits.proofs.Places.{replaced-touched}
use Rattle.bits.proofs.replace_field.Goals as goal

pub returns-in-Some : goal.returns-in-Some
returns-in-Some c =
    let a = c.args in
    let t = c.in-Some.ensures in
    replaced-touched a.at a.width a.bytes.now c.in-Some.place t
    (λ i. let f : Fits w8 (get_or a.bytes.now i 0) = search rules in f.fits) a.value c.put.new.group c.put.ensures
    ∙ rw (is_field_lem a.at a.width a.bytes.now t.narrow (omega arith))

pub returns-in_default : goal.returns-in_default
returns-in_default c =
    let a = c.args in
    rw (no_field a.at a.width a.bytes.now (λ narrow inside. omega (arith, c.in_default.ensures narrow)))
