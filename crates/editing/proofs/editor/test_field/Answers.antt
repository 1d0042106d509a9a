-- `editing::editor::test_field` meets its contract: the refusal of the first test that fails.
-- Assumes nothing.
use Rattle.std.proofs.Common.{◌^◌, sym, ◌∙◌, ap}
use lib.Dec.{ltb}
use Rattle.editing.proofs.Changes.{refuses-13, refuses-11, accepts}
use Rattle.editing.proofs.editor.test_field.Goals as goal

pub returns-then-layout-field : goal.returns-then-layout-field
returns-then-layout-field c =
    let a = c.args in
    refuses-13 a.layout a.field a.value c.if-layout-field.true

pub returns-then-not-fits : goal.returns-then-not-fits
returns-then-not-fits c =
    let a = c.args in
    let wide = ap (λ w. ltb a.value (2 ^ w)) (sym c.width.ensures) ∙ sym c.if-not-fits.ensures in
    refuses-11 a.layout a.field a.value c.if-layout-field.false wide

pub returns : goal.returns
returns c =
    let a = c.args in
    let narrow = ap (λ w. ltb a.value (2 ^ w)) (sym c.width.ensures) ∙ sym c.if-not-fits.ensures in
    accepts a.layout a.field a.value c.if-layout-field.false narrow
