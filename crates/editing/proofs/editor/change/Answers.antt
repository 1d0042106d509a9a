-- `editing::editor::change` meets its contract.
-- Assumes nothing.
use Rattle.std.proofs.Common.{◌≡◌, ℕ, ◌-◌, ◌≤◌, List, length, take, drop, sym, ◌∙◌, ap, ap₂}
use lib.Dec.{eqb}
use borrow.Author.Tests.{eq-eqb, ne_eqb}
use Rattle.bits.specs.Bits.{replaced_answer}
use Rattle.bits.proofs.Fields.{length-replaced-answer}
use Rattle.scrambler.specs.Scrambler.{Register, from}
use Rattle.layouts.specs.Layouts.{start_at, width_at}
use Rattle.refusals.proofs.Answered.{handed-on}
use Rattle.frames.specs.Frames.{clear_body}
use Rattle.frames.specs.Reading.{checksum_right}
use Rattle.sealing.specs.declared.Sums.{Sums}
use Rattle.sealing.specs.Sealing.{opened_part, sums_of}
use Rattle.sealing.proofs.Laws.{sums-right}
use Rattle.editing.proofs.Opened.{opened-sealed}
use Rattle.editing.proofs.Changes.{stays-9, stays, changes}
use Rattle.editing.proofs.editor.change.Goals as goal

-- test 9
told : (r : Register) (part copy : List ℕ) (sums : Sums) → 3 ≤ length part → copy ≡ part → sums ≡ sums_of r copy
    → checksum_right r part ≡ eqb sums.sent sums.computed
told r part copy sums enough is e =
    sym (ap (λ (s : Sums). eqb s.sent s.computed) (e ∙ ap (sums_of r) is) ∙ sums-right r part enough)

pub returns-then-sums : goal.returns-then-sums
returns-then-sums c =
    let a = c.args in
    let r = from a.near a.far a.start in
    let sums = c.open-sums in
    let wrong = told r a.part.now c.copy_from_slice.new.self sums.result c.requires.in_bounds c.copy_from_slice.ensures.after sums.ensures.value
    ∙ ne_eqb sums.result.sent sums.result.computed c.if-sums.true in
    let leaves = stays-9 r a.layout a.part.now a.field a.value wrong in
    record { value = leaves.0; part_after = leaves.1 }

pub returns-in_err-test_field : goal.returns-in_err-test_field
returns-in_err-test_field c =
    let a = c.args in
    let r = from a.near a.far a.start in
    let sums = c.open-sums in
    let right = told r a.part.now c.copy_from_slice.new.self sums.result c.requires.in_bounds c.copy_from_slice.ensures.after sums.ensures.value
    ∙ eq-eqb sums.result.sent sums.result.computed c.if-sums.false in
    let found = c.in_err-test_field.field-0.0 in
    let leaves = stays r a.layout a.part.now a.field a.value right found c.in_err-test_field.ensures in
    record { value = handed-on c.from_residual.result found c.from_residual.ensures.1 ∙ leaves.0; part_after = leaves.1 }

pub returns : goal.returns
returns c =
    let a = c.args in
    let r = from a.near a.far a.start in
    let part = a.part.now in
    let enough = c.requires.in_bounds in
    let sums = c.open-sums in
    let is = c.copy_from_slice.ensures.after in
    let right = told r part c.copy_from_slice.new.self sums.result enough is sums.ensures.value
    ∙ eq-eqb sums.result.sent sums.result.computed c.if-sums.false in
    let at = start_at a.layout.widths a.field in
    let width = width_at a.layout.widths a.field in
    let opened = c.copy_from_slice-2.new.self in
    let is_open = c.copy_from_slice-2.ensures.after ∙ sums.ensures.part_after ∙ ap (opened_part r) is in
    let lends = take (length part - 2 - 1) (drop 1 opened) in
    let is_replaced =
    c.replace_field.ensures
    ∙ ap₂ (λ (from w : ℕ). replaced_answer from w a.value lends) c.start-bit.ensures c.width-width.ensures in
    let keeps = length-replaced-answer at width a.value (clear_body r part) in
    let leaves =
    changes r a.layout part a.field a.value right _ c.in_ok-test_field.ensures
    (c.seal.ensures ∙ opened-sealed r part enough opened c.replace_field.new.bytes (replaced_answer at width a.value) is_open is_replaced keeps) in
    record { value = leaves.0; part_after = leaves.1 }
