-- `writing::writer::write` meets its contract: the first test that fails refuses, and where none does the frame is written.
-- Assumes nothing.
use Rattle.std.proofs.Common.{◌≡◌, sym, ◌∙◌, ap, ℕ, ◌-◌, ◌≤◌, ◌<◌, List, true, length, arith, Some, Err}
use Rattle.satellites.specs.declared.Satellite.{Satellite}
use Rattle.layouts.specs.declared.Layout.{Layout}
use Rattle.layouts.specs.Layouts.{carries, entry_of, laid_out, layout_of}
use Rattle.layouts.proofs.Laid.{some-layout, none-layout}
use Rattle.bodies.specs.Bodies.{fitting, widths_in}
use Rattle.bodies.proofs.Laws.{widths-in}
use Rattle.refusals.proofs.Answered.{handed-on, none-found, some-found}
use Rattle.frames.specs.Registers.{register_of}
use Rattle.frames.specs.Frames.{frame_length}
use Rattle.frames.specs.Answers.{written_in_numbers}
use Rattle.frames.specs.Writing.{refused_writing}
use Rattle.frames.proofs.Writings.{wrote_as}
use Rattle.writing.proofs.Answers.{refuses-5, refuses-10, refuses-11, refuses-12, accepts}
use Rattle.writing.proofs.writer.write.Goals as goal

-- what is told of a type that is carried
module _ (s : Satellite) (ty : ℕ) (layout : Layout) (told : layout_of s ty ≡ Some layout) where
  its : (carries s ty ≡ true) × (layout ≡ laid_out s (entry_of s ty))
  its = some-layout s ty layout told

  counted : layout.fields ≡ length (entry_of s ty).widths
  counted = ap (λ (l : Layout). l.fields) its.1

  fits : (values : List ℕ) (n : ℕ) → n ≡ fitting (widths_in layout) values → n ≡ fitting (entry_of s ty).widths values
  fits values n e = e ∙ ap (λ (ws : List ℕ). fitting ws values) (widths-in s ty layout told)

  its-length : layout.frame ≡ frame_length s ty
  its-length = ap (λ (l : Layout). l.frame) its.1

pub returns-in_err-layout : goal.returns-in_err-layout
returns-in_err-layout c =
    let a = c.args in
    let none = none-found c.of.result _ c.in_err-layout.field-0.0 c.in_err-layout.ensures.value in
    let other = none-layout a.satellite a.ty (sym c.of.ensures ∙ none.0) in
    let told = refuses-5 register_of a.satellite a.ty a.values.now a.output.now other in
    record {
      value =
          ap written_in_numbers (handed-on c.from_residual.result c.in_err-layout.field-0.0 c.from_residual.ensures.1)
          ∙ ap (λ e. written_in_numbers (Err e)) none.1
          ∙ told.0;
      output_after = told.1;
    }

pub returns-then-values-layout : goal.returns-then-values-layout
returns-then-values-layout c =
    let a = c.args in
    let layout = c.in_ok-layout.layout in
    let told = sym c.of.ensures ∙ some-found c.of.result _ layout c.in_ok-layout.ensures.value in
    let refused = refuses-10 register_of a.satellite a.ty a.values.now a.output.now (its a.satellite a.ty layout told).0
    (λ e. c.if-values-layout.true (e ∙ sym (counted a.satellite a.ty layout told))) in
    record { value = refused.0; output_after = refused.1 }

pub returns-then-fitting-layout : goal.returns-then-fitting-layout
returns-then-fitting-layout c =
    let a = c.args in
    let layout = c.in_ok-layout.layout in
    let told = sym c.of.ensures ∙ some-found c.of.result _ layout c.in_ok-layout.ensures.value in
    let count = counted a.satellite a.ty layout told in
    let lowest = fits a.satellite a.ty layout told a.values.now c.fitting-fitting.result c.fitting-fitting.ensures.value in
    let refused = refuses-11 register_of a.satellite a.ty a.values.now a.output.now (its a.satellite a.ty layout told).0
    (c.if-values-layout.false ∙ count) (λ e. c.if-fitting-layout.true (lowest ∙ e ∙ sym count)) in
    record { value = ap (refused_writing 11) lowest ∙ refused.0; output_after = refused.1 }

pub returns-then-output-length : goal.returns-then-output-length
returns-then-output-length c =
    let a = c.args in
    let layout = c.in_ok-layout.layout in
    let told = sym c.of.ensures ∙ some-found c.of.result _ layout c.in_ok-layout.ensures.value in
    let count = counted a.satellite a.ty layout told in
    let lowest = fits a.satellite a.ty layout told a.values.now c.fitting-fitting.result c.fitting-fitting.ensures.value in
    let short : length a.output.now < frame_length a.satellite a.ty = omega (arith, its-length a.satellite a.ty layout told) in
    let refused = refuses-12 register_of a.satellite a.ty a.values.now a.output.now (its a.satellite a.ty layout told).0
    (c.if-values-layout.false ∙ count) (sym lowest ∙ c.if-fitting-layout.false ∙ count) short in
    record { value = refused.0; output_after = refused.1 }

pub returns : goal.returns
returns c =
    let a = c.args in
    let layout = c.in_ok-layout.layout in
    let told = sym c.of.ensures ∙ some-found c.of.result _ layout c.in_ok-layout.ensures.value in
    let count = counted a.satellite a.ty layout told in
    let lowest = fits a.satellite a.ty layout told a.values.now c.fitting-fitting.result c.fitting-fitting.ensures.value in
    let long = its-length a.satellite a.ty layout told in
    let lent : layout.frame - 0 ≡ frame_length a.satellite a.ty = omega (arith, long) in
    let enough : frame_length a.satellite a.ty ≤ length a.output.now = omega (arith, long) in
    let accepted = accepts register_of a.satellite a.ty a.values.now a.output.now (its a.satellite a.ty layout told).0
    (c.if-values-layout.false ∙ count) (sym lowest ∙ c.if-fitting-layout.false ∙ count) enough
    (ap wrote_as long) lent c.frame.ensures in
    record { value = accepted.0; output_after = accepted.1 }
