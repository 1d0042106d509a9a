-- `editing::editor::edit` meets its contract.
-- Assumes nothing.
use Rattle.std.proofs.Common.{◌≡◌, ℕ, ◌-◌, List, ◌++◌, length, take, drop, ◌∙◌, ap, ap₂, rules, Result, Ok, Err}
use Rattle.std.specs.Prelude.{⊤}
use Rattle.scrambler.specs.Scrambler.{Register, from, NEAR, FAR, START}
use Rattle.satellites.specs.declared.Satellite.{Satellite}
use Rattle.satellites.specs.Satellites.{type_byte_at}
use Rattle.layouts.specs.declared.Layout.{Layout}
use Rattle.layouts.specs.Layouts.{laid_out}
use Rattle.fronts.specs.declared.Front.{Front}
use Rattle.refusals.specs.declared.Refusal.{Refusal}
use Rattle.refusals.specs.Tests.{answer_by}
use Rattle.refusals.proofs.Answered.{handed-on}
use Rattle.frames.specs.Registers.{register_of}
use Rattle.frames.proofs.Registers.{handed}
use Rattle.frames.specs.Answers.{written_in_numbers}
use Rattle.frames.specs.Frames.{from_type_byte, entry_in}
use Rattle.frames.proofs.Writings.{wrote_as}
use Rattle.fronts.proofs.Told.{whole-alone, whole-told}
use Rattle.fronts.proofs.Lent.{lies-inside, lent-part, lent-least, lent-most}
use Rattle.editing.specs.Changed.{part_tests, part_after}
use Rattle.editing.proofs.Changes.{Leaves}
use Rattle.editing.proofs.Answers.{whole-refuses, part-refuses, part-accepts}
use Rattle.editing.proofs.editor.edit.Goals as goal

-- tests 9, 13 and 11, and what is left of the part, in the words of the satellite
leaves-as : (s : Satellite) (its layout : Layout) (lent part : List ℕ) (k v : ℕ) (result : Result ⊤ Refusal) (left : List ℕ) → its ≡ layout → lent ≡ part
    → result ≡ answer_by (part_tests (from NEAR FAR START) its lent k v) k tt → left ≡ part_after (from NEAR FAR START) its lent k v
    → Leaves (register_of s) layout part k v result left
leaves-as s its layout lent part k v result left as_laid is told leaves = (
  told
      ∙ ap₂ (λ (l : Layout) (p : List ℕ). answer_by (part_tests (from NEAR FAR START) l p k v) k tt) as_laid is
      ∙ ap (λ (r : Register). answer_by (part_tests r layout part k v) k tt) (handed s),
  leaves
      ∙ ap₂ (λ (l : Layout) (p : List ℕ). part_after (from NEAR FAR START) l p k v) as_laid is
      ∙ ap (λ (r : Register). part_after r layout part k v) (handed s),
)

-- the part is put back behind the type byte's place, as it was computed
put : (frame left : List ℕ) (n m : ℕ) → n ≡ m
    → take n frame ++ (left ++ drop (length frame - n) (drop n frame)) ≡ take m frame ++ (left ++ drop (length frame - m) (drop m frame))
put frame left n m e = ap (λ (k : ℕ). take k frame ++ (left ++ drop (length frame - k) (drop k frame))) e

pub returns-in_err-front : goal.returns-in_err-front
returns-in_err-front c =
    let a = c.args in
    let found = c.in_err-front.field-0.0 in
    let told = whole-refuses register_of a.satellite a.frame.now a.field a.value found (whole-alone a.satellite a.frame.now c.whole.ensures.value (search (rules, c.in_err-front.ensures.cases))) in
    record { value = ap written_in_numbers (handed-on c.from_residual.result found c.from_residual.ensures.1) ∙ told.0; frame_after = told.1 }

pub slice_bounds-part-count : goal.slice_bounds-part-count
slice_bounds-part-count c =
    let a = c.args in
    let front = whole-told a.satellite a.frame.now c.in_ok-front.front (whole-alone a.satellite a.frame.now c.whole.ensures.value c.in_ok-front.ensures.cases) in
    lies-inside a.satellite a.frame.now front.0 c.type_byte_at.result c.type_byte_at.ensures

pub slice_bounds-part-start : goal.slice_bounds-part-start
slice_bounds-part-start c = search (rules, slice_bounds-part-count c)

pub change-requires : goal.change-requires
change-requires c =
    let a = c.args in
    let n = c.type_byte_at in
    let front = whole-told a.satellite a.frame.now c.in_ok-front.front (whole-alone a.satellite a.frame.now c.whole.ensures.value c.in_ok-front.ensures.cases) in
    record {
      in_bounds = lent-least a.satellite a.frame.now front.0 n.result n.ensures;
      part_len_bound = lent-most a.satellite a.frame.now front.0 n.result n.ensures;
    }

pub returns-in_err-change : goal.returns-in_err-change
returns-in_err-change c =
    let a = c.args in
    let s = a.satellite in
    let frame = a.frame.now in
    let n = c.type_byte_at in
    let front = whole-told s frame c.in_ok-front.front (whole-alone s frame c.whole.ensures.value c.in_ok-front.ensures.cases) in
    let left = c.change.new.part in
    let found = c.in_err-change.field-0.0 in
    let leaves =
    leaves-as s c.in_ok-front.front.layout (laid_out s (entry_in s frame)) _ (from_type_byte s frame) a.field a.value (Err found) left
    (ap (λ (f : Front). f.layout) front.1) (lent-part s frame front.0 n.result n.ensures) c.in_err-change.ensures.value c.change.ensures.part_after in
    let told = part-refuses register_of s frame a.field a.value front.0 found left leaves in
    record {
      value = ap written_in_numbers (handed-on c.from_residual-in_err-change.result found c.from_residual-in_err-change.ensures.1) ∙ told.0;
      frame_after = put frame left n.result (type_byte_at s) n.ensures ∙ told.1;
    }

pub returns : goal.returns
returns c =
    let a = c.args in
    let s = a.satellite in
    let frame = a.frame.now in
    let n = c.type_byte_at in
    let front = whole-told s frame c.in_ok-front.front (whole-alone s frame c.whole.ensures.value c.in_ok-front.ensures.cases) in
    let left = c.change.new.part in
    let leaves =
    leaves-as s c.in_ok-front.front.layout (laid_out s (entry_in s frame)) _ (from_type_byte s frame) a.field a.value (Ok _) left
    (ap (λ (f : Front). f.layout) front.1) (lent-part s frame front.0 n.result n.ensures) c.in_ok-change.ensures.value c.change.ensures.part_after in
    let told = part-accepts register_of s frame a.field a.value front.0 _ left leaves in
    record {
      value = ap (λ (f : Front). wrote_as f.layout.frame) front.1 ∙ told.0;
      frame_after = put frame left n.result (type_byte_at s) n.ensures ∙ told.1;
    }
