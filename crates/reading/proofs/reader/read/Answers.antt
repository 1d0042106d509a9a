-- `reading::reader::read` meets its contract: the first test that fails refuses, and where none does the room is filled.
-- Assumes nothing.
use Rattle.std.proofs.Common.{rules, ◌≡◌, sym, ◌∙◌, ap, ap₂, Err, ℕ, ◌-◌, ◌≤◌, ◌<◌, Bool, List, length, take, drop, arith}
use Rattle.satellites.specs.declared.Satellite.{Satellite}
use Rattle.satellites.specs.Satellites.{type_byte_at}
use Rattle.layouts.specs.declared.Layout.{Layout}
use Rattle.layouts.specs.Layouts.{laid_out}
use Rattle.refusals.specs.Tests.{refusal}
use Rattle.refusals.proofs.Answered.{handed-on}
use Rattle.frames.specs.Registers.{register_of}
use Rattle.frames.specs.Answers.{read_in_numbers}
use Rattle.frames.specs.Frames.{from_type_byte, clear_body, entry_in}
use Rattle.frames.specs.Reading.{checksum_right, whole_tests}
use Rattle.frames.proofs.Registers.{handed}
use Rattle.frames.proofs.Readings.{read_as}
use Rattle.fronts.specs.declared.Front.{Front}
use Rattle.fronts.proofs.Told.{whole-alone, whole-told}
use Rattle.fronts.proofs.Lent.{lies-inside, lent-part, lent-least, lent-most}
use Rattle.scrambler.specs.Scrambler.{from, NEAR, FAR, START}
use Rattle.reading.specs.Told.{told_to}
use Rattle.reading.proofs.Answers.{was-right, was-wrong, whole-refuses, refuses-8, refuses-9, accepts}
use Rattle.reading.proofs.reader.read.Goals as goal

pub returns-in_err-front : goal.returns-in_err-front
returns-in_err-front c =
    let a = c.args in
    let found = c.in_err-front.field-0.0 in
    let told = whole-refuses register_of a.satellite a.frame.now a.room.now found (whole-alone a.satellite a.frame.now c.whole.ensures.value (search (rules, c.in_err-front.ensures.cases))) in
    record { value = ap read_in_numbers (handed-on c.from_residual.result found c.from_residual.ensures.1) ∙ told.0; room_after = told.1 }

pub returns-then-room-front : goal.returns-then-room-front
returns-then-room-front c =
    let a = c.args in
    let front = whole-told a.satellite a.frame.now c.in_ok-front.front (whole-alone a.satellite a.frame.now c.whole.ensures.value c.in_ok-front.ensures.cases) in
    let small : length a.room.now < length (entry_in a.satellite a.frame.now).widths =
    omega (arith, c.if-room-front.true, ap (λ (f : Front). f.layout.fields) front.1) in
    let told = refuses-8 register_of a.satellite a.frame.now a.room.now front.0 small in
    record { value = told.0; room_after = told.1 }

pub slice_bounds-sent-count : goal.slice_bounds-sent-count
slice_bounds-sent-count c =
    let a = c.args in
    let front = whole-told a.satellite a.frame.now c.in_ok-front.front (whole-alone a.satellite a.frame.now c.whole.ensures.value c.in_ok-front.ensures.cases) in
    lies-inside a.satellite a.frame.now front.0 c.type_byte_at.result c.type_byte_at.ensures

pub slice_bounds-sent-start : goal.slice_bounds-sent-start
slice_bounds-sent-start c = slice_bounds-sent-count c

pub tell-requires : goal.tell-requires
tell-requires c =
    let a = c.args in
    let n = c.type_byte_at in
    let front = whole-told a.satellite a.frame.now c.in_ok-front.front (whole-alone a.satellite a.frame.now c.whole.ensures.value c.in_ok-front.ensures.cases) in
    record {
      in_bounds = lent-least a.satellite a.frame.now front.0 n.result n.ensures;
      sent_len_bound = lent-most a.satellite a.frame.now front.0 n.result n.ensures;
    }

-- what is told of the part that is lent of a whole frame, in the words of the satellite
module _ (s : Satellite) (frame : List ℕ) (whole : refusal (whole_tests s frame) ≡ 0) (n : ℕ) (place : n ≡ type_byte_at s) where
  abbrev lent : List ℕ
  lent = take (length frame - n) (drop n frame)

  abbrev part : List ℕ
  part = from_type_byte s frame

  checked-as : checksum_right (register_of s) part ≡ checksum_right (from NEAR FAR START) lent
  checked-as = sym (ap₂ checksum_right (handed s) (lent-part s frame whole n place))

  left-as : (room : List ℕ) (layout : Layout) → layout ≡ laid_out s (entry_in s frame)
      → told_to (checksum_right (from NEAR FAR START) lent) layout (clear_body (from NEAR FAR START) lent) room
      ≡ told_to (checksum_right (register_of s) part) (laid_out s (entry_in s frame)) (clear_body (register_of s) part) room
  left-as room layout its =
      ap₂ (λ (b : Bool) (l : Layout). told_to b l (clear_body (from NEAR FAR START) lent) room) (sym checked-as) its
      ∙ ap (λ (body : List ℕ). told_to (checksum_right (register_of s) part) (laid_out s (entry_in s frame)) body room)
      (ap₂ clear_body (handed s) (lent-part s frame whole n place))

pub returns-in_err-tell : goal.returns-in_err-tell
returns-in_err-tell c =
    let a = c.args in
    let n = c.type_byte_at in
    let found = c.in_err-tell.field-0.0 in
    let front = whole-told a.satellite a.frame.now c.in_ok-front.front (whole-alone a.satellite a.frame.now c.whole.ensures.value c.in_ok-front.ensures.cases) in
    let enough : length (entry_in a.satellite a.frame.now).widths ≤ length a.room.now =
    omega (arith, c.if-room-front.false, ap (λ (f : Front). f.layout.fields) front.1) in
    let its = was-wrong _ found c.in_err-tell.ensures.value in
    let wrong = checked-as a.satellite a.frame.now front.0 n.result n.ensures ∙ its.0 in
    let told = refuses-9 register_of a.satellite a.frame.now a.room.now front.0 enough wrong in
    record {
      value = ap read_in_numbers (handed-on c.from_residual-in_err-tell.result found c.from_residual-in_err-tell.ensures.1 ∙ ap Err its.1) ∙ told.0;
      room_after =
          c.tell.ensures.room_after
          ∙ left-as a.satellite a.frame.now front.0 n.result n.ensures a.room.now c.in_ok-front.front.layout (ap (λ (f : Front). f.layout) front.1)
          ∙ rw wrong told.1;
    }

pub returns : goal.returns
returns c =
    let a = c.args in
    let n = c.type_byte_at in
    let front = whole-told a.satellite a.frame.now c.in_ok-front.front (whole-alone a.satellite a.frame.now c.whole.ensures.value c.in_ok-front.ensures.cases) in
    let enough : length (entry_in a.satellite a.frame.now).widths ≤ length a.room.now =
    omega (arith, c.if-room-front.false, ap (λ (f : Front). f.layout.fields) front.1) in
    let right = checked-as a.satellite a.frame.now front.0 n.result n.ensures ∙ was-right _ _ c.in_ok-tell.ensures.value in
    let told = accepts register_of a.satellite a.frame.now a.room.now front.0 enough right in
    record {
      value = ap (λ (f : Front). read_as f.ty f.layout.fields) front.1 ∙ told.0;
      room_after =
          c.tell.ensures.room_after
          ∙ left-as a.satellite a.frame.now front.0 n.result n.ensures a.room.now c.in_ok-front.front.layout (ap (λ (f : Front). f.layout) front.1)
          ∙ rw right told.1;
    }
