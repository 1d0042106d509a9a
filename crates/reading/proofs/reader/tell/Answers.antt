-- `reading::reader::tell` meets its contract: what is opened is what was sent, copied.
-- Assumes nothing.
use Rattle.std.proofs.Common.{◌≡◌, sym, ◌∙◌, ap, ℕ, ◌-◌, ◌≤◌, Bool, true, List, eqb, length, take, drop, eq-eqb, ne_eqb}
use Rattle.scrambler.specs.Scrambler.{Register, from}
use Rattle.frames.specs.Frames.{clear_body}
use Rattle.frames.specs.Reading.{checksum_right}
use Rattle.sealing.specs.declared.Sums.{Sums}
use Rattle.sealing.specs.Sealing.{opened_part, sums_of}
use Rattle.sealing.proofs.Laws.{sums-right, body-told}
use Rattle.reading.specs.Told.{told_to}
use Rattle.reading.proofs.reader.tell.Goals as goal

-- a copy of what was sent, opened
module _ (r : Register) (sent copy : List ℕ) (long : 3 ≤ length sent) (same : copy ≡ sent) where
  right : (sums : Sums) → sums ≡ sums_of r copy → checksum_right r sent ≡ eqb sums.sent sums.computed
  right sums e = sym (ap (λ (x : Sums). eqb x.sent x.computed) (e ∙ ap (sums_of r) same) ∙ sums-right r sent long)

  body_is : (opened : List ℕ) → opened ≡ opened_part r copy → take (length sent - 2 - 1) (drop 1 opened) ≡ clear_body r sent
  body_is opened e = ap (λ (l : List ℕ). take (length sent - 2 - 1) (drop 1 l)) (e ∙ ap (opened_part r) same) ∙ body-told r sent long

pub returns-then-sums : goal.returns-then-sums
returns-then-sums c =
    let a = c.args in
    let sums = c.open-sums.result in
    let wrong = right (from a.near a.far a.start) a.sent.now c.copy_from_slice.new.self c.requires.in_bounds c.copy_from_slice.ensures.after
    sums c.open-sums.ensures.value ∙ ne_eqb sums.sent sums.computed c.if-sums.true in
    record { value = rw wrong; room_after = rw wrong }

pub returns : goal.returns
returns c =
    let a = c.args in
    let r = from a.near a.far a.start in
    let sums = c.open-sums.result in
    let copy = c.copy_from_slice.new.self in
    let same = right r a.sent.now copy c.requires.in_bounds c.copy_from_slice.ensures.after
    sums c.open-sums.ensures.value ∙ eq-eqb sums.sent sums.computed c.if-sums.false in
    record {
      value = rw same;
      room_after =
          c.read.ensures.room_after
          ∙ ap (λ (l : List ℕ). told_to true a.layout l a.room.now)
          (body_is r a.sent.now copy c.requires.in_bounds c.copy_from_slice.ensures.after c.open-sums.new.part c.open-sums.ensures.part_after)
          ∙ sym (ap (λ (b : Bool). told_to b a.layout (clear_body r a.sent.now) a.room.now) same);
    }
