-- What a call answers and leaves, by the definitions that its contract cites; and of an accepted call, by the satellite that its number
-- names.
-- Assumes nothing.
use Prim.Native.Nat.{ℕ, ◌≤◌}
use native.Mathlib.Omega.{arith}
use mathlib.Core.Path.{◌≡◌, refl, sym, ◌∙◌, ap, subst}
use mathlib.Core.Logic.{◌≢◌, inl, inr}
use mathlib.Core.Bool.{Bool, true, false}
use mathlib.Core.List.{List, [], ◌∷◌, ◌++◌}
use lib.Dec.{leb}
use borrow.Author.Tests.{leb-true, leb-false}
use Rattle.bits.specs.Bits.{Bytes}
use Rattle.std.specs.Prelude.{Option, Some, None}
use Rattle.satellites.specs.declared.Satellite.{Satellite}
use Rattle.satellites.specs.Satellites.{known}
use Rattle.satellites.proofs.Laws.{unknown}
use Rattle.refusals.specs.Tests.{Said, says, Answered}
use Rattle.frames.specs.Answers.{Reading, Writing}
use Rattle.frames.specs.Registers.{register_of}
use Rattle.frames.specs.Reading.{reading_by, room_after_by}
use Rattle.frames.specs.Writing.{writing, output_after_by}
use Rattle.frames.specs.Editing.{editing_by, frame_after_by}
use Rattle.frames.proofs.DemandOne.{reading-number, writing-number, editing-number, unnamed-number}
use Rattle.reading.proofs.Contracts.{read-says}
use Rattle.writing.proofs.Contracts.{write-says}
use Rattle.editing.proofs.Contracts.{edit-says}
use Rattle.frames.specs.Paper.{printed_of, Printed, whole, roomy, summed, wanted, fielded}
use Rattle.demands.specs.Demands.{printed, named, reading_said, writing_said, editing_said, Read, Write, Edit}
use Rattle.demands.proofs.Named.{Named, named_by}

-- test 1 of a satellite that is named
with-name : (n number : ℕ) (said : List Said) → n ≤ 6 → Answered number (says 1 (Unit {0}) ∷ said) → Answered number (named n ∷ said)
with-name n number said small (inl a) = inl (small, a.1)
with-name n number said small (inr a) = absurd (a.0 (tt {0}))

-- what is answered, test 1 being the first: for each satellite that a number can name, and for a number that names none
by_name : (n : ℕ) (said : Printed → List Said) (number : Option Satellite → ℕ)
    → ((w : Named n) → Answered (number (Some w.satellite)) (says 1 (Unit {0}) ∷ said (printed_of register_of w.satellite)))
    → number None ≡ 1 → Answered (number (known n)) (named n ∷ said (printed n))
by_name n said number of-named of_none = go (leb n 6) refl
  where
    go : (b : Bool) → leb n 6 ≡ b → Answered (number (known n)) (named n ∷ said (printed n))
    go true e =
        let small = leb-true n 6 e in
        let w = named_by n small in
        let its = subst (λ p. Answered (number (Some w.satellite)) (says 1 (Unit {0}) ∷ said p)) w.as-printed (of-named w) in
        subst (λ k. Answered (number k) (named n ∷ said (printed n))) (sym w.is_known)
        (with-name n (number (Some w.satellite)) (said (printed n)) small its)
    go false e =
        let above = leb-false n 6 e in
        inr (λ small. omega (arith, above, small), ap number (unknown n (omega (arith, above))) ∙ of_none)

-- the satellite of a call that test 1 lets pass
passes-name : (n number : ℕ) (said : List Said) → Answered number (named n ∷ said) → number ≢ 1 → Named n
passes-name n number said (inl a) other = named_by n a.0
passes-name n number said (inr a) other = absurd (other a.1)

-- ---- reading

-- what reading answers, called for a number
pub reading-answered : (n : ℕ) (frame room : List ℕ) → Answered (reading_by register_of (known n) frame room).refusal (reading_said n frame room)
reading-answered n frame room =
    by_name n (λ p. whole p frame ++ (roomy p frame room ∷ summed p frame ∷ [])) (λ k. (reading_by register_of k frame room).refusal)
    (λ w. reading-number register_of w.satellite frame room) (unnamed-number register_of 0 0 frame room).0

module _ {n : ℕ} {frame room frame' room' : List ℕ} {r : Reading} (call : Read n frame room r frame' room') where
  pub read-gives : (r ≡ reading_by register_of (known n) frame room)
      × ((room' ≡ room_after_by register_of (known n) frame room) × ((frame' ≡ frame) × Bytes frame))
  read-gives =
      let a = call.1.0 in
      let s = call.1.1.0 in
      let given = call.1.1.1.1.1.1 in
      let says = read-says call.0 a call.1.1.1.0 s call.1.1.1.1.1.0 in (
        sym call.1.1.1.1.0 ∙ says.0 ∙ (λ i. reading_by register_of (known (given.0 i)) (given.1.0 i) (given.1.1.0 i)),
        (
          sym given.1.1.1.1 ∙ says.1.0 ∙ (λ i. room_after_by register_of (known (given.0 i)) (given.1.0 i) (given.1.1.0 i)),
          (sym given.1.1.1.0 ∙ says.1.1.0 ∙ given.1.0, subst Bytes given.1.0 says.1.1.1),
        ),
      )

  pub read_number : Answered r.refusal (reading_said n frame room)
  read_number =
      subst (λ (a : Reading). Answered a.refusal (reading_said n frame room)) (sym read-gives.0) (reading-answered n frame room)

  -- a call that is accepted names a satellite
  pub read_named : r.refusal ≡ 0 → Named n
  read_named accepted =
      passes-name n r.refusal (whole (printed n) frame ++ (roomy (printed n) frame room ∷ summed (printed n) frame ∷ [])) read_number
      (λ one. omega (arith, accepted, one))

  -- and by that satellite it answers and leaves
  module _ (w : Named n) where
    pub read_answer : r.refusal ≡ 0
        → reading_by register_of (Some w.satellite) frame room ≡ record { refusal = 0; ty = r.ty; count = r.count }
    read_answer accepted =
        ap (λ (k : Option Satellite). reading_by register_of k frame room) (sym w.is_known)
        ∙ sym read-gives.0
        ∙ (λ i. record { refusal = accepted i; ty = r.ty; count = r.count })

    pub read_left : room' ≡ room_after_by register_of (Some w.satellite) frame room
    read_left = read-gives.1.0 ∙ ap (λ (k : Option Satellite). room_after_by register_of k frame room) w.is_known

-- ---- writing

module _ {n t : ℕ} {values output values' output' : List ℕ} {w : Writing} (call : Write n t values output w values' output') where
  pub write-gives : (w ≡ writing (known n) t values output)
      × ((output' ≡ output_after_by register_of (known n) t values output) × (values' ≡ values))
  write-gives =
      let a = call.1.0 in
      let s = call.1.1.0 in
      let given = call.1.1.1.1.1.1 in
      let says = write-says call.0 a call.1.1.1.0 s call.1.1.1.1.1.0 in (
        sym call.1.1.1.1.0 ∙ says.0 ∙ (λ i. writing (known (given.0 i)) (given.1.0 i) (given.1.1.0 i) (given.1.1.1.0 i)),
        (
          sym given.1.1.1.1.1
              ∙ says.1.0
              ∙ (λ i. output_after_by register_of (known (given.0 i)) (given.1.0 i) (given.1.1.0 i) (given.1.1.1.0 i)),
          sym given.1.1.1.1.0 ∙ says.1.1 ∙ given.1.1.0,
        ),
      )

  pub write-number : Answered w.refusal (writing_said n t values output)
  write-number =
      subst (λ (a : Writing). Answered a.refusal (writing_said n t values output)) (sym write-gives.0)
      (by_name n (λ p. wanted p t values output) (λ k. (writing k t values output).refusal)
      (λ w. writing-number register_of w.satellite t values output) (unnamed-number register_of t 0 values output).1.0)

  -- a call that test 1 lets pass, by the satellite that it names
  module _ (other : w.refusal ≢ 1) where
    pub write-named : Named n
    write-named = passes-name n w.refusal (wanted (printed n) t values output) write-number other

    pub write-answer : w ≡ writing (Some write-named.satellite) t values output
    write-answer = write-gives.0 ∙ ap (λ (k : Option Satellite). writing k t values output) write-named.is_known

    pub write-left : output' ≡ output_after_by register_of (Some write-named.satellite) t values output
    write-left = write-gives.1.0 ∙ ap (λ (k : Option Satellite). output_after_by register_of k t values output) write-named.is_known

-- ---- editing

module _ {n k v : ℕ} {frame frame' : List ℕ} {e : Writing} (call : Edit n frame k v e frame') where
  pub edit-gives : (e ≡ editing_by register_of (known n) frame k v) × (frame' ≡ frame_after_by register_of (known n) frame k v)
  edit-gives =
      let a = call.1.0 in
      let s = call.1.1.0 in
      let given = call.1.1.1.1.1.1 in
      let says = edit-says call.0 a call.1.1.1.0 s call.1.1.1.1.1.0 in (
        sym call.1.1.1.1.0 ∙ says.0 ∙ (λ i. editing_by register_of (known (given.0 i)) (given.1.0 i) (given.1.1.0 i) (given.1.1.1.0 i)),
        sym given.1.1.1.1
            ∙ says.1.0
            ∙ (λ i. frame_after_by register_of (known (given.0 i)) (given.1.0 i) (given.1.1.0 i) (given.1.1.1.0 i)),
      )

  pub edit-number : Answered e.refusal (editing_said n frame k v)
  edit-number =
      subst (λ (a : Writing). Answered a.refusal (editing_said n frame k v)) (sym edit-gives.0)
      (by_name n (λ p. whole p frame ++ (summed p frame ∷ fielded p frame k v)) (λ s. (editing_by register_of s frame k v).refusal)
      (λ w. editing-number register_of w.satellite frame k v) (unnamed-number register_of k v frame frame).1.1)

  -- a call that test 1 lets pass names a satellite
  pub edit-named : e.refusal ≢ 1 → Named n
  edit-named = passes-name n e.refusal (whole (printed n) frame ++ (summed (printed n) frame ∷ fielded (printed n) frame k v)) edit-number

  -- by that satellite it answers and leaves
  module _ (w : Named n) where
    pub edit-answer : editing_by register_of (Some w.satellite) frame k v ≡ e
    edit-answer = ap (λ (s : Option Satellite). editing_by register_of s frame k v) (sym w.is_known) ∙ sym edit-gives.0

    pub edit-left : frame' ≡ frame_after_by register_of (Some w.satellite) frame k v
    edit-left = edit-gives.1 ∙ ap (λ (s : Option Satellite). frame_after_by register_of s frame k v) w.is_known
