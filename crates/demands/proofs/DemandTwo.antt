-- Demand 2 holds.
-- Assumes nothing.
use Prim.Native.Nat.{ℕ, ◌+◌, ◌≤◌}
use native.Mathlib.Omega.{arith}
use mathlib.Core.Path.{◌≡◌, sym, ◌∙◌, ap, subst}
use mathlib.Core.List.{List, [], ◌∷◌, ◌++◌}
use mathlib.Core.Logic.{◌≢◌}
use lib.ListN.{length, get_or, take, drop}
use Rattle.refusals.specs.Tests.{Answered, AllSaid}
use Rattle.refusals.proofs.Says.{answered-once, all-answered, all_said, part-said, join-said}
use Rattle.satellites.specs.declared.Satellite.{Satellite}
use Rattle.std.specs.Prelude.{Some}
use Rattle.satellites.specs.Satellites.{known}
use Rattle.frames.specs.Answers.{Reading, Writing}
use Rattle.frames.specs.Registers.{register_of}
use Rattle.frames.specs.Reading.{reading_by, room_after_by}
use Rattle.frames.specs.Writing.{writing, output_after_by}
use Rattle.frames.proofs.DemandTwo as two
use Rattle.frames.specs.Paper.{printed_of, widths, size, type_byte_at, type_in, body, whole, roomy, summed}
use Rattle.demands.specs.Demands.{printed, reading_said, frame_said, Read, Write, Fields, DemandTwo}
use Rattle.demands.proofs.Calls.{reading-answered, read-gives, read_number, read_named, read_answer, read_left}
use Rattle.demands.proofs.Calls.{write-gives, write-named, write-answer, write-left}

-- tests 1 to 9 with room, and without test 8
without-room : (n : ℕ) (frame room : List ℕ) → AllSaid (reading_said n frame room) → AllSaid (frame_said n frame)
without-room n frame room all =
    let parts = part-said (whole (printed n) frame) (roomy (printed n) frame room ∷ summed (printed n) frame ∷ []) all.1 in
    (all.0, join-said (whole (printed n) frame) (summed (printed n) frame ∷ []) parts.0 parts.1.1)

with-room : (n : ℕ) (frame room : List ℕ) → length (widths (printed n) (type_in (printed n) frame)) ≤ length room
    → AllSaid (frame_said n frame) → AllSaid (reading_said n frame room)
with-room n frame room enough all =
    let parts = part-said (whole (printed n) frame) (summed (printed n) frame ∷ []) all.1 in (
      all.0,
      join-said (whole (printed n) frame) (roomy (printed n) frame room ∷ summed (printed n) frame ∷ []) parts.0 (enough, parts.1),
    )

accepted-exactly : {n : ℕ} {frame room frame' room' : List ℕ} {r : Reading} → Read n frame room r frame' room'
    → length (widths (printed n) (type_in (printed n) frame)) ≤ length room
    → (r.refusal ≡ 0 → AllSaid (frame_said n frame)) × (AllSaid (frame_said n frame) → r.refusal ≡ 0)
accepted-exactly {n = n} {frame = frame} {room = room} {r = r} c enough =
    let said = reading_said n frame room in (
      λ accepted. without-room n frame room (all_said said tt (subst (λ m. Answered m said) accepted (read_number c))),
      λ all. answered-once said r.refusal 0 (read_number c) (all-answered said (with-room n frame room enough all)),
    )

-- an accepted frame
module _ {n : ℕ} {frame room frame' room' : List ℕ} {r : Reading} (c : Read n frame room r frame' room') (accepted : r.refusal ≡ 0) where
  abbrev s : Satellite
  s = (read_named c accepted).satellite

  abbrev named : known n ≡ Some s
  named = (read_named c accepted).is_known

  abbrev as-printed : printed_of register_of s ≡ printed n
  as-printed = (read_named c accepted).as-printed

  abbrev answer : reading_by register_of (Some s) frame room ≡ record { refusal = 0; ty = r.ty; count = r.count }
  answer = read_answer c (read_named c accepted) accepted

  abbrev left : room' ≡ room_after_by register_of (Some s) frame room
  left = read_left c (read_named c accepted)

  its-values : (r.ty ≡ type_in (printed n) frame)
      × (Fields (widths (printed n) r.ty) (body (printed n) frame) r.count room'
      × ((length room' ≡ length room) × (drop r.count room' ≡ drop r.count room)))
  its-values =
      let values = two.accepted-values register_of s frame room r.ty r.count answer in
      let typed = sym (two.accepted-published register_of s frame room r.ty r.count answer).type-right in
      subst (λ p. (r.ty ≡ type_in p frame) × (Fields (widths p r.ty) (body p frame) r.count room'
      × ((length room' ≡ length room) × (drop r.count room' ≡ drop r.count room)))) as-printed (
        typed,
        (
          (values.0, λ i inside. ap (λ (l : List ℕ). get_or l i 0) left ∙ values.1.0 i inside),
          (ap length left ∙ values.1.1.0, ap (drop r.count) left ∙ values.1.1.1),
        ),
      )

  written-again : {output values' output' : List ℕ} {w : Writing}
      → Write n r.ty (take r.count room') output w values' output' → length frame ≤ length output
      → (w ≡ record { refusal = 0; answer = length frame }) × (output' ≡ frame ++ drop (length frame) output)
  written-again {output = output} d fills =
      let again = two.accepted-rewritten register_of s frame room r.ty r.count answer (read-gives c).1.1.1 output fills in (
        (write-gives d).0 ∙ (λ i. writing (named i) r.ty (take r.count (left i)) output) ∙ again.0,
        (write-gives d).1.0 ∙ (λ i. output_after_by register_of (named i) r.ty (take r.count (left i)) output) ∙ again.1,
      )

-- a written frame
module _ {n t : ℕ} {values output values' output' : List ℕ} {w : Writing} (c : Write n t values output w values' output')
    (accepted : w.refusal ≡ 0) where
  other : w.refusal ≢ 1
  other one = omega (arith, accepted, one)

  abbrev sender : Satellite
  sender = (write-named c other).satellite

  wrote : writing (Some sender) t values output ≡ record { refusal = 0; answer = w.answer }
  wrote = sym (write-answer c other) ∙ (λ i. record { refusal = accepted i; answer = w.answer })

  abbrev sent : output' ≡ output_after_by register_of (Some sender) t values output
  sent = write-left c other

  abbrev frame : List ℕ
  frame = take w.answer output'

  -- read with a room for its values
  reread : (room : List ℕ) → length values ≤ length room
      → (reading_by register_of (known n) frame room ≡ record { refusal = 0; ty = t; count = length values })
      × (room_after_by register_of (known n) frame room ≡ values ++ drop (length values) room)
  reread room enough =
      let again = two.written-reread register_of sender t w.answer values output wrote room enough in
      let named = (write-named c other).is_known in (
        (λ i. reading_by register_of (named i) (take w.answer (sent i)) room) ∙ again.0,
        (λ i. room_after_by register_of (named i) (take w.answer (sent i)) room) ∙ again.1,
      )

  written : (w.answer ≡ type_byte_at (printed n) + size (printed n) t)
      × (AllSaid (frame_said n frame)
      × ((length output' ≡ length output) × (drop w.answer output' ≡ drop w.answer output)))
  written =
      let made = two.written register_of sender t w.answer values output wrote in
      let number = subst (λ (a : Reading). Answered a.refusal (reading_said n frame values)) (reread values (omega arith)).0
      (reading-answered n frame values) in (
        subst (λ p. w.answer ≡ type_byte_at p + size p t) (write-named c other).as-printed made.0,
        (
          without-room n frame values (all_said (reading_said n frame values) tt number),
          (ap length sent ∙ made.1.1.0, ap (drop w.answer) sent ∙ made.1.1.1),
        ),
      )

  read_back : {room frame' room' : List ℕ} {r : Reading} → Read n frame room r frame' room' → length values ≤ length room
      → (r ≡ record { refusal = 0; ty = t; count = length values }) × (room' ≡ values ++ drop (length values) room)
  read_back {room = room} d enough =
      let again = reread room enough in ((read-gives d).0 ∙ again.0, (read-gives d).1.0 ∙ again.1)

pub demand-two : DemandTwo
demand-two =
    record {
      accepted-exactly = λ c enough. accepted-exactly c enough;
      its-values = λ c e. its-values c e;
      written-again = λ c e d fills. written-again c e d fills;
      written = λ c e. written c e;
      read_back = λ c e d enough. read_back c e d enough;
    }
