-- Demand 3, on editing, as theorems. The head of DemandOne.antt explains the words. A frame is accepted where reading it answers 0, and
-- its values are what reading leaves in the room's first places. `bits_of frame` are the sent bits of the whole frame, training first
-- and checksum last, and _⊞_ is xor, place by place. All of this holds for every register `r s` that the scrambler starts from, whatever
-- its two distances.
-- Assumes nothing.
use Prim.Native.Nat.{ℕ, ◌+◌, ◌*◌, ◌^◌, ◌≤◌, ◌<◌}
use native.Mathlib.Omega.{arith}
use mathlib.Core.Path.{◌≡◌, sym, ◌∙◌, ap, ap₂, subst}
use mathlib.Core.Bool.{Bool, true}
use mathlib.Core.List.{List, ◌++◌}
use lib.ListN.{length, get_or, take, drop, set, length-set}
use lib.Seq.{set-get_or, get_or-take, take_at}
use borrow.Author.Tests.{ltb-true}
use Rattle.bits.specs.Bits.{◌⊞◌, bits, bits_of, Bytes}
use Rattle.frames.specs.Registers.{Registers}
use Rattle.satellites.specs.declared.Satellite.{Satellite}
use Rattle.std.specs.Prelude.{Some}
use Rattle.satellites.specs.Satellites.{type_byte_at}
use Rattle.layouts.specs.Layouts.{carries, entry_of, width_at, start_at}
use Rattle.bodies.specs.Bodies.{told}
use Rattle.bodies.proofs.Laws.{fits-exactly}
use Rattle.bodies.proofs.Changes.{fitting-set}
use Rattle.frames.specs.Frames.{frame_of, from_type_byte, clear_body, type_of, values_of}
use Rattle.frames.specs.Answers.{Reading}
use Rattle.refusals.specs.Tests.{refusal, holding}
use Rattle.frames.specs.Reading.{front_tests, whole_tests, frame_tests, reading_by, room_after_by}
use Rattle.frames.specs.Writing.{writing, output_after_by}
use Rattle.frames.specs.Editing.{editing_tests, editing_by, frame_after_by}
use Rattle.frames.proofs.Answers as answers
use Rattle.frames.proofs.Exact as exact
use Rattle.frames.proofs.Edits as edits
use Rattle.refusals.proofs.Tests.{holds-numbered}
use Rattle.frames.proofs.Acceptance.{whole-right}
use Rattle.frames.proofs.Readings as readings
use Rattle.frames.proofs.Readings.{read_as}
use Rattle.frames.proofs.Writings.{wrote_as}
use Rattle.frames.proofs.Fronts as fronts
use Rattle.frames.proofs.Wholes.{its-length}
use Rattle.frames.proofs.Flips.{edited-flips, edited-ahead}
use Rattle.frames.proofs.DemandTwo.{written-reread}

-- the bit places in which two numbers of w bits differ, and the sent bits that flip from a frame to another
abbrev pub differ : ℕ → ℕ → ℕ → List Bool
differ w old new = bits w old ⊞ bits w new

abbrev pub flips : List ℕ → List ℕ → List Bool
flips frame edited = bits_of frame ⊞ bits_of edited

-- "Take an accepted frame, one of its fields"
module _ (r : Registers) (s : Satellite) (t n : ℕ) (frame room : List ℕ)
    (answer : reading_by r (Some s) frame room ≡ record { refusal = 0; ty = t; count = n }) (k : ℕ) (inside : k < n) where
  abbrev ws : List ℕ
  ws = (entry_of s t).widths

  -- its values, and the one of that field
  abbrev values : List ℕ
  values = take n (room_after_by r (Some s) frame room)

  abbrev old : ℕ
  old = get_or (room_after_by r (Some s) frame room) k 0

  typed : type_of s frame ≡ t
  typed = answers.its-type r s frame room t n answer

  whole : refusal (whole_tests s frame) ≡ 0
  whole = answers.was-whole r s frame room t n answer

  there : k < length ws
  there = omega (arith, answers.its-count r s frame room t n answer, inside)

  abbrev clear : List Bool
  clear = bits_of (clear_body (r s) (from_type_byte s frame))

  read : values ≡ told ws clear
  read = exact.values-read r s frame room t n answer

  as_many : length values ≡ length ws
  as_many = exact.as_many r s frame room t n answer

  old-at : get_or values k 0 ≡ old
  old-at = get_or-take n (room_after_by r (Some s) frame room) k 0 inside

  carried : carries s t ≡ true
  carried = exact.its-carried r s frame room t n answer

  bits-of-values : bits_of (frame_of (r s) s t values) ≡ bits_of frame
  bits-of-values = exact.bits-of-values r s frame room t n answer

  -- "and a new value that fits"
  module _ (v : ℕ) (fits : v < 2 ^ width_at ws k) where
    none-fails : refusal (editing_tests r (Some s) frame k v) ≡ 0
    none-fails =
        edits.none-fails r s frame k v whole (answers.was-right r s frame room t n answer)
        (subst (λ u. k < length (entry_of s u).widths) (sym typed) there)
        (subst (λ u. v < 2 ^ width_at (entry_of s u).widths k) (sym typed) fits)

    edited-is : frame_after_by r (Some s) frame k v ≡ frame_of (r s) s t (set values k v)
    unfolding values_of
    edited-is =
        sym (edits.accepted-with r s frame k v none-fails).1
        ∙ ap (λ (u : ℕ). frame_of (r s) s u (set (told (entry_of s u).widths clear) k v)) typed
        ∙ ap (λ (l : List ℕ). frame_of (r s) s t (set l k v)) (sym read)

    -- it is accepted: "It answers the length"
    pub edit-accepted : editing_by r (Some s) frame k v ≡ record { refusal = 0; answer = length frame }
    edit-accepted =
        sym (edits.accepted-with r s frame k v none-fails).0 ∙ ap wrote_as (sym (fronts.is_whole s frame whole))

    -- "The edited frame is the one written afresh with that field alone replaced", into any output that it fits
    pub edited-afresh : (output : List ℕ) → length frame ≤ length output
        → (writing (Some s) t (set values k v) output ≡ record { refusal = 0; answer = length frame })
        × (output_after_by r (Some s) t (set values k v) output ≡ frame_after_by r (Some s) frame k v ++ drop (length frame) output)
    edited-afresh output enough =
        let new = set values k v in
        let fit = fitting-set ws values k v (exact.all_fit r s frame room t n answer) (omega (arith, as_many, there)) fits in
        let made = exact.written-alike r s frame room t n answer new output (length-set values k v ∙ as_many) fit enough in
        (made.0, made.1 ∙ ap (λ (l : List ℕ). l ++ drop (length frame) output) (sym edited-is))

    -- "in the same lent buffer, which it fills"
    pub edited-length : length (frame_after_by r (Some s) frame k v) ≡ length frame
    edited-length = ap length edited-is ∙ its-length (r s) s t carried (set values k v) ∙ sym (exact.its-length r s frame room t n answer)

    -- read again, it has that value in that field and the others as they were
    pub edited-reread : (room' : List ℕ) → n ≤ length room'
        → (reading_by r (Some s) (frame_after_by r (Some s) frame k v) room' ≡ record { refusal = 0; ty = t; count = n })
        × (room_after_by r (Some s) (frame_after_by r (Some s) frame k v) room' ≡ set values k v ++ drop n room')
    edited-reread room' enough =
        let new = set values k v in
        let made = edited-afresh frame (omega arith) in
        let edited = frame_after_by r (Some s) frame k v in
        let front = ap (take (length frame)) made.1 ∙ take_at edited (drop (length frame) frame) (length frame) edited-length in
        let count : length new ≡ n = length-set values k v ∙ as_many ∙ answers.its-count r s frame room t n answer in
        let again = written-reread r s t (length frame) new frame made.0 room' (omega (arith, count, enough)) in (
          ap (λ (f : List ℕ). reading_by r (Some s) f room') (sym front) ∙ again.0 ∙ ap (read_as t) count,
          ap (λ (f : List ℕ). room_after_by r (Some s) f room') (sym front) ∙ again.1 ∙ ap (λ (m : ℕ). new ++ drop m room') count,
        )

    -- "All sent bits ahead of the field stay": all ahead of the body, and those of the body up to the field
    pub ahead-stays : let ahead = 8 * (type_byte_at s + 1) + start_at ws k in
        take ahead (bits_of (frame_after_by r (Some s) frame k v)) ≡ take ahead (bits_of frame)
    ahead-stays =
        let ahead = 8 * (type_byte_at s + 1) + start_at ws k in
        ap (λ (l : List ℕ). take ahead (bits_of l)) edited-is
        ∙ edited-ahead (r s) s t carried values k v there
        ∙ ap (take ahead) bits-of-values

  old-fits : old < 2 ^ width_at ws k
  old-fits = subst (λ m. m < 2 ^ width_at ws k) old-at (fits-exactly ws values (exact.all_fit r s frame room t n answer) k there)

  -- "Editing a field to the value it has leaves all bytes as they are", and is accepted. A lent frame holds bytes and nothing else
  pub edited-same : Bytes frame
      → (editing_by r (Some s) frame k old ≡ record { refusal = 0; answer = length frame }) × (frame_after_by r (Some s) frame k old ≡ frame)
  edited-same bytes = (
    edit-accepted old old-fits,
    edited-is old old-fits ∙ ap (frame_of (r s) s t) (ap (set values k) (sym old-at) ∙ set-get_or values k 0)
        ∙ exact.frame-of-values r s frame room t n answer bytes,
  )

-- "If two accepted frames of one satellite and type have the same field edited so that old and new value differ in the same
-- bit places, the same sent bits flip in both, however the other fields differ", those of the checksum among them
pub same-bits-flip : (r : Registers) (s : Satellite) (t k n n' : ℕ) (frame frame' room room' : List ℕ)
    → reading_by r (Some s) frame room ≡ record { refusal = 0; ty = t; count = n }
    → reading_by r (Some s) frame' room' ≡ record { refusal = 0; ty = t; count = n' }
    → k < n
    → let w = width_at (entry_of s t).widths k in
    (v v' : ℕ) → v < 2 ^ w → v' < 2 ^ w
    → differ w (get_or (room_after_by r (Some s) frame room) k 0) v ≡ differ w (get_or (room_after_by r (Some s) frame' room') k 0) v'
    → flips frame (frame_after_by r (Some s) frame k v) ≡ flips frame' (frame_after_by r (Some s) frame' k v')
same-bits-flip r s t k n n' frame frame' room room' answer answer' inside v v' fits fits' same =
    let counts = answers.its-count r s frame room t n answer in
    let inside' : k < n' = omega (arith, counts, answers.its-count r s frame' room' t n' answer', inside) in
    let w = width_at (entry_of s t).widths k in
    ap₂ ◌⊞◌ (sym (bits-of-values r s t n frame room answer k inside)) (ap bits_of (edited-is r s t n frame room answer k inside v fits))
    ∙ edited-flips (r s) s t (carried r s t n frame room answer k inside)
    (values r s t n frame room answer k inside) (values r s t n' frame' room' answer' k inside') k v v'
    (as_many r s t n frame room answer k inside) (as_many r s t n' frame' room' answer' k inside')
    (there r s t n frame room answer k inside)
    (ap (λ (x : ℕ). differ w x v) (old-at r s t n frame room answer k inside)
    ∙ same
    ∙ ap (λ (x : ℕ). differ w x v') (sym (old-at r s t n' frame' room' answer' k inside')))
    ∙ sym
    (ap₂ ◌⊞◌ (sym (bits-of-values r s t n' frame' room' answer' k inside'))
    (ap bits_of (edited-is r s t n' frame' room' answer' k inside' v' fits')))

-- and editing accepts no other: what it accepts reading does, given room, and it is one of the frame's fields and a value that fits
pub accepted-only : (r : Registers) (s : Satellite) (frame : List ℕ) (k v : ℕ) → (editing_by r (Some s) frame k v).refusal ≡ 0
    → (room : List ℕ) → length (entry_of s (type_of s frame)).widths ≤ length room
    → let answer = reading_by r (Some s) frame room in
    (answer.refusal ≡ 0) × ((k < answer.count) × (v < 2 ^ width_at (entry_of s answer.ty).widths k))
unfolding editing_tests frame_tests whole_tests front_tests holding
accepted-only r s frame k v accepted room enough =
    let tests = editing_tests r (Some s) frame k v in
    let ws = (entry_of s (type_of s frame)).widths in
    let none = sym (answers.editing-number r (Some s) frame k v) ∙ accepted in
    let holds : (number : ℕ) → holding number tests ≡ true =
    holds-numbered tests (answers.editing-numbered r (Some s) frame k v) none in
    let its = readings.given-room r s frame room (whole-right (r s) s frame (fronts.was-whole s frame _ none) (holds 9)) enough in (
      ap (λ (a : Reading). a.refusal) its,
      (
        subst (λ a. k < a.count) (sym its) (ltb-true k (length ws) (holds 13)),
        subst (λ a. v < 2 ^ width_at (entry_of s a.ty).widths k) (sym its) (ltb-true v (2 ^ width_at ws k) (holds 11)),
      ),
    )
