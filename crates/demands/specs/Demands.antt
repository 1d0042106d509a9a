-- The desk's three demands, in quotes, as statements about the calls `reading::read`, `writing::write` and `editing::edit` themselves, by
-- the text of their contracts, and of the calls from C. DemandOne.antt, DemandTwo.antt, DemandThree.antt and FromC.antt of proofs/ prove them.
--
-- The calls name a satellite by its number n, and `printed n` is what the papers print of it. Paper.antt of the crate `frames` has the parts of a
-- frame and what each test says; `Answered` and `AllSaid` are in Tests.antt of `refusals`, `bits`, `bits_of` and `field` in Bits.antt of
-- `bits`, `width_at` and `start_at` in Layouts.antt of `layouts`, `from` in Scrambler.antt of `scrambler`.
--
-- A list is what a lent slice holds; ' marks what a call leaves in it, and '' what a second call leaves. `get_or l i 0` is place i of l, or 0
-- past its end.
use Rattle.std.specs.Prelude.{ℕ, ◌+◌, ◌*◌, ◌^◌, ◌≤◌, ◌<◌, ◌≡◌, ◌≢◌, List, [], ◌∷◌, ◌++◌, length, get_or, take, drop, set}
use Rattle.bits.specs.Bits.{◌⊞◌, bits, bits_of, field}
use Rattle.scrambler.specs.Scrambler.{from}
use Rattle.satellites.specs.Paper.{paper}
use Rattle.layouts.specs.Layouts.{table, carried_by, width_at, start_at}
use Rattle.refusals.specs.Tests.{Said, says, Answered, AllSaid}
use Rattle.frames.specs.Answers.{Reading, Writing, read_in_numbers, written_in_numbers}
use Rattle.frames.specs.Paper.{Printed, widths, size, type_byte_at, type_in, body, whole, roomy, summed, wanted, fielded}
use Rattle.reading.proofs.read.Reads as read
use Rattle.writing.proofs.write.Reads as write
use Rattle.editing.proofs.edit.Reads as edit
use Rattle.tolimbar.specs.declared.Reading as in_c
use Rattle.tolimbar.specs.declared.Writing as written_in_c
use Rattle.tolimbar.proofs.tolimbar_read.Reads as tolimbar-read
use Rattle.tolimbar.proofs.tolimbar_write.Reads as tolimbar-write
use Rattle.tolimbar.proofs.tolimbar_edit.Reads as tolimbar-edit

-- ---- what 01 and 02 print, by the satellite's number

-- its constants, as Paper.antt of `satellites` has them; "x^17 + x^12 + 1", started with "a 1, then sixteen 0s"; and its lines of the table,
-- which proofs/Paper.antt of `layouts` compares with a second typing
abbrev pub printed : ℕ → Printed
printed n =
    record {
      address = (paper n).address;
      training = (paper n).training;
      size_byte = (paper n).size_byte;
      register = from 12 17 0x10000;
      entries = carried_by n table;
    }

-- test 1 fails for a "satellite number above 6"
abbrev pub named : ℕ → Said
named n = says 1 (n ≤ 6)

-- "Reading (satellite, frame, room of 32-bit numbers) tests 1 to 9 in that order, 6 for HADES-SA only"
abbrev pub reading_said : ℕ → List ℕ → List ℕ → List Said
reading_said n frame room = named n ∷ (whole (printed n) frame ++ (roomy (printed n) frame room ∷ summed (printed n) frame ∷ []))

-- "Writing (satellite, type, values, output) tests 1, 5, 10, 11, 12"
abbrev pub writing_said : ℕ → ℕ → List ℕ → List ℕ → List Said
writing_said n t values output = named n ∷ wanted (printed n) t values output

-- "Editing (satellite, frame, field, value) tests 1 to 7, 9, 13, 11"
abbrev pub editing_said : ℕ → List ℕ → ℕ → ℕ → List Said
editing_said n frame k v = named n ∷ (whole (printed n) frame ++ (summed (printed n) frame ∷ fielded (printed n) frame k v))

-- 1 to 7 and 9, whatever room the values of a frame are given: "preamble, address, type, size byte where there is one, length and checksum
-- are those of the published .. tables". 2 follows from 5 and 7
abbrev pub frame_said : ℕ → List ℕ → List Said
frame_said n frame = named n ∷ (whole (printed n) frame ++ (summed (printed n) frame ∷ []))

-- ---- the calls

-- Called for satellite n with this frame and this room, `read` answers x, r in 01's numbers, and leaves frame' and room'. `Post` is the
-- contract itself: it speaks of the parameters a when the call begins, of the answer, and of the parameters s when the call ends. `a.0`,
-- `a.1.0` and `a.1.1.0` are the first, second and third of them, κs the lifetimes of lent slices, and `now` gives what a slice holds
abbrev pub Read : ℕ → List ℕ → List ℕ → Reading → List ℕ → List ℕ → Type 0
Read n frame room r frame' room' =
    (κs : _) × ((a : _) × ((s : _) × ((x : _) × ((read_in_numbers x ≡ r) × (read.Post κs a x s
    × ((a.0 ≡ n) × ((a.1.0.now ≡ frame) × ((a.1.1.0.now ≡ room)
    × ((s.1.0.now ≡ frame') × (s.1.1.0.now ≡ room'))))))))))

-- called for satellite n, type t, these values and this output, `write` answers w in numbers and leaves values' and output'
abbrev pub Write : ℕ → ℕ → List ℕ → List ℕ → Writing → List ℕ → List ℕ → Type 0
Write n t values output w values' output' =
    (κs : _) × ((a : _) × ((s : _) × ((x : _) × ((written_in_numbers x ≡ w) × (write.Post κs a x s
    × ((a.0 ≡ n) × ((a.1.0 ≡ t) × ((a.1.1.0.now ≡ values) × ((a.1.1.1.0.now ≡ output)
    × ((s.1.1.0.now ≡ values') × (s.1.1.1.0.now ≡ output')))))))))))

-- called for satellite n, this frame, field k and value v, `edit` answers e in numbers and leaves frame'
abbrev pub Edit : ℕ → List ℕ → ℕ → ℕ → Writing → List ℕ → Type 0
Edit n frame k v e frame' =
    (κs : _) × ((a : _) × ((s : _) × ((x : _) × ((written_in_numbers x ≡ e) × (edit.Post κs a x s
    × ((a.0 ≡ n) × ((a.1.0.now ≡ frame) × ((a.1.1.0 ≡ k) × ((a.1.1.1.0 ≡ v) × (s.1.0.now ≡ frame'))))))))))

-- ---- 1.

-- field number k is the lowest whose value does not fit
abbrev pub Lowest : List ℕ → List ℕ → ℕ → Type 0
Lowest ws values k =
    (k < length ws) × ((2 ^ width_at ws k ≤ get_or values k 0) × ((i : ℕ) → i < k → get_or values i 0 < 2 ^ width_at ws i))

-- "Every call that reads, writes or edits a frame takes the satellite by name, keeps nothing from the call before, and answers for all
-- input. What it cannot accept it refuses with the number in the scope document, and a refused call leaves every buffer handed to it
-- untouched."
--
-- "by name": each call takes the number by which 01 names the satellite, and every clause speaks of that one alone
pub record DemandOne : Type 0 where
  -- "for all input": a call asks nothing of its caller. That it ends and does not fail is part of what the check proves of each function
  pub read-for-all : (κs a : _) → read.Pre κs a
  pub write-for-all : (κs a : _) → write.Pre κs a
  pub edit-for-all : (κs a : _) → edit.Pre κs a
  -- "keeps nothing from the call before": what a call is given settles all that it answers and leaves
  pub read-alone : {n : ℕ} {frame room frame' room' frame'' room'' : List ℕ} {r q : Reading}
      → Read n frame room r frame' room' → Read n frame room q frame'' room'' → (r ≡ q) × ((frame' ≡ frame'') × (room' ≡ room''))
  pub write_alone : {n t : ℕ} {values output values' output' values'' output'' : List ℕ} {w q : Writing}
      → Write n t values output w values' output' → Write n t values output q values'' output''
      → (w ≡ q) × ((values' ≡ values'') × (output' ≡ output''))
  pub edit-alone : {n k v : ℕ} {frame frame' frame'' : List ℕ} {e q : Writing}
      → Edit n frame k v e frame' → Edit n frame k v q frame'' → (e ≡ q) × (frame' ≡ frame'')
  -- "with the number in the scope document": that of the first of its tests that fails, and 0 where none does
  pub read_number : {n : ℕ} {frame room frame' room' : List ℕ} {r : Reading}
      → Read n frame room r frame' room' → Answered r.refusal (reading_said n frame room)
  pub write-number : {n t : ℕ} {values output values' output' : List ℕ} {w : Writing}
      → Write n t values output w values' output' → Answered w.refusal (writing_said n t values output)
  pub edit-number : {n k v : ℕ} {frame frame' : List ℕ} {e : Writing}
      → Edit n frame k v e frame' → Answered e.refusal (editing_said n frame k v)
  -- what is lent to be read stays, accepted or refused
  pub read-lent : {n : ℕ} {frame room frame' room' : List ℕ} {r : Reading} → Read n frame room r frame' room' → frame' ≡ frame
  pub write-lent : {n t : ℕ} {values output values' output' : List ℕ} {w : Writing}
      → Write n t values output w values' output' → values' ≡ values
  -- "leaves every buffer handed to it untouched"; "A refusal answers type 0, count 0"
  pub read-refused : {n : ℕ} {frame room frame' room' : List ℕ} {r : Reading}
      → Read n frame room r frame' room' → r.refusal ≢ 0
      → ((frame' ≡ frame) × (room' ≡ room)) × ((r.ty ≡ 0) × (r.count ≡ 0))
  -- "A refusal answers 0, except 11, which answers the lowest field number that does not fit"
  pub write-refused : {n t : ℕ} {values output values' output' : List ℕ} {w : Writing}
      → Write n t values output w values' output' → w.refusal ≢ 0
      → ((values' ≡ values) × (output' ≡ output)) × (w.refusal ≢ 11 → w.answer ≡ 0)
  pub write-lowest : {n t : ℕ} {values output values' output' : List ℕ} {w : Writing}
      → Write n t values output w values' output' → w.refusal ≡ 11 → Lowest (widths (printed n) t) values w.answer
  -- "a refusal answers 0, and 11 the field's number"
  pub edit-refused : {n k v : ℕ} {frame frame' : List ℕ} {e : Writing}
      → Edit n frame k v e frame' → e.refusal ≢ 0
      → (frame' ≡ frame) × ((e.refusal ≢ 11 → e.answer ≡ 0) × (e.refusal ≡ 11 → e.answer ≡ k))

-- ---- 2.

-- the first places of a room hold all fields of a body: field i is the number in its bits
abbrev pub Fields : List ℕ → List ℕ → ℕ → List ℕ → Type 0
Fields ws bytes count room =
    (count ≡ length ws) × ((i : ℕ) → i < count → get_or room i 0 ≡ field (start_at ws i) (width_at ws i) bytes)

-- "Given room for its values, a frame is accepted exactly when preamble, address, type, size byte where there is one, length and checksum
-- are those of the published AMSAT-EA tables as condensed in the scope document. Its values are the table's fields. Writing an accepted
-- frame's values gives that frame again, and reading a written frame gives the values back."
pub record DemandTwo : Type 0 where
  pub accepted-exactly : {n : ℕ} {frame room frame' room' : List ℕ} {r : Reading}
      → Read n frame room r frame' room' → length (widths (printed n) (type_in (printed n) frame)) ≤ length room
      → (r.refusal ≡ 0 → AllSaid (frame_said n frame)) × (AllSaid (frame_said n frame) → r.refusal ≡ 0)
  -- the fields of the unscrambled body; places of the room after the values stay
  pub its-values : {n : ℕ} {frame room frame' room' : List ℕ} {r : Reading}
      → Read n frame room r frame' room' → r.refusal ≡ 0
      → (r.ty ≡ type_in (printed n) frame)
      × (Fields (widths (printed n) r.ty) (body (printed n) frame) r.count room'
      × ((length room' ≡ length room) × (drop r.count room' ≡ drop r.count room)))
  pub written-again : {n : ℕ} {frame room frame' room' output values' output' : List ℕ} {r : Reading} {w : Writing}
      → Read n frame room r frame' room' → r.refusal ≡ 0
      → Write n r.ty (take r.count room') output w values' output' → length frame ≤ length output
      → (w ≡ record { refusal = 0; answer = length frame }) × (output' ≡ frame ++ drop (length frame) output)
  -- what was written is a frame of that length, which is accepted; bytes of the output after it stay
  pub written : {n t : ℕ} {values output values' output' : List ℕ} {w : Writing}
      → Write n t values output w values' output' → w.refusal ≡ 0
      → (w.answer ≡ type_byte_at (printed n) + size (printed n) t)
      × (AllSaid (frame_said n (take w.answer output'))
      × ((length output' ≡ length output) × (drop w.answer output' ≡ drop w.answer output)))
  pub read_back : {n t : ℕ} {values output values' output' room frame' room' : List ℕ} {w : Writing} {r : Reading}
      → Write n t values output w values' output' → w.refusal ≡ 0
      → Read n (take w.answer output') room r frame' room' → length values ≤ length room
      → (r ≡ record { refusal = 0; ty = t; count = length values }) × (room' ≡ values ++ drop (length values) room)

-- ---- 3.

-- "Take an accepted frame, one of its fields and a new value that fits. The edited frame is the one written afresh with that field alone
-- replaced. All transmitted bits ahead of the field stay. If two accepted frames of one satellite and type have the same field edited so
-- that old and new value differ in the same bit places, the same transmitted bits flip in both, however the other fields differ."
pub record DemandThree : Type 0 where
  -- the edit is accepted, "answers the length", and keeps it
  pub edited : {n k v : ℕ} {frame room frame' room' edited' : List ℕ} {r : Reading} {e : Writing}
      → Read n frame room r frame' room' → r.refusal ≡ 0 → k < r.count → v < 2 ^ width_at (widths (printed n) r.ty) k
      → Edit n frame k v e edited'
      → (e ≡ record { refusal = 0; answer = length frame }) × (length edited' ≡ length frame)
  -- and so does every edit that is accepted, whether the frame was read or not
  pub edited-length : {n k v : ℕ} {frame edited' : List ℕ} {e : Writing} → Edit n frame k v e edited' → e.refusal ≡ 0
      → (e.answer ≡ length frame) × (length edited' ≡ length frame)
  pub edited-afresh : {n k v : ℕ} {frame room frame' room' edited' output values' output' : List ℕ} {r : Reading} {e w : Writing}
      → Read n frame room r frame' room' → r.refusal ≡ 0 → k < r.count → v < 2 ^ width_at (widths (printed n) r.ty) k
      → Edit n frame k v e edited'
      → Write n r.ty (set (take r.count room') k v) output w values' output' → length frame ≤ length output
      → (w ≡ record { refusal = 0; answer = length frame }) × (output' ≡ edited' ++ drop (length frame) output)
  -- the bits up to the body, and those of the body up to the field
  pub ahead-stays : {n k v : ℕ} {frame room frame' room' edited' : List ℕ} {r : Reading} {e : Writing}
      → Read n frame room r frame' room' → r.refusal ≡ 0 → k < r.count → v < 2 ^ width_at (widths (printed n) r.ty) k
      → Edit n frame k v e edited'
      → let ahead = 8 * (type_byte_at (printed n) + 1) + start_at (widths (printed n) r.ty) k in
      take ahead (bits_of edited') ≡ take ahead (bits_of frame)
  -- the two frames are g and h; g is read into `room` and its field edited to v, h into `hall` and its field edited to u. ◌⊞◌ is xor, place
  -- by place: it has a 1 where a bit differs, so where a bit flips
  pub same-bits-flip : {n k v u : ℕ} {g room g' room' edited' h hall h' hall' changed' : List ℕ} {r q : Reading} {e f : Writing}
      → Read n g room r g' room' → r.refusal ≡ 0 → Read n h hall q h' hall' → q.refusal ≡ 0 → r.ty ≡ q.ty → k < r.count
      → let w = width_at (widths (printed n) r.ty) k in
      v < 2 ^ w → u < 2 ^ w → bits w (get_or room' k 0) ⊞ bits w v ≡ bits w (get_or hall' k 0) ⊞ bits w u
      → Edit n g k v e edited' → Edit n h k u f changed'
      → bits_of g ⊞ bits_of edited' ≡ bits_of h ⊞ bits_of changed'
  -- "Editing a field to the value it has leaves all bytes as they are" (01)
  pub edited-same : {n k : ℕ} {frame room frame' room' edited' : List ℕ} {r : Reading} {e : Writing}
      → Read n frame room r frame' room' → r.refusal ≡ 0 → k < r.count → Edit n frame k (get_or room' k 0) e edited'
      → (e ≡ record { refusal = 0; answer = length frame }) × (edited' ≡ frame)

-- ---- from C

-- "Every call" is one from C too: called with the same arguments, `tolimbar_read`, `tolimbar_write` and `tolimbar_edit` answer and leave these
abbrev pub ReadFromC : ℕ → List ℕ → List ℕ → in_c.Reading → List ℕ → List ℕ → Type 0
ReadFromC n frame room r frame' room' =
    (κs : _) × ((a : _) × ((s : _) × (tolimbar-read.Post κs a r s
    × ((a.0 ≡ n) × ((a.1.0.now ≡ frame) × ((a.1.1.0.now ≡ room)
    × ((s.1.0.now ≡ frame') × (s.1.1.0.now ≡ room'))))))))

abbrev pub WriteFromC : ℕ → ℕ → List ℕ → List ℕ → written_in_c.Writing → List ℕ → List ℕ → Type 0
WriteFromC n t values output w values' output' =
    (κs : _) × ((a : _) × ((s : _) × (tolimbar-write.Post κs a w s
    × ((a.0 ≡ n) × ((a.1.0 ≡ t) × ((a.1.1.0.now ≡ values) × ((a.1.1.1.0.now ≡ output)
    × ((s.1.1.0.now ≡ values') × (s.1.1.1.0.now ≡ output')))))))))

abbrev pub EditFromC : ℕ → List ℕ → ℕ → ℕ → written_in_c.Writing → List ℕ → Type 0
EditFromC n frame k v e frame' =
    (κs : _) × ((a : _) × ((s : _) × (tolimbar-edit.Post κs a e s
    × ((a.0 ≡ n) × ((a.1.0.now ≡ frame) × ((a.1.1.0 ≡ k) × ((a.1.1.1.0 ≡ v) × (s.1.0.now ≡ frame'))))))))

-- a call from C is one of the calls above, so that each clause of the three demands holds of it too, also where calls of both kinds meet
pub record FromC : Type 0 where
  -- "for all input": a call asks nothing. What C lends is what include/tolimbar.h says of it
  pub read-from-c-for-all : (κs a : _) → tolimbar-read.Pre κs a
  pub write-from-c-for-all : (κs a : _) → tolimbar-write.Pre κs a
  pub edit-from-c-for-all : (κs a : _) → tolimbar-edit.Pre κs a
  -- the numbers that it answers, in a struct of C's, are those of a call above that was given the same and left the same
  pub read-from-c : {n : ℕ} {frame room frame' room' : List ℕ} {c : in_c.Reading} → ReadFromC n frame room c frame' room'
      → Read n frame room (record { refusal = c.refusal; ty = c.ty; count = c.count }) frame' room'
  pub write-from-c : {n t : ℕ} {values output values' output' : List ℕ} {c : written_in_c.Writing}
      → WriteFromC n t values output c values' output'
      → Write n t values output (record { refusal = c.refusal; answer = c.answer }) values' output'
  pub edit-from-c : {n k v : ℕ} {frame frame' : List ℕ} {c : written_in_c.Writing} → EditFromC n frame k v c frame'
      → Edit n frame k v (record { refusal = c.refusal; answer = c.answer }) frame'
