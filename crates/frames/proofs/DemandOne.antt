-- Demand 1, on every call that reads, writes or edits a frame, as laws of the definitions that the contracts cite: `reading::read` answers
-- `reading` and leaves `room_after`, `writing::write` answers `writing` and leaves `output_after`, `editing::edit` answers `editing` and
-- leaves `frame_after`. The crate `demands` states the demands about the calls themselves.
--
-- The scrambler starts from the satellite's register: `reading` is `reading_by register_of`, `room_after` is `room_after_by register_of`, and so
-- on (Cited.antt). The laws speak of `reading_by r`, `room_after_by r` and so on for every r, which gives each satellite s a register `r s`.
--
-- The words: `printed_of r s` is what the definitions have of satellite s. specs/Paper.antt says by it what the parts of a frame are and what
-- each test says; `says`, `Mean` and `Answered`, for lists of tests, are in specs/Tests.antt of `refusals`.
-- Assumes nothing.
use Prim.Native.Nat.{ℕ, ◌+◌, ◌-◌, ◌^◌, ◌≤◌, ◌<◌}
use mathlib.Core.Path.{◌≡◌, refl, sym, subst}
use mathlib.Core.Logic.{◌≢◌}
use mathlib.Core.Bool.{Bool}
use mathlib.Core.List.{List, [], ◌∷◌, ◌++◌, append_assoc}
use lib.Dec.{eqb}
use lib.ListN.{length, get_or, take, drop}
use Rattle.checksum.specs.Checksum.{checksum}
use Rattle.satellites.specs.declared.Satellite.{Satellite}
use Rattle.std.specs.Prelude.{Option, Some, None}
use Rattle.satellites.specs.Satellites.{address_of, training_of, size_byte_of, type_byte_at}
use Rattle.layouts.specs.Layouts.{carries, entry_of, width_at}
use Rattle.refusals.specs.Tests.{Test, refusal, Iff, Said, says, Mean, Answered}
use Rattle.frames.specs.Registers.{Registers}
use Rattle.frames.specs.Paper.{printed_of, whole, roomy, summed, wanted, fielded}
use Rattle.frames.specs.Frames.{training, sync, from_type_byte, address_in, checksum_in, clear_body, clear, type_of, entry_in}
use Rattle.frames.specs.Reading.{checksum_test, front_tests, whole_tests, frame_tests, reading_tests, reading_by, room_after_by}
use Rattle.frames.specs.Editing.{editing_tests, editing_by, frame_after_by}
use Rattle.frames.specs.Writing.{writing_tests, writing, output_after_by}
use Rattle.refusals.proofs.Says.{below, at_most, equal, same_bytes, both, only-where, itself, always, answered}
use Rattle.frames.proofs.Answers as answers
use Rattle.frames.proofs.Says.{all_fit}

-- ---- "What it cannot accept it refuses with the number in the scope document"

-- what the tests of a call say, one after the other: `says` a number and the statement that the test is true of
its : (k : ℕ) {b : Bool} {statement rest : Type 0} → Iff b statement → rest → ((k ≡ k) × Iff b statement) × rest
its k iff more = ((refl, iff), more)

-- tests 2 to 7, of the frame as a whole
whole-mean : (r : Registers) (s : Satellite) (frame : List ℕ) (ts : List Test) (said : List Said) → Mean ts said
    → Mean (whole_tests s frame ++ ts) (whole (printed_of r s) frame ++ said)
unfolding whole_tests front_tests
whole-mean r s frame ts said rest =
    let size-sent = get_or frame (type_byte_at s - 1) 0 in
    let size = (entry_in s frame).size in
    let trained = same_bytes (take (training_of s) frame) (training s) in
    let synced = same_bytes (take 2 (drop (training_of s) frame)) sync in
    let seven = its 7 (equal (length frame) (type_byte_at s + size)) rest in
    let six = its 6 (only-where (size_byte_of s) (eqb size-sent size) (equal size-sent size)) seven in
    let five = its 5 (itself (carries s (type_of s frame))) six in
    let four = its 4 (equal (address_in (from_type_byte s frame)) (address_of s)) five in
    let three = its 3 (both trained synced) four in
    its 2 (below (type_byte_at s) (length frame)) three

-- test 9
checked : (r : Registers) (s : Satellite) (frame : List ℕ) (ts : List Test) (said : List Said) → Mean ts said
    → Mean (checksum_test (r s) s frame ∷ ts) (summed (printed_of r s) frame ∷ said)
unfolding clear_body
checked r s frame ts said rest =
    let part = from_type_byte s frame in its 9 (equal (checksum_in part) (checksum (clear (r s) part))) rest

-- tests 2 to 7 and 9, of the frame whatever room its values are given
frame-mean : (r : Registers) (s : Satellite) (frame : List ℕ) (ts : List Test) (said : List Said) → Mean ts said
    → Mean (frame_tests (r s) s frame ++ ts) (whole (printed_of r s) frame ++ (summed (printed_of r s) frame ∷ said))
unfolding frame_tests
frame-mean r s frame ts said rest =
    let nine = checksum_test (r s) s frame ∷ [] in
    let sum = summed (printed_of r s) frame in
    subst (λ tests. Mean tests (whole (printed_of r s) frame ++ (sum ∷ said))) (sym (append_assoc (whole_tests s frame) nine ts))
    (whole-mean r s frame (nine ++ ts) (sum ∷ said) (checked r s frame ts said rest))

-- what a call answers is the number of the first of its tests that fails, and 0 where none does
number_of : (ts : List Test) (said : List Said) {number : ℕ} → number ≡ refusal ts → Mean ts said → Answered number said
number_of ts said e mean = subst (λ n. Answered n said) (sym e) (answered ts said mean)

-- "Reading .. tests 1 to 9 in that order"
abbrev reading_said : Registers → Satellite → List ℕ → List ℕ → List Said
reading_said r s frame room =
    let p = printed_of r s in says 1 (Unit {0}) ∷ (whole p frame ++ (roomy p frame room ∷ summed p frame ∷ []))

reading-tests : (r : Registers) (s : Satellite) (frame room : List ℕ) → Mean (reading_tests r (Some s) frame room) (reading_said r s frame room)
unfolding reading_tests
reading-tests r s frame room =
    let nine = checked r s frame [] [] (tt {0}) in
    let eight = its 8 (at_most (length (entry_in s frame).widths) (length room)) nine in
    its 1 always (whole-mean r s frame _ _ eight)

pub reading-number : (r : Registers) (s : Satellite) (frame room : List ℕ)
    → Answered (reading_by r (Some s) frame room).refusal (reading_said r s frame room)
reading-number r s frame room =
    number_of (reading_tests r (Some s) frame room) (reading_said r s frame room) (answers.reading-number r (Some s) frame room)
    (reading-tests r s frame room)

-- "Writing .. tests 1, 5, 10, 11, 12"
abbrev writing_said : Registers → Satellite → ℕ → List ℕ → List ℕ → List Said
writing_said r s t values output = says 1 (Unit {0}) ∷ wanted (printed_of r s) t values output

writing-tests : (r : Registers) (s : Satellite) (t : ℕ) (values output : List ℕ)
    → Mean (writing_tests (Some s) t values output) (writing_said r s t values output)
unfolding writing_tests
writing-tests r s t values output =
    let ws = (entry_of s t).widths in
    let twelve = its 12 (at_most (type_byte_at s + (entry_of s t).size) (length output)) (tt {0}) in
    let eleven = its 11 (all_fit ws values) twelve in
    let ten = its 10 (equal (length values) (length ws)) eleven in
    its 1 always (its 5 (itself (carries s t)) ten)

pub writing-number : (r : Registers) (s : Satellite) (t : ℕ) (values output : List ℕ)
    → Answered (writing (Some s) t values output).refusal (writing_said r s t values output)
writing-number r s t values output =
    number_of (writing_tests (Some s) t values output) (writing_said r s t values output) (answers.writing-number (Some s) t values output)
    (writing-tests r s t values output)

-- "Editing .. tests 1 to 7, 9, 13, 11"
abbrev editing_said : Registers → Satellite → List ℕ → ℕ → ℕ → List Said
editing_said r s frame k v = let p = printed_of r s in says 1 (Unit {0}) ∷ (whole p frame ++ (summed p frame ∷ fielded p frame k v))

editing-tests : (r : Registers) (s : Satellite) (frame : List ℕ) (k v : ℕ) → Mean (editing_tests r (Some s) frame k v) (editing_said r s frame k v)
unfolding editing_tests
editing-tests r s frame k v =
    let ws = (entry_in s frame).widths in
    let eleven = its 11 (below v (2 ^ width_at ws k)) (tt {0}) in
    let thirteen = its 13 (below k (length ws)) eleven in
    its 1 always (frame-mean r s frame _ _ thirteen)

pub editing-number : (r : Registers) (s : Satellite) (frame : List ℕ) (k v : ℕ)
    → Answered (editing_by r (Some s) frame k v).refusal (editing_said r s frame k v)
editing-number r s frame k v =
    number_of (editing_tests r (Some s) frame k v) (editing_said r s frame k v) (answers.editing-number r (Some s) frame k v)
    (editing-tests r s frame k v)

-- of a satellite that is not named, all of them test that alone, and answer 1
pub unnamed-number : (r : Registers) (m n : ℕ) (xs ys : List ℕ)
    → ((reading_by r None xs ys).refusal ≡ 1) × (((writing None m xs ys).refusal ≡ 1) × ((editing_by r None xs m n).refusal ≡ 1))
unfolding reading_tests writing_tests editing_tests refusal
unnamed-number r m n xs ys =
    (answers.reading-number r None xs ys, (answers.writing-number None m xs ys, answers.editing-number r None xs m n))

-- ---- "and a refused call leaves every buffer handed to it untouched"

-- "A refusal answers type 0, count 0"
pub reading-refused : (r : Registers) (k : Option Satellite) (frame room : List ℕ) (n : ℕ) → (reading_by r k frame room).refusal ≡ n → n ≢ 0
    → (reading_by r k frame room ≡ record { refusal = n; ty = 0; count = 0 }) × (room_after_by r k frame room ≡ room)
reading-refused = answers.reading-refused

-- "A refusal answers 0, except 11"
pub writing-refused : (r : Registers) (k : Option Satellite) (t : ℕ) (values output : List ℕ) (n : ℕ) → (writing k t values output).refusal ≡ n → n ≢ 0
    → (n ≢ 11 → writing k t values output ≡ record { refusal = n; answer = 0 }) × (output_after_by r k t values output ≡ output)
writing-refused = answers.writing-refused

-- "11, which answers the lowest field number that does not fit"
pub writing-lowest : (s : Satellite) (t i : ℕ) (values output : List ℕ)
    → writing (Some s) t values output ≡ record { refusal = 11; answer = i }
    → (i < length (entry_of s t).widths)
    × ((2 ^ width_at (entry_of s t).widths i ≤ get_or values i 0)
    × ((j : ℕ) → j < i → get_or values j 0 < 2 ^ width_at (entry_of s t).widths j))
writing-lowest = answers.writing-lowest

-- "a refusal answers 0, and 11 the field's number"
pub editing-refused : (r : Registers) (s : Option Satellite) (frame : List ℕ) (k v n : ℕ) → (editing_by r s frame k v).refusal ≡ n → n ≢ 0
    → (n ≢ 11 → editing_by r s frame k v ≡ record { refusal = n; answer = 0 })
    × ((n ≡ 11 → editing_by r s frame k v ≡ record { refusal = n; answer = k }) × (frame_after_by r s frame k v ≡ frame))
editing-refused = answers.editing-refused
