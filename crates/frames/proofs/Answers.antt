-- What an answer tells: which test failed, or that none did, and what was left in the room, the output or the frame.
-- Assumes nothing.
use Prim.Native.Nat.{ℕ, ◌^◌, ◌≤◌, ◌<◌}
use native.Mathlib.Omega.{arith}
use mathlib.Core.Path.{◌≡◌, refl, sym, ◌∙◌, ap}
use mathlib.Core.Logic.{◌≢◌}
use mathlib.Core.Bool.{Bool, true, false, cond}
use mathlib.Core.List.{List, ◌++◌}
use lib.Dec.{eqb, ltb}
use lib.ListN.{length, drop, get_or}
use borrow.Author.Tests.{eq-eqb, eqb-true, eqb-false, ne_eqb, ltb-true, ltb-false}
use Rattle.satellites.specs.declared.Satellite.{Satellite}
use Rattle.std.specs.Prelude.{Option, Some, None}
use Rattle.layouts.specs.Layouts.{entry_of, width_at}
use Rattle.bodies.specs.Bodies.{fitting}
use Rattle.bodies.proofs.Laws.{fitting-below, lowest}
use Rattle.frames.specs.Registers.{Registers, register_of}
use Rattle.frames.specs.Answers.{Reading, Writing}
use Rattle.refusals.specs.Tests.{refusal, holding}
use Rattle.frames.specs.Frames.{from_type_byte, frame_of, frame_length, type_of, values_of}
use Rattle.frames.specs.Reading.{checksum_right, front_tests, whole_tests, frame_tests, reading_tests}
use Rattle.frames.specs.Reading.{accepted_reading, refused_reading, reading_by, room_after_by}
use Rattle.frames.specs.Editing.{editing_tests, editing_by, frame_after_by}
use Rattle.frames.specs.Writing.{writing_tests, accepted_writing, refused_writing, writing, output_after_by}
use Rattle.refusals.proofs.Tests.{numbered, Numbered, holds-numbered, lacks, distinct, fails-numbered}
use Rattle.frames.proofs.Fronts as fronts
use Rattle.frames.proofs.Readings as readings
use Rattle.frames.proofs.Readings.{read_as}
use Rattle.frames.proofs.Writings as writings
use Rattle.frames.proofs.Writings.{wrote_as}
use Rattle.frames.proofs.Edits as edits

-- an answer tells the number: 0 where it accepts, and where it refuses the one that it was made with
tells-number : {A : Type 0} (told : A → ℕ) (n : ℕ) (accepted : A) (refused : ℕ → A) → told accepted ≡ 0
    → ((m : ℕ) → told (refused m) ≡ m) → told (cond (eqb n 0) accepted (refused n)) ≡ n
tells-number told n accepted refused none some = go (eqb n 0) refl
  where
    go : (b : Bool) → eqb n 0 ≡ b → told (cond b accepted (refused n)) ≡ n
    go true e = none ∙ sym (eqb-true n 0 e)
    go false e = some n

-- ---- reading

pub reading-numbered : (r : Registers) (k : Option Satellite) (frame room : List ℕ) → Numbered (reading_tests r k frame room)
unfolding reading_tests whole_tests front_tests numbered
reading-numbered r None frame room = tt
reading-numbered r (Some s) frame room = tt

pub reading-number : (r : Registers) (k : Option Satellite) (frame room : List ℕ)
    → (reading_by r k frame room).refusal ≡ refusal (reading_tests r k frame room)
unfolding reading_by
reading-number r None frame room = refl
reading-number r (Some s) frame room =
    tells-number (λ a. a.refusal) (refusal (reading_tests r (Some s) frame room)) (accepted_reading s frame) refused_reading refl (λ n. refl)

-- a refusal answers type 0 and count 0 and leaves the room
pub reading-refused : (r : Registers) (k : Option Satellite) (frame room : List ℕ) (n : ℕ) → (reading_by r k frame room).refusal ≡ n → n ≢ 0
    → (reading_by r k frame room ≡ refused_reading n) × (room_after_by r k frame room ≡ room)
unfolding reading_by room_after_by
reading-refused r None frame room n e some = (ap refused_reading e, refl)
reading-refused r (Some s) frame room n e some =
    let told = readings.refused-with r s frame room n (sym (reading-number r (Some s) frame room) ∙ e) some in
    (sym told.0, sym told.1)

module _ (r : Registers) (s : Satellite) (frame room : List ℕ) where
  -- an accepted answer
  module _ (t n : ℕ) (accepted : reading_by r (Some s) frame room ≡ read_as t n) where
    none-failed : refusal (reading_tests r (Some s) frame room) ≡ 0
    none-failed = sym (reading-number r (Some s) frame room) ∙ ap (λ (a : Reading). a.refusal) accepted

    -- each test, by its number
    pub held : (k : ℕ) → holding k (reading_tests r (Some s) frame room) ≡ true
    held = holds-numbered (reading_tests r (Some s) frame room) (reading-numbered r (Some s) frame room) none-failed

    -- it is whole, and its checksum is right
    pub was-whole : refusal (whole_tests s frame) ≡ 0
    unfolding reading_tests
    was-whole = fronts.was-whole s frame _ none-failed

    pub was-right : checksum_right (r s) (from_type_byte s frame) ≡ true
    unfolding reading_tests whole_tests front_tests holding
    was-right = held 9

    its-answer : accepted_reading s frame ≡ read_as t n
    its-answer = (readings.accepted-with r s frame room none-failed).0 ∙ accepted

    pub its-type : type_of s frame ≡ t
    its-type = ap (λ (a : Reading). a.ty) its-answer

    pub its-count : length (entry_of s t).widths ≡ n
    its-count = ap (λ (u : ℕ). length (entry_of s u).widths) (sym its-type) ∙ ap (λ (a : Reading). a.count) its-answer

    pub its-room : room_after_by r (Some s) frame room ≡ values_of (r s) s frame ++ drop n room
    its-room =
        sym (readings.accepted-with r s frame room none-failed).1
        ∙ ap (λ (a : Reading). values_of (r s) s frame ++ drop a.count room) its-answer

-- ---- writing

pub writing-numbered : (k : Option Satellite) (t : ℕ) (values output : List ℕ) → Numbered (writing_tests k t values output)
unfolding writing_tests numbered
writing-numbered None t values output = tt
writing-numbered (Some s) t values output = tt

pub writing-number : (k : Option Satellite) (t : ℕ) (values output : List ℕ)
    → (writing k t values output).refusal ≡ refusal (writing_tests k t values output)
unfolding writing
writing-number None t values output = refl
writing-number (Some s) t values output =
    tells-number (λ a. a.refusal) (refusal (writing_tests (Some s) t values output)) (accepted_writing s t)
    (λ (n : ℕ). refused_writing n (fitting (entry_of s t).widths values)) refl (λ n. refl)

-- a refusal answers 0, or the lowest field number that does not fit, and leaves the output
answer-of : (n lowest : ℕ) → n ≢ 11 → refused_writing n lowest ≡ record { refusal = n; answer = 0 }
answer-of n lowest other = rw (ne_eqb n 11 other)

pub writing-refused : (r : Registers) (k : Option Satellite) (t : ℕ) (values output : List ℕ) (n : ℕ) → (writing k t values output).refusal ≡ n → n ≢ 0
    → (n ≢ 11 → writing k t values output ≡ record { refusal = n; answer = 0 }) × (output_after_by r k t values output ≡ output)
unfolding writing output_after_by
writing-refused r None t values output n e some = (λ other. ap (λ (m : ℕ). refused_writing m 0) e ∙ answer-of n 0 other, refl)
writing-refused r (Some s) t values output n e some =
    let told = writings.refused-with r s t values output n (sym (writing-number (Some s) t values output) ∙ e) some in
    (λ other. sym told.0 ∙ answer-of n (fitting (entry_of s t).widths values) other, sym told.1)

strictly : (i n : ℕ) → i ≤ n → i ≢ n → i < n
strictly i n h other = go (ltb i n) refl
  where
    go : (b : Bool) → ltb i n ≡ b → i < n
    go true e = ltb-true i n e
    go false e = absurd (other (omega (arith, h, ltb-false i n e)))

-- 11 says that some value does not fit
some-misfit : (s : Satellite) (t : ℕ) (values output : List ℕ) → refusal (writing_tests (Some s) t values output) ≡ 11
    → eqb (fitting (entry_of s t).widths values) (length (entry_of s t).widths) ≡ false
unfolding writing_tests lacks distinct holding
some-misfit s t values output e = fails-numbered (writing_tests (Some s) t values output) 11 tt e (λ z. omega (arith, z))

pub writing-lowest : (s : Satellite) (t i : ℕ) (values output : List ℕ)
    → writing (Some s) t values output ≡ record { refusal = 11; answer = i }
    → (i < length (entry_of s t).widths)
    × ((2 ^ width_at (entry_of s t).widths i ≤ get_or values i 0)
    × ((j : ℕ) → j < i → get_or values j 0 < 2 ^ width_at (entry_of s t).widths j))
writing-lowest s t i values output e =
    let ws = (entry_of s t).widths in
    let number = sym (writing-number (Some s) t values output) ∙ ap (λ (a : Writing). a.refusal) e in
    let told = (writings.refused-with register_of s t values output 11 number (λ z. omega (arith, z))).0 in
    let its : fitting ws values ≡ i = ap (λ (a : Writing). a.answer) (told ∙ e) in
    let other = eqb-false (fitting ws values) (length ws) (some-misfit s t values output number) in
    let below_all : i ≤ length ws = omega (arith, its, fitting-below ws values) in
    let inside = strictly i (length ws) below_all (λ e. other (its ∙ e)) in
    (inside, lowest ws values i its inside)

module _ (r : Registers) (s : Satellite) (t : ℕ) (values output : List ℕ) where
  -- an accepted answer
  module _ (n : ℕ) (accepted : writing (Some s) t values output ≡ wrote_as n) where
    none-refused : refusal (writing_tests (Some s) t values output) ≡ 0
    none-refused = sym (writing-number (Some s) t values output) ∙ ap (λ (a : Writing). a.refusal) accepted

    -- each test, by its number
    pub kept : (k : ℕ) → holding k (writing_tests (Some s) t values output) ≡ true
    kept = holds-numbered (writing_tests (Some s) t values output) (writing-numbered (Some s) t values output) none-refused

    pub its-frame : frame_length s t ≡ n
    its-frame = ap (λ (a : Writing). a.answer) ((writings.accepted-with r s t values output none-refused).0 ∙ accepted)

    pub its-output : output_after_by r (Some s) t values output ≡ frame_of (r s) s t values ++ drop n output
    its-output =
        sym (writings.accepted-with r s t values output none-refused).1
        ∙ ap (λ (m : ℕ). frame_of (r s) s t values ++ drop m output) its-frame

-- ---- editing

pub editing-numbered : (r : Registers) (s : Option Satellite) (frame : List ℕ) (k v : ℕ) → Numbered (editing_tests r s frame k v)
unfolding editing_tests frame_tests whole_tests front_tests numbered
editing-numbered r None frame k v = tt
editing-numbered r (Some s) frame k v = tt

pub editing-number : (r : Registers) (s : Option Satellite) (frame : List ℕ) (k v : ℕ)
    → (editing_by r s frame k v).refusal ≡ refusal (editing_tests r s frame k v)
unfolding editing_by
editing-number r None frame k v = refl
editing-number r (Some s) frame k v =
    tells-number (λ a. a.refusal) (refusal (editing_tests r (Some s) frame k v)) (accepted_writing s (type_of s frame))
    (λ (n : ℕ). refused_writing n k) refl (λ n. refl)

-- a refusal answers 0, or the field's number, and leaves the frame
answer-11 : (n k : ℕ) → n ≡ 11 → refused_writing n k ≡ record { refusal = n; answer = k }
answer-11 n k e = rw (eq-eqb n 11 e)

pub editing-refused : (r : Registers) (s : Option Satellite) (frame : List ℕ) (k v n : ℕ) → (editing_by r s frame k v).refusal ≡ n → n ≢ 0
    → (n ≢ 11 → editing_by r s frame k v ≡ record { refusal = n; answer = 0 })
    × ((n ≡ 11 → editing_by r s frame k v ≡ record { refusal = n; answer = k }) × (frame_after_by r s frame k v ≡ frame))
unfolding editing_by frame_after_by
editing-refused r None frame k v n e some =
    let told = ap (λ (m : ℕ). refused_writing m k) e in
    (λ other. told ∙ answer-of n k other, (λ same. told ∙ answer-11 n k same, refl))
editing-refused r (Some s) frame k v n e some =
    let told = edits.refused-with r s frame k v n (sym (editing-number r (Some s) frame k v) ∙ e) some in
    (λ other. sym told.0 ∙ answer-of n k other, (λ same. sym told.0 ∙ answer-11 n k same, sym told.1))
