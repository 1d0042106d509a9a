-- Every answer in numbers is that of some result: the tests give one.
-- Assumes nothing.
use Prim.Native.Nat.{ℕ}
use native.Mathlib.Omega.{arith}
use mathlib.Core.Path.{◌≡◌, refl, sym, ◌∙◌, ap, ap₂}
use mathlib.Core.Bool.{Bool, true, false, cond}
use mathlib.Core.List.{List}
use lib.Dec.{eqb}
use lib.ListN.{length}
use borrow.Author.Tests.{eqb-true, ne_eqb}
use Rattle.std.specs.Prelude.{Result, Ok, Err, Option, Some, None, IfOk, IfErr}
use Rattle.satellites.specs.declared.Satellite.{Satellite}
use Rattle.layouts.specs.Layouts.{entry_of}
use Rattle.bodies.specs.Bodies.{fitting}
use Rattle.refusals.specs.declared.Refusal.{Refusal}
use Rattle.refusals.specs.Refusals.{number_of, place_in}
use Rattle.refusals.specs.Tests.{Test, refusal, answer_by}
use Rattle.refusals.proofs.Answered.{named, Named, Refuses, ok-means, err-means}
use Rattle.refusals.proofs.Refusals.{number-above}
use Rattle.frames.specs.declared.Accepted.{Accepted}
use Rattle.frames.specs.Answers.{read_in_numbers, written_in_numbers}
use Rattle.frames.specs.Registers.{Registers}
use Rattle.frames.specs.Frames.{type_of, entry_in, frame_length}
use Rattle.frames.specs.Reading.{front_tests, whole_tests, frame_tests, reading_tests, refused_reading, reading_by}
use Rattle.frames.specs.Writing.{writing_tests, refused_writing, writing}
use Rattle.frames.specs.Editing.{editing_tests, editing_by}
use Rattle.frames.proofs.Told.{refused-read-says, refused-written-says}

-- ---- from tests, each with the number of a refusal

module _ (ts : List Test) (names : Named ts) (place : ℕ) where
  -- with 11 the place, and else 0
  placed : (e : Refusal) → Refuses place (refusal ts) e
      → cond (eqb (number_of e) 11) (place_in e) 0 ≡ cond (eqb (refusal ts) 11) place 0
  placed e means = ap (λ n. cond (eqb n 11) (place_in e) 0) means.0 ∙ go (eqb (refusal ts) 11) refl
    where
      go : (b : Bool) → eqb (refusal ts) 11 ≡ b → cond b (place_in e) 0 ≡ cond b place 0
      go true is = means.1 (eqb-true (refusal ts) 11 is)
      go false is = refl

  -- a refusal's number is not that of acceptance
  fails : (e : Refusal) → Refuses place (refusal ts) e → eqb (refusal ts) 0 ≡ false
  fails e means = ne_eqb (refusal ts) 0 (λ none. omega (arith, number-above e, means.0, none))

  wrote : (value : ℕ) → written_in_numbers (answer_by ts place value)
      ≡ cond (eqb (refusal ts) 0) (record { refusal = 0; answer = value }) (refused_writing (refusal ts) place)
  wrote value = go (answer_by ts place value) (ok-means place value ts) (err-means place value ts names)
    where
      go : (x : Result ℕ Refusal) → IfOk x (λ y. (refusal ts ≡ 0) × (y ≡ value)) → IfErr x (Refuses place (refusal ts))
          → written_in_numbers x ≡ cond (eqb (refusal ts) 0) (record { refusal = 0; answer = value }) (refused_writing (refusal ts) place)
      go (Ok y) ok err = rw (ok.0, ok.1)
      go (Err e) ok err =
          refused-written-says e
          ∙ ap₂ (λ n a. record { refusal = n; answer = a }) err.0 (placed e err)
          ∙ ap (λ b. cond b (record { refusal = 0; answer = value }) (refused_writing (refusal ts) place)) (sym (fails e err))

-- reading tells no place
module _ (ts : List Test) (names : Named ts) where
  unplaced : (b : Bool) → ◌≡◌ {A = ℕ} (cond b 0 0) 0
  unplaced true = refl
  unplaced false = refl

  was-read : (value : Accepted) → read_in_numbers (answer_by ts 0 value)
      ≡ cond (eqb (refusal ts) 0) (record { refusal = 0; ty = value.ty; count = value.count }) (refused_reading (refusal ts))
  was-read value = go (answer_by ts 0 value) (ok-means 0 value ts) (err-means 0 value ts names)
    where
      go : (x : Result Accepted Refusal) → IfOk x (λ y. (refusal ts ≡ 0) × (y ≡ value)) → IfErr x (Refuses 0 (refusal ts))
          → read_in_numbers x
          ≡ cond (eqb (refusal ts) 0) (record { refusal = 0; ty = value.ty; count = value.count }) (refused_reading (refusal ts))
      go (Ok y) ok err = rw (ok.0, ok.1)
      go (Err e) ok err =
          refused-read-says e
          ∙ ap₂ (λ n c. record { refusal = n; ty = 0; count = c }) err.0 (placed ts names 0 e err ∙ unplaced (eqb (refusal ts) 11))
          ∙ ap (λ b. cond b (record { refusal = 0; ty = value.ty; count = value.count }) (refused_reading (refusal ts)))
          (sym (fails ts names 0 e err))

-- ---- of the calls

pub result-read : (r : Registers) (k : Option Satellite) (frame room : List ℕ)
    → (q : Result Accepted Refusal) × (read_in_numbers q ≡ reading_by r k frame room)
unfolding reading_by reading_tests whole_tests front_tests named refusal
result-read r None frame room = (answer_by (reading_tests r None frame room) 0 (record { ty = 0; count = 0 }), was-read (reading_tests r None frame room) tt _)
result-read r (Some s) frame room = (
  answer_by (reading_tests r (Some s) frame room) 0 (record { ty = type_of s frame; count = length (entry_in s frame).widths }),
  was-read (reading_tests r (Some s) frame room) tt _,
)

pub result-written : (k : Option Satellite) (t : ℕ) (values output : List ℕ)
    → (q : Result ℕ Refusal) × (written_in_numbers q ≡ writing k t values output)
unfolding writing writing_tests named refusal
result-written None t values output = (answer_by (writing_tests None t values output) 0 0, wrote (writing_tests None t values output) tt 0 0)
result-written (Some s) t values output =
    let place = fitting (entry_of s t).widths values in (
      answer_by (writing_tests (Some s) t values output) place (frame_length s t),
      wrote (writing_tests (Some s) t values output) tt place (frame_length s t),
    )

pub result-edited : (r : Registers) (s : Option Satellite) (frame : List ℕ) (k v : ℕ)
    → (q : Result ℕ Refusal) × (written_in_numbers q ≡ editing_by r s frame k v)
unfolding editing_by editing_tests frame_tests whole_tests front_tests named refusal
result-edited r None frame k v = (answer_by (editing_tests r None frame k v) k 0, wrote (editing_tests r None frame k v) tt k 0)
result-edited r (Some s) frame k v = (
  answer_by (editing_tests r (Some s) frame k v) k (frame_length s (type_of s frame)),
  wrote (editing_tests r (Some s) frame k v) tt k (frame_length s (type_of s frame)),
)
