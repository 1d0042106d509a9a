-- An answer and its numbers: no two answers have the same, and a refusal has no others than its own.
-- Assumes nothing.
use Prim.Native.Nat.{ℕ}
use native.Mathlib.Omega.{arith}
use mathlib.Core.Path.{◌≡◌, refl, sym, ◌∙◌, ap, ap₂}
use mathlib.Core.Bool.{Bool, true, false, cond}
use borrow.Author.Tests.{eqb-true}
use lib.Dec.{eqb}
use Rattle.std.specs.Prelude.{Result, Ok, Err}
use Rattle.refusals.specs.declared.Refusal.{Refusal}
use Rattle.refusals.specs.declared.Refusal.TheVariants.{Satellite, Short, Preamble, Address, NotCarried, Size, Length, Room, Checksum, Values, Value, Output, Field}
use Rattle.refusals.specs.Refusals.{number_of, place_in}
use Rattle.refusals.proofs.Refusals.{same_refusal, number-above}
use Rattle.refusals.proofs.Answered.{Refuses}
use Rattle.frames.specs.declared.Accepted.{Accepted}
use Rattle.frames.specs.Answers.{Reading, Writing, read_in_numbers, written_in_numbers}
use Rattle.frames.specs.Reading.{refused_reading}
use Rattle.frames.specs.Writing.{refused_writing}

-- an accepted answer has number 0, and no refusal has
apart : (refusal : Refusal) → 0 ≡ number_of refusal → ⊥
apart refusal e = omega (arith, number-above refusal, e)

pub same_read : (r q : Result Accepted Refusal) → read_in_numbers r ≡ read_in_numbers q → r ≡ q
same_read (Ok a) (Ok b) e = ap₂ (λ t n. Ok (record { ty = t; count = n })) (ap (λ (x : Reading). x.ty) e) (ap (λ (x : Reading). x.count) e)
same_read (Ok a) (Err q) e = absurd (apart q (ap (λ (x : Reading). x.refusal) e))
same_read (Err p) (Ok b) e = absurd (apart p (sym (ap (λ (x : Reading). x.refusal) e)))
same_read (Err p) (Err q) e = ap Err (same_refusal p q (ap (λ (x : Reading). x.refusal) e) (ap (λ (x : Reading). x.count) e))

pub same_written : (r q : Result ℕ Refusal) → written_in_numbers r ≡ written_in_numbers q → r ≡ q
same_written (Ok a) (Ok b) e = ap Ok (ap (λ (x : Writing). x.answer) e)
same_written (Ok a) (Err q) e = absurd (apart q (ap (λ (x : Writing). x.refusal) e))
same_written (Err p) (Ok b) e = absurd (apart p (sym (ap (λ (x : Writing). x.refusal) e)))
same_written (Err p) (Err q) e = ap Err (same_refusal p q (ap (λ (x : Writing). x.refusal) e) (ap (λ (x : Writing). x.answer) e))

-- "A refusal answers type 0"; the count is 0 too, but with 11, which reading never answers
pub refused-read-says : (refusal : Refusal)
    → read_in_numbers (Err refusal) ≡ record { refusal = number_of refusal; ty = 0; count = cond (eqb (number_of refusal) 11) (place_in refusal) 0 }
refused-read-says Satellite = refl
refused-read-says Short = refl
refused-read-says Preamble = refl
refused-read-says Address = refl
refused-read-says NotCarried = refl
refused-read-says Size = refl
refused-read-says Length = refl
refused-read-says Room = refl
refused-read-says Checksum = refl
refused-read-says Values = refl
refused-read-says (Value place) = refl
refused-read-says Output = refl
refused-read-says Field = refl

-- "A refusal answers 0, except 11"
pub refused-written-says : (refusal : Refusal)
    → written_in_numbers (Err refusal) ≡ record { refusal = number_of refusal; answer = cond (eqb (number_of refusal) 11) (place_in refusal) 0 }
refused-written-says Satellite = refl
refused-written-says Short = refl
refused-written-says Preamble = refl
refused-written-says Address = refl
refused-written-says NotCarried = refl
refused-written-says Size = refl
refused-written-says Length = refl
refused-written-says Room = refl
refused-written-says Checksum = refl
refused-written-says Values = refl
refused-written-says (Value place) = refl
refused-written-says Output = refl
refused-written-says Field = refl

-- the place of a refusal of number n
placed : (refusal : Refusal) (n place : ℕ) → Refuses place n refusal → cond (eqb (number_of refusal) 11) (place_in refusal) 0 ≡ cond (eqb n 11) place 0
placed refusal n place its = ap (λ m. cond (eqb m 11) (place_in refusal) 0) its.0 ∙ go (eqb n 11) refl
  where
    go : (b : Bool) → eqb n 11 ≡ b → cond b (place_in refusal) 0 ≡ cond b place 0
    go true e = its.1 (eqb-true n 11 e)
    go false e = refl

-- its numbers are those that reading refuses with, and those that writing and editing do
pub refused-read : (refusal : Refusal) (n : ℕ) → Refuses 0 n refusal → read_in_numbers (Err refusal) ≡ refused_reading n
refused-read refusal n its =
    refused-read-says refusal
    ∙ ap₂ (λ m p. record { refusal = m; ty = 0; count = p }) its.0 (placed refusal n 0 its ∙ none (eqb n 11))
  where
    none : (b : Bool) → ◌≡◌ {A = ℕ} (cond b 0 0) 0
    none true = refl
    none false = refl

pub refused-written : (refusal : Refusal) (n place : ℕ) → Refuses place n refusal → written_in_numbers (Err refusal) ≡ refused_writing n place
refused-written refusal n place its =
    refused-written-says refusal ∙ ap₂ (λ m p. record { refusal = m; answer = p }) its.0 (placed refusal n place its)
