-- What the contracts say, about their own text (`Post`, as the check reads it: the arguments a, the result r, and the parameters at
-- exit s): the definitions of the very satellite, size and bytes that the call was given.
-- Assumes nothing.
use Prim.Native.Nat.{ℕ, ◌+◌, ◌/◌}
use mathlib.Core.Path.{◌≡◌, refl, sym, subst}
use mathlib.Core.Bool.{cond}
use mathlib.Core.List.{List, [], ◌∷◌, ◌++◌}
use lib.Dec.{eqb}
use lib.ListN.{length, get_or, drop, replicate}
use Rattle.satellites.specs.declared.Satellite.{Satellite}
use Rattle.satellites.specs.Satellites.{training_of, size_byte_of, type_byte_at}
use Rattle.std.specs.Prelude.{Result, Ok, Err, IfOk, IfErr}
use Rattle.layouts.specs.Layouts.{entry_of, layout_of, laid_out}
use Rattle.refusals.specs.Refusals.{number_of}
use Rattle.refusals.specs.declared.Refusal.{Refusal}
use Rattle.refusals.specs.Tests.{Test, refusal, answer_by}
use Rattle.refusals.proofs.Answered.{Named, ok-told, err-told}
use Rattle.frames.specs.Frames.{type_of}
use Rattle.frames.specs.Reading.{front_tests, whole_tests}
use Rattle.fronts.specs.declared.Front.{Front}
use Rattle.fronts.specs.declared.Refused.{Refused}
use Rattle.fronts.specs.Fronts.{front_in, told_of, front_of}
use Rattle.fronts.proofs.Told.{front-named, whole-named}
use Rattle.fronts.proofs.of.Reads as front
use Rattle.fronts.proofs.whole.Reads as whole
use Rattle.fronts.proofs.type_sent.Reads as type-sent
use Rattle.fronts.proofs.preamble.write.Reads as write

-- a result by some tests, in numbers
numbers : (s : Satellite) (frame : List ℕ) (ts : List Test) → Named ts → (t : Result Front Refusal) → t ≡ answer_by ts 0 (front_in s frame)
    → IfOk (told_of s frame t) (λ _. refusal ts ≡ 0) × IfErr (told_of s frame t) (λ e. number_of e.refusal ≡ refusal ts)
numbers s frame ts names (Ok x) told = ((ok-told 0 (front_in s frame) ts x told).0, tt)
numbers s frame ts names (Err e) told = (tt, (err-told 0 (front_in s frame) ts names e told).0)

numbered : (s : Satellite) (frame : List ℕ) (ts : List Test) → Named ts → (r : Result Front Refused) → r ≡ front_of ts s frame
    → IfOk r (λ _. refusal ts ≡ 0) × IfErr r (λ e. number_of e.refusal ≡ refusal ts)
numbered s frame ts names r told =
    subst (λ q. IfOk q (λ _. refusal ts ≡ 0) × IfErr q (λ e. number_of e.refusal ≡ refusal ts)) (sym told) (numbers s frame ts names _ refl)

-- what is answered by some tests: the type and its layout, or the refusal of the first that fails, with the type and what is told of it
abbrev Says : Satellite → List ℕ → List Test → Result Front Refused → Type 0
Says s frame ts r =
    let ty = type_of s frame in
    r ≡ elim (answer_by ts 0 (record { ty = ty; layout = laid_out s (entry_of s ty) })) [
      | Ok told ↦ Ok told
      | Err refusal ↦ Err (record { refusal = refusal; ty = ty; layout = layout_of s ty })
    ]

-- of tests 2 to 6
pub of-says : (κs a r s : _) → front.Post κs a r s → Says a.0 a.1.0.now (front_tests a.0 a.1.0.now) r × (s.1.0.now ≡ a.1.0.now)
of-says κs a r s p = p

-- of tests 2 to 7
pub whole_says : (κs a r s : _) → whole.Post κs a r s → Says a.0 a.1.0.now (whole_tests a.0 a.1.0.now) r × (s.1.0.now ≡ a.1.0.now)
whole_says κs a r s p = p

-- a refusal has the number of that test, and the number is 0 where there is none
pub of-number : (κs a r s : _) → front.Post κs a r s
    → let number = refusal (front_tests a.0 a.1.0.now) in
    IfOk r (λ _. number ≡ 0) × IfErr r (λ e. number_of e.refusal ≡ number)
of-number κs a r s p = numbered a.0 a.1.0.now (front_tests a.0 a.1.0.now) (front-named a.0 a.1.0.now) r p.0

pub whole-number : (κs a r s : _) → whole.Post κs a r s
    → let number = refusal (whole_tests a.0 a.1.0.now) in
    IfOk r (λ _. number ≡ 0) × IfErr r (λ e. number_of e.refusal ≡ number)
whole-number κs a r s p = numbered a.0 a.1.0.now (whole_tests a.0 a.1.0.now) (whole-named a.0 a.1.0.now) r p.0

-- "type in the high four bits"
pub type-sent-says : (κs a r s : _) → type-sent.Post κs a r s
    → (r ≡ get_or (drop (type_byte_at a.0) a.1.0.now) 0 0 / 16) × (s.1.0.now ≡ a.1.0.now)
type-sent-says κs a r s p = p

-- "Training: bytes AA", "Sync: the two bytes BF 35", and "HADES-SA only: one size byte"; a part of another length stays
pub write-says : (κs a r s : _) → write.Post κs a r s
    → let part = a.1.1.0.now in
    s.1.1.0.now
    ≡ cond (eqb (length part) (training_of a.0 + 2 + cond (size_byte_of a.0) 1 0))
    (replicate (training_of a.0) 0xAA ++ ((0xBF ∷ 0x35 ∷ []) ++ cond (size_byte_of a.0) (a.1.0 ∷ []) []))
    part
write-says κs a r s p = p
