-- What callers of `of` and `whole` go by: an accepted front is told as it is, and a refusal has the number of the first test that fails.
-- Assumes nothing.
use Prim.Native.Nat.{ℕ}
use native.Mathlib.Omega.{arith}
use mathlib.Core.Path.{◌≡◌, subst}
use mathlib.Core.List.{List}
use Rattle.std.specs.Prelude.{Result, Ok, Err, IsErrAnd}
use Rattle.std.specs.Result.{MatchResult}
use Rattle.satellites.specs.declared.Satellite.{Satellite}
use Rattle.refusals.specs.declared.Refusal.{Refusal}
use Rattle.refusals.specs.Tests.{refusal}
use Rattle.refusals.proofs.Tests.{lacks, not-answered}
use Rattle.refusals.proofs.Answered.{named, Named, Refuses, ok-told, err-told, handed-on}
use Rattle.frames.specs.Reading.{front_tests, whole_tests}
use Rattle.fronts.specs.declared.Front.{Front}
use Rattle.fronts.specs.declared.Refused.{Refused}
use Rattle.fronts.specs.Fronts.{front_in, tested_by, told_of, front_of}

module _ (s : Satellite) (frame : List ℕ) where
  pub front-named : Named (front_tests s frame)
  unfolding front_tests named
  front-named = tt

  pub whole-named : Named (whole_tests s frame)
  unfolding whole_tests front_tests named
  whole-named = tt

  -- the refusal alone, as `map_err` hands it on
  abbrev Alone : Result Front Refused → Result Front Refusal → Type 0
  Alone told r = MatchResult told (λ front. r ≡ Ok front) (λ refused. IsErrAnd r (λ found. found ≡ refused.refusal))

  alone : (tested r : Result Front Refusal) → Alone (told_of s frame tested) r → r ≡ tested
  alone (Ok front) r same = same
  alone (Err refusal) r same = handed-on r refusal same

  pub whole-alone : {told : Result Front Refused} → told ≡ front_of (whole_tests s frame) s frame → {r : Result Front Refusal} → Alone told r
      → r ≡ tested_by (whole_tests s frame) s frame
  whole-alone is {r} same = alone (tested_by (whole_tests s frame) s frame) r (subst (λ q. Alone q r) is same)

  -- a whole frame
  pub whole-told : (front : Front) → Ok front ≡ tested_by (whole_tests s frame) s frame
      → (refusal (whole_tests s frame) ≡ 0) × (front ≡ front_in s frame)
  whole-told front e = ok-told 0 (front_in s frame) (whole_tests s frame) front e

  -- 11, which tells a place, is none of its tests
  pub whole-refused : (place : ℕ) (found : Refusal) → Err found ≡ tested_by (whole_tests s frame) s frame
      → Refuses place (refusal (whole_tests s frame)) found
  unfolding whole_tests front_tests lacks
  whole-refused place found e = (
    (err-told 0 (front_in s frame) (whole_tests s frame) whole-named found e).0,
    λ eleven. absurd (not-answered 11 (whole_tests s frame) tt (λ none. omega (arith, none)) eleven),
  )
