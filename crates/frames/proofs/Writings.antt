-- What writing answers and leaves, by the number of the first test that fails; and no test fails where the type is carried, the
-- values are as many as its fields and fit, and the output is long enough.
-- Assumes nothing.
use Prim.{⊥}
use Prim.Native.Nat.{ℕ, ◌≤◌}
use mathlib.Core.Path.{◌≡◌, refl, ◌∙◌}
use mathlib.Core.Bool.{true}
use mathlib.Core.List.{List, [], ◌∷◌, ◌++◌}
use lib.Dec.{eqb, leb}
use lib.ListN.{length, drop}
use borrow.Author.Tests.{eq-eqb, ne_eqb, le-leb}
use Rattle.frames.specs.Registers.{Registers}
use Rattle.satellites.specs.declared.Satellite.{Satellite}
use Rattle.std.specs.Prelude.{Some}
use Rattle.layouts.specs.Layouts.{carries, entry_of}
use Rattle.bodies.specs.Bodies.{fitting}
use Rattle.frames.specs.Answers.{Writing}
use Rattle.refusals.specs.Tests.{test, refusal}
use Rattle.frames.specs.Frames.{frame_of, frame_length}
use Rattle.frames.specs.Writing.{writing_tests, accepted_writing, refused_writing, writing, output_after_by}
use Rattle.refusals.proofs.Tests.{goes, none_left}

-- an answer that accepts, with the length that it tells
abbrev pub wrote_as : ℕ → Writing
wrote_as n = record { refusal = 0; answer = n }

module _ (r : Registers) (s : Satellite) (t : ℕ) (values output : List ℕ) where
  abbrev number : ℕ
  number = refusal (writing_tests (Some s) t values output)

  abbrev lowest : ℕ
  lowest = fitting (entry_of s t).widths values

  abbrev count : ℕ
  count = length (entry_of s t).widths

  -- what a number means
  abbrev pub Refuses : ℕ → Type 0
  Refuses k = (refused_writing k lowest ≡ writing (Some s) t values output) × (output ≡ output_after_by r (Some s) t values output)

  pub refused-with : (k : ℕ) → number ≡ k → (k ≡ 0 → ⊥) → Refuses k
  unfolding writing output_after_by
  refused-with k e some = let no = ne_eqb k 0 some in (rw (e, no), rw (e, no))

  pub accepted-with : number ≡ 0
      → (accepted_writing s t ≡ writing (Some s) t values output)
      × (frame_of (r s) s t values ++ drop (frame_length s t) output ≡ output_after_by r (Some s) t values output)
  unfolding writing output_after_by
  accepted-with e = (rw e, rw e)

  -- the tests
  module _ (carried : carries s t ≡ true) (as_many : length values ≡ count) where
    pub passed-10 : number ≡ refusal (test 11 (eqb lowest count) ∷ test 12 (leb (frame_length s t) (length output)) ∷ [])
    unfolding writing_tests
    passed-10 = goes 1 true _ refl ∙ goes 5 _ _ carried ∙ goes 10 _ _ (eq-eqb (length values) count as_many)

    module _ (all : lowest ≡ count) where
      pub passed-11 : number ≡ refusal (test 12 (leb (frame_length s t) (length output)) ∷ [])
      passed-11 = passed-10 ∙ goes 11 _ _ (eq-eqb lowest count all)

      pub none-fails : frame_length s t ≤ length output → number ≡ 0
      none-fails enough = passed-11 ∙ goes 12 _ [] (le-leb (frame_length s t) (length output) enough) ∙ none_left
