-- What writing answers and leaves, from the tests that hold and the first that fails.
-- Assumes nothing.
use Prim.{⊥}
use Prim.Native.Nat.{ℕ, ◌≤◌, ◌<◌}
use native.Mathlib.Omega.{arith}
use mathlib.Core.Path.{◌≡◌, refl, ◌∙◌, ap₂}
use mathlib.Core.Bool.{true, false}
use mathlib.Core.List.{List, [], ◌++◌}
use lib.ListN.{length, drop}
use borrow.Author.Tests.{ne_eqb, lt-leb}
use Rattle.satellites.specs.declared.Satellite.{Satellite}
use Rattle.std.specs.Prelude.{Some, None}
use Rattle.layouts.specs.Layouts.{carries, entry_of}
use Rattle.bodies.specs.Bodies.{fitting}
use Rattle.refusals.specs.Tests.{refusal}
use Rattle.frames.specs.Registers.{Registers}
use Rattle.frames.specs.Frames.{frame_of, frame_length}
use Rattle.frames.specs.Writing.{writing_tests, accepted_writing, refused_writing, writing, output_after_by}
use Rattle.refusals.proofs.Tests.{goes, stops}
use Rattle.frames.proofs.Writings.{wrote_as, Refuses, refused-with, accepted-with, passed-10, passed-11, none-fails}

pub unknown-refused : (r : Registers) (t : ℕ) (values output : List ℕ)
    → (refused_writing 1 0 ≡ writing None t values output) × (output ≡ output_after_by r None t values output)
unfolding writing output_after_by writing_tests refusal
unknown-refused r t values output = (refl, refl)

module _ (r : Registers) (s : Satellite) (t : ℕ) (values output : List ℕ) where
  abbrev lowest : ℕ
  lowest = fitting (entry_of s t).widths values

  abbrev count : ℕ
  count = length (entry_of s t).widths

  -- a number that is not 0 refuses
  refuses : (k : ℕ) → refusal (writing_tests (Some s) t values output) ≡ k → (k ≡ 0 → ⊥) → Refuses r s t values output k
  refuses = refused-with r s t values output

  pub refuses-5 : carries s t ≡ false → Refuses r s t values output 5
  unfolding writing_tests
  refuses-5 other = refuses 5 (goes 1 true _ refl ∙ stops 5 _ _ other) (λ e. omega (arith, e))

  module _ (carried : carries s t ≡ true) where
    pub refuses-10 : (length values ≡ count → ⊥) → Refuses r s t values output 10
    unfolding writing_tests
    refuses-10 other =
        refuses 10 (goes 1 true _ refl ∙ goes 5 _ _ carried ∙ stops 10 _ _ (ne_eqb (length values) count other)) (λ e. omega (arith, e))

    module _ (as_many : length values ≡ count) where
      pub refuses-11 : (lowest ≡ count → ⊥) → Refuses r s t values output 11
      refuses-11 other =
          refuses 11 (passed-10 r s t values output carried as_many ∙ stops 11 _ _ (ne_eqb lowest count other)) (λ e. omega (arith, e))

      module _ (all : lowest ≡ count) where
        pub refuses-12 : length output < frame_length s t → Refuses r s t values output 12
        refuses-12 short =
            refuses 12
            (passed-11 r s t values output carried as_many all ∙ stops 12 _ [] (lt-leb (frame_length s t) (length output) short))
            (λ e. omega (arith, e))

        -- an answer and an output that are made of the frame's length and the frame
        pub accepts : frame_length s t ≤ length output → {n m : ℕ} {front : List ℕ} → wrote_as n ≡ accepted_writing s t → m ≡ frame_length s t
            → front ≡ frame_of (r s) s t values
            → (wrote_as n ≡ writing (Some s) t values output) × (front ++ drop m output ≡ output_after_by r (Some s) t values output)
        accepts enough answers lent made =
            let told = accepted-with r s t values output (none-fails r s t values output carried as_many all enough) in (
              answers ∙ told.0,
              ap₂ (λ (l : List ℕ) (k : ℕ). l ++ drop k output) made lent ∙ told.1,
            )
