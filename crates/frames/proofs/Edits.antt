-- What editing answers and leaves, by the number of the first test that fails; and no test fails where the frame is whole, its checksum
-- is right, there is such a field and the value fits.
-- Assumes nothing.
use Prim.Native.Nat.{ℕ, ◌^◌, ◌<◌}
use mathlib.Core.Path.{◌≡◌, ◌∙◌, ap}
use mathlib.Core.Logic.{◌≢◌}
use mathlib.Core.Bool.{true}
use mathlib.Core.List.{List, [], ◌∷◌, append_assoc}
use lib.Dec.{ltb}
use lib.ListN.{length}
use borrow.Author.Tests.{ne_eqb, lt-ltb}
use Rattle.frames.specs.Registers.{Registers}
use Rattle.satellites.specs.declared.Satellite.{Satellite}
use Rattle.std.specs.Prelude.{Some}
use Rattle.layouts.specs.Layouts.{width_at}
use Rattle.frames.specs.Answers.{Writing}
use Rattle.refusals.specs.Tests.{Test, test, refusal}
use Rattle.frames.specs.Frames.{from_type_byte, type_of, entry_in}
use Rattle.frames.specs.Reading.{checksum_right, checksum_test, whole_tests, frame_tests}
use Rattle.frames.specs.Writing.{accepted_writing, refused_writing}
use Rattle.frames.specs.Editing.{editing_tests, editing_by, edited, frame_after_by}
use Rattle.refusals.proofs.Tests.{goes, none_left}
use Rattle.frames.proofs.Fronts.{whole-passes}

module _ (r : Registers) (s : Satellite) (frame : List ℕ) (k v : ℕ) where
  abbrev number : ℕ
  number = refusal (editing_tests r (Some s) frame k v)

  -- an answer, and the frame that is left
  abbrev pub Answers : Writing → List ℕ → Type 0
  Answers a left = (a ≡ editing_by r (Some s) frame k v) × (left ≡ frame_after_by r (Some s) frame k v)

  pub refused-with : (n : ℕ) → number ≡ n → n ≢ 0 → Answers (refused_writing n k) frame
  unfolding editing_by frame_after_by
  refused-with n e some = let no = ne_eqb n 0 some in (rw (e, no), rw (e, no))

  pub accepted-with : number ≡ 0 → Answers (accepted_writing s (type_of s frame)) (edited (r s) s frame k v)
  unfolding editing_by frame_after_by
  accepted-with e = (rw e, rw e)

  module _ (whole : refusal (whole_tests s frame) ≡ 0) where
    abbrev ws : List ℕ
    ws = (entry_in s frame).widths

    -- tests 9, 13 and 11
    pub passed-7 : number ≡ refusal (checksum_test (r s) s frame ∷ test 13 (ltb k (length ws)) ∷ test 11 (ltb v (2 ^ width_at ws k)) ∷ [])
    unfolding editing_tests frame_tests
    passed-7 =
        ap (λ (ts : List Test). refusal (test 1 true ∷ ts)) (append_assoc (whole_tests s frame) (checksum_test (r s) s frame ∷ []) _)
        ∙ whole-passes s frame _ whole

    pub none-fails : checksum_right (r s) (from_type_byte s frame) ≡ true → k < length ws → v < 2 ^ width_at ws k → number ≡ 0
    none-fails right there narrow =
        passed-7
        ∙ goes 9 _ _ right
        ∙ goes 13 _ _ (lt-ltb k (length ws) there)
        ∙ goes 11 _ [] (lt-ltb v (2 ^ width_at ws k) narrow)
        ∙ none_left
