-- What reading answers and leaves, by the number of the first test that fails; and no test fails where the frame is whole, there is
-- room and the checksum is right.
-- Assumes nothing.
use Prim.{⊥}
use Prim.Native.Nat.{ℕ, ◌≤◌}
use mathlib.Core.Path.{◌≡◌, sym, ◌∙◌}
use mathlib.Core.Bool.{true}
use mathlib.Core.List.{List, [], ◌∷◌, ◌++◌}
use lib.ListN.{length, drop}
use borrow.Author.Tests.{ne_eqb, le-leb}
use Rattle.frames.specs.Registers.{Registers}
use Rattle.satellites.specs.declared.Satellite.{Satellite}
use Rattle.std.specs.Prelude.{Some}
use Rattle.frames.specs.Answers.{Reading}
use Rattle.refusals.specs.Tests.{refusal}
use Rattle.frames.specs.Frames.{from_type_byte, entry_in, values_of}
use Rattle.frames.specs.Reading.{accepted_by, checksum_right, whole_tests, room_test, checksum_test, reading_tests}
use Rattle.frames.specs.Reading.{accepted_reading, refused_reading, reading_by, room_after_by}
use Rattle.refusals.proofs.Tests.{goes, none_left}
use Rattle.frames.proofs.Fronts.{whole-passes}
use Rattle.frames.proofs.Acceptance.{was-whole, was-right}

-- an answer that accepts, with the type and the count that it tells
abbrev pub read_as : ℕ → ℕ → Reading
read_as t n = record { refusal = 0; ty = t; count = n }

module _ (r : Registers) (s : Satellite) (frame room : List ℕ) where
  abbrev number : ℕ
  number = refusal (reading_tests r (Some s) frame room)

  -- what a number means
  abbrev pub Refuses : ℕ → Type 0
  Refuses k = (refused_reading k ≡ reading_by r (Some s) frame room) × (room ≡ room_after_by r (Some s) frame room)

  pub refused-with : (k : ℕ) → number ≡ k → (k ≡ 0 → ⊥) → Refuses k
  unfolding reading_by room_after_by
  refused-with k e some = let no = ne_eqb k 0 some in (rw (e, no), rw (e, no))

  pub accepted-with : number ≡ 0
      → (accepted_reading s frame ≡ reading_by r (Some s) frame room)
      × (values_of (r s) s frame ++ drop (length (entry_in s frame).widths) room ≡ room_after_by r (Some s) frame room)
  unfolding reading_by room_after_by
  accepted-with e = (rw e, rw e)

  module _ (whole : refusal (whole_tests s frame) ≡ 0) where
    abbrev part : List ℕ
    part = from_type_byte s frame

    -- tests 8 and 9
    pub passed-7 : number ≡ refusal (room_test s frame room ∷ checksum_test (r s) s frame ∷ [])
    unfolding reading_tests
    passed-7 = whole-passes s frame _ whole

    module _ (enough : length (entry_in s frame).widths ≤ length room) where
      pub passed-8 : number ≡ refusal (checksum_test (r s) s frame ∷ [])
      passed-8 = passed-7 ∙ goes 8 _ _ (le-leb (length (entry_in s frame).widths) (length room) enough)

      pub none-fails : checksum_right (r s) part ≡ true → number ≡ 0
      none-fails same = passed-8 ∙ goes 9 _ [] same ∙ none_left

  -- a frame that is accepted, given room
  pub given-room : accepted_by (r s) s frame ≡ true → length (entry_in s frame).widths ≤ length room
      → reading_by r (Some s) frame room ≡ accepted_reading s frame
  given-room accepted enough =
      sym (accepted-with (none-fails (was-whole (r s) s frame accepted) enough (was-right (r s) s frame accepted))).0
