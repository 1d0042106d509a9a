-- What reading answers and leaves, from the tests that hold and the first that fails.
-- Assumes nothing.
use Prim.{⊥}
use Prim.Native.Nat.{ℕ, ◌≤◌, ◌<◌}
use native.Mathlib.Omega.{arith}
use mathlib.Core.Path.{◌≡◌, refl, sym, ◌∙◌, ap}
use mathlib.Core.Logic.{◌≢◌}
use mathlib.Core.Bool.{Bool, true, false, true≢false}
use mathlib.Core.List.{List, [], ◌++◌}
use lib.ListN.{length, drop}
use borrow.Author.Tests.{lt-leb}
use Rattle.bits.specs.Bits.{bits_of}
use Rattle.satellites.specs.declared.Satellite.{Satellite}
use Rattle.std.specs.Prelude.{Some, None, Ok, Err, ⊤}
use Rattle.layouts.specs.Layouts.{laid_out}
use Rattle.layouts.proofs.Laid.{layout-some}
use Rattle.layouts.proofs.Entries.{widths-allowed}
use Rattle.bodies.specs.Bodies.{told, filled, values_from, widths_in}
use Rattle.bodies.proofs.Laws.{length-told, filled-enough, widths-in, values-told}
use Rattle.refusals.specs.Tests.{refusal}
use Rattle.frames.specs.Registers.{Registers}
use Rattle.frames.specs.Frames.{from_type_byte, clear_body, type_of, entry_in, values_of}
use Rattle.frames.specs.Reading.{checksum_right, whole_tests, reading_tests, accepted_reading, refused_reading, reading_by, room_after_by}
use Rattle.refusals.specs.declared.Refusal.{Refusal}
use Rattle.refusals.specs.declared.Refusal.TheVariants.{Checksum}
use Rattle.refusals.proofs.Refusals.{number-above}
use Rattle.refusals.proofs.Tests.{stops}
use Rattle.frames.specs.Answers.{read_in_numbers}
use Rattle.frames.proofs.Told.{refused-read}
use Rattle.fronts.specs.Fronts.{tested_by}
use Rattle.fronts.proofs.Told.{whole-refused}
use Rattle.std.proofs.lemmas.Result.{IfErr-at_err}
use Rattle.std.specs.Result.{is_ok}
use Rattle.frames.proofs.Fronts.{whole-fails, is_carried, clear-tiled}
use Rattle.frames.proofs.Readings.{Refuses, refused-with, accepted-with, passed-7, passed-8, none-fails}
use Rattle.reading.specs.Told.{checked, told_to}

pub unknown-refused : (r : Registers) (frame room : List ℕ)
    → (refused_reading 1 ≡ reading_by r None frame room) × (room ≡ room_after_by r None frame room)
unfolding reading_by room_after_by reading_tests refusal
unknown-refused r frame room = (refl, refl)

-- test 9, from what it answers
pub was-right : (right : Bool) (done : ⊤) → Ok done ≡ checked right → right ≡ true
was-right true done e = refl
was-right false done e = absurd (true≢false (ap is_ok e))

pub was-wrong : (right : Bool) (e : Refusal) → Err e ≡ checked right → (right ≡ false) × (e ≡ Checksum)
was-wrong true e told = absurd (true≢false (ap is_ok (sym told)))
was-wrong false e told = (refl, IfErr-at_err (λ found. e ≡ found) told refl)

module _ (r : Registers) (s : Satellite) (frame room : List ℕ) where
  -- a number that is not 0 refuses
  refuses : (k : ℕ) → refusal (reading_tests r (Some s) frame room) ≡ k → (k ≡ 0 → ⊥) → Refuses r s frame room k
  refuses = refused-with r s frame room

  -- tests 2 to 7
  pub whole-refuses : (e : Refusal) → Err e ≡ tested_by (whole_tests s frame) s frame
      → (read_in_numbers (Err e) ≡ reading_by r (Some s) frame room) × (room ≡ room_after_by r (Some s) frame room)
  unfolding reading_tests
  whole-refuses e told =
      let n = refusal (whole_tests s frame) in
      let its = whole-refused s frame 0 e told in
      let some : n ≢ 0 = λ none. omega (arith, number-above e, its.0, none) in
      let answers = refuses n (whole-fails s frame _ n refl some) some in
      (refused-read e n its ∙ answers.0, answers.1)

  module _ (whole : refusal (whole_tests s frame) ≡ 0) where
    abbrev part : List ℕ
    part = from_type_byte s frame

    -- tests 8 and 9
    pub refuses-8 : length room < length (entry_in s frame).widths → Refuses r s frame room 8
    refuses-8 small =
        refuses 8 (passed-7 r s frame room whole ∙ stops 8 _ _ (lt-leb (length (entry_in s frame).widths) (length room) small))
        (λ e. omega (arith, e))

    module _ (enough : length (entry_in s frame).widths ≤ length room) where
      pub refuses-9 : checksum_right (r s) part ≡ false → Refuses r s frame room 9
      refuses-9 other = refuses 9 (passed-8 r s frame room whole enough ∙ stops 9 _ [] other) (λ e. omega (arith, e))

      -- the room, filled from the unscrambled body
      told-room : filled (values_from 0 (widths_in (laid_out s (entry_in s frame))) (clear_body (r s) part)) room
          ≡ values_of (r s) s frame ++ drop (length (entry_in s frame).widths) room
      unfolding values_of
      told-room =
          let ws = (entry_in s frame).widths in
          let bs = bits_of (clear_body (r s) part) in
          ap (λ (l : List ℕ). filled (values_from 0 l (clear_body (r s) part)) room) (widths-in s (type_of s frame) (laid_out s (entry_in s frame)) (layout-some s (type_of s frame) (is_carried s frame whole)))
          ∙ ap (λ (l : List ℕ). filled l room)
          (values-told ws (clear_body (r s) part) (clear-tiled s frame whole (r s)) (widths-allowed s (type_of s frame) (is_carried s frame whole)))
          ∙ filled-enough (told ws bs) room (omega (arith, length-told ws bs, enough))
          ∙ ap (λ (n : ℕ). told ws bs ++ drop n room) (length-told ws bs)

      pub accepts : checksum_right (r s) part ≡ true
          → (accepted_reading s frame ≡ reading_by r (Some s) frame room)
          × (told_to true (laid_out s (entry_in s frame)) (clear_body (r s) part) room ≡ room_after_by r (Some s) frame room)
      accepts same =
          let told = accepted-with r s frame room (none-fails r s frame room whole enough same) in (told.0, told-room ∙ told.1)
