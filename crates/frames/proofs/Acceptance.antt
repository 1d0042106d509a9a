-- A frame that is accepted, whatever room its values are given: it is whole and its checksum is right; and a frame whose parts are
-- right is accepted.
-- Assumes nothing.
use Prim.Native.Nat.{ℕ, ◌/◌, ◌%◌}
use native.Mathlib.Omega.{arith}
use mathlib.Core.Path.{◌≡◌, sym, ◌∙◌, ap}
use mathlib.Core.Bool.{true}
use mathlib.Core.List.{List, []}
use lib.Dec.{eqb}
use lib.ListN.{length, get_or, take, drop}
use borrow.Author.Tests.{eq-eqb, eqb-true}
use Rattle.checksum.specs.Checksum.{checksum}
use Rattle.scrambler.specs.Scrambler.{Register}
use Rattle.satellites.specs.declared.Satellite.{Satellite}
use Rattle.satellites.specs.Satellites.{address_of, training_of, size_byte_of, type_byte_at}
use Rattle.layouts.specs.Layouts.{carries, entry_of}
use Rattle.refusals.specs.Tests.{refusal, holding}
use Rattle.refusals.proofs.Tests.{goes, none_left, numbered, holds-numbered, behind-held, ahead-held}
use Rattle.refusals.proofs.Says.{below, equal, same_bytes, both, only-where}
use Rattle.frames.specs.Frames.{size_in, training, sync, frame_length, from_type_byte, checksum_in, clear, type_of, entry_in}
use Rattle.frames.specs.Reading.{front_tests, whole_tests, checksum_right, frame_tests, accepted_by}
use Rattle.frames.proofs.Fronts as fronts
use Rattle.frames.proofs.Sizes.{three-least}

module _ (r : Register) (s : Satellite) (frame : List ℕ) where
  abbrev part : List ℕ
  part = from_type_byte s frame

  -- tests 2 to 7 and 9 are 2 to 7, and 9
  pub whole-right : refusal (whole_tests s frame) ≡ 0 → checksum_right r part ≡ true → accepted_by r s frame ≡ true
  unfolding frame_tests
  whole-right whole right =
      eq-eqb (refusal (frame_tests r s frame)) 0
      (behind-held (whole_tests s frame) _ (fronts.whole-numbered s frame) whole
      ∙ goes 9 _ [] right
      ∙ none_left)

  module _ (accepted : accepted_by r s frame ≡ true) where
    none-failed : refusal (frame_tests r s frame) ≡ 0
    none-failed = eqb-true (refusal (frame_tests r s frame)) 0 accepted

    pub was-whole : refusal (whole_tests s frame) ≡ 0
    unfolding frame_tests
    was-whole = ahead-held (whole_tests s frame) _ none-failed

    pub was-right : checksum_right r part ≡ true
    unfolding frame_tests whole_tests front_tests numbered holding
    was-right = holds-numbered (frame_tests r s frame) tt none-failed 9

  -- a frame whose parts are right
  module _ (t : ℕ) (carried : carries s t ≡ true)
      (trained : take (training_of s) frame ≡ training s)
      (synced : take 2 (drop (training_of s) frame) ≡ sync)
      (address : get_or frame (type_byte_at s) 0 % 16 ≡ address_of s)
      (high : get_or frame (type_byte_at s) 0 / 16 ≡ t)
      (sized : size_byte_of s ≡ true → size_in s frame ≡ (entry_of s t).size)
      (long : length frame ≡ frame_length s t)
      (right : checksum_in part ≡ checksum (clear r part)) where
    pub its-type : type_of s frame ≡ t
    its-type = ap (λ (x : ℕ). x / 16) (fronts.first-at (type_byte_at s) frame) ∙ high

    front : refusal (front_tests s frame) ≡ 0
    front =
        fronts.none-fails s frame
        ((below (type_byte_at s) (length frame)).1 (omega (arith, long, three-least s t carried)))
        ((both (same_bytes (take (training_of s) frame) (training s)) (same_bytes (take 2 (drop (training_of s) frame)) sync)).1
        (trained, synced))
        ((equal (get_or part 0 0 % 16) (address_of s)).1 (ap (λ (x : ℕ). x % 16) (fronts.first-at (type_byte_at s) frame) ∙ address))
        (ap (carries s) its-type ∙ carried)
        ((only-where (size_byte_of s) (eqb (size_in s frame) (entry_in s frame).size)
        (equal (size_in s frame) (entry_in s frame).size)).1
        (λ has. sized has ∙ sym (ap (λ (u : ℕ). (entry_of s u).size) its-type)))

    whole : refusal (whole_tests s frame) ≡ 0
    whole =
        fronts.whole-holds s frame front
        (long ∙ ap (frame_length s) (sym its-type))

    pub parts-right : accepted_by r s frame ≡ true
    parts-right = whole-right whole ((equal (checksum_in part) (checksum (clear r part))).1 right)
