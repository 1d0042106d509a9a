-- Tests 2 to 7: where none of them fails, other tests behind them, and what lies from type byte to checksum of a frame that they accept.
-- Assumes nothing.
use Prim.Native.Nat.{ℕ, ◌+◌, ◌*◌, ◌%◌, ◌≤◌, ◌<◌}
use native.Mathlib.Omega.{arith}
use mathlib.Core.Path.{◌≡◌, refl, sym, ◌∙◌, ap}
use mathlib.Core.Logic.{◌≢◌}
use mathlib.Core.Bool.{Bool, true, not, ◌||◌}
use mathlib.Core.List.{List, [], ◌∷◌, ◌++◌}
use borrow.Author.Tests.{eq-eqb, eqb-true, ltb-true}
use lib.Dec.{eqb, ltb}
use native.Mathlib.Nat.{add-zero}
use lib.Seq.{get_or-drop}
use lib.ListN.{length, get_or, take, drop, length-drop}
use Rattle.scrambler.specs.Scrambler.{Register}
use Rattle.scrambler.specs.declared.Direction.TheVariants.{Unscramble}
use Rattle.scrambler.proofs.Parts.{length-answer}
use Rattle.satellites.specs.declared.Satellite.{Satellite}
use Rattle.satellites.specs.Satellites.{address_of, training_of, size_byte_of, type_byte_at}
use Rattle.layouts.specs.Layouts.{total, carries}
use Rattle.layouts.proofs.Entries.{tiles-body}
use Rattle.refusals.specs.Tests.{Test, test, refusal, holding, Iff}
use Rattle.frames.specs.Frames.{training, sync, ahead, type_byte, frame_length}
use Rattle.frames.specs.Frames.{size_in, from_type_byte, address_in, body_in, clear_body, type_of, entry_in}
use Rattle.frames.specs.Reading.{preambled, front_tests, whole_tests}
use Rattle.refusals.proofs.Tests.{goes, none_left, numbered, Numbered, holds-numbered, behind-held, behind-failed, ahead-held}
use Rattle.refusals.proofs.Says.{equal, same_bytes, both, only-where}
use Rattle.frames.proofs.Parts.{length-body}
use Rattle.frames.proofs.Preambles.{is-ahead}
use Rattle.frames.proofs.Sizes.{three-least}

-- the byte at a place, and the first of those from there on
pub first-at : (n : ℕ) (l : List ℕ) → get_or (drop n l) 0 0 ≡ get_or l n 0
first-at n l = get_or-drop n l 0 0 ∙ ap (λ (k : ℕ). get_or l k 0) (add-zero n)

module _ (s : Satellite) (frame : List ℕ) where
  -- the tests, one by one
  abbrev pub long : Bool
  long = ltb (type_byte_at s) (length frame)

  abbrev pub preamble : Bool
  preamble = preambled s frame

  abbrev pub addressed : Bool
  addressed = eqb (address_in (from_type_byte s frame)) (address_of s)

  abbrev pub carried : Bool
  carried = carries s (type_of s frame)

  abbrev pub sized : Bool
  sized = not (size_byte_of s) || eqb (size_in s frame) (entry_in s frame).size

  -- tests 2 to 6
  pub none-fails : long ≡ true → preamble ≡ true → addressed ≡ true → carried ≡ true → sized ≡ true → refusal (front_tests s frame) ≡ 0
  unfolding front_tests
  none-fails a b c d e = goes 2 long _ a ∙ goes 3 preamble _ b ∙ goes 4 addressed _ c ∙ goes 5 carried _ d ∙ goes 6 sized [] e ∙ none_left

  pub front-numbered : Numbered (front_tests s frame)
  unfolding front_tests numbered
  front-numbered = tt

  -- test 7, behind them
  module _ (front : refusal (front_tests s frame) ≡ 0) where
    pub whole-holds : length frame ≡ frame_length s (type_of s frame) → refusal (whole_tests s frame) ≡ 0
    unfolding whole_tests
    whole-holds as_long =
        behind-held (front_tests s frame) _ front-numbered front
        ∙ goes 7 _ [] (eq-eqb (length frame) (frame_length s (type_of s frame)) as_long)
        ∙ none_left

  pub whole-numbered : Numbered (whole_tests s frame)
  unfolding whole_tests front_tests numbered
  whole-numbered = tt

  -- other tests behind these, of a satellite that is named
  module _ (us : List Test) where
    abbrev named : List Test
    named = test 1 true ∷ (whole_tests s frame ++ us)

    pub whole-fails : (n : ℕ) → refusal (whole_tests s frame) ≡ n → n ≢ 0 → refusal named ≡ n
    whole-fails n e some = goes 1 true _ refl ∙ behind-failed (whole_tests s frame) us (λ z. some (sym e ∙ z)) ∙ e

    pub whole-passes : refusal (whole_tests s frame) ≡ 0 → refusal named ≡ refusal us
    whole-passes e =
        goes 1 true _ refl ∙ behind-held (whole_tests s frame) us whole-numbered e

    pub was-whole : refusal named ≡ 0 → refusal (whole_tests s frame) ≡ 0
    was-whole e = ahead-held (whole_tests s frame) us (sym (goes 1 true _ refl) ∙ e)

  right-preamble : Iff preamble ((take (training_of s) frame ≡ training s) × (take 2 (drop (training_of s) frame) ≡ sync))
  right-preamble = both (same_bytes (take (training_of s) frame) (training s)) (same_bytes (take 2 (drop (training_of s) frame)) sync)

  -- where none of them fails
  module _ (whole : refusal (whole_tests s frame) ≡ 0) where
    -- each of them by its number
    holds : (k : ℕ) → holding k (whole_tests s frame) ≡ true
    holds = holds-numbered (whole_tests s frame) whole-numbered whole

    pub is-long : type_byte_at s < length frame
    unfolding whole_tests front_tests holding
    is-long = ltb-true (type_byte_at s) (length frame) (holds 2)

    pub is_carried : carries s (type_of s frame) ≡ true
    unfolding whole_tests front_tests holding
    is_carried = holds 5

    pub is_whole : length frame ≡ frame_length s (type_of s frame)
    unfolding whole_tests front_tests holding
    is_whole = eqb-true (length frame) (frame_length s (type_of s frame)) (holds 7)

    pub is-trained : take (training_of s) frame ≡ training s
    unfolding whole_tests front_tests holding
    is-trained = (right-preamble.0 (holds 3)).0

    pub is-synced : take 2 (drop (training_of s) frame) ≡ sync
    unfolding whole_tests front_tests holding
    is-synced = (right-preamble.0 (holds 3)).1

    pub is-sized : size_byte_of s ≡ true → size_in s frame ≡ (entry_in s frame).size
    unfolding whole_tests front_tests holding
    is-sized =
        (only-where (size_byte_of s) (eqb (size_in s frame) (entry_in s frame).size)
        (equal (size_in s frame) (entry_in s frame).size)).0 (holds 6)

    pub is-addressed : get_or (from_type_byte s frame) 0 0 % 16 ≡ address_of s
    unfolding whole_tests front_tests holding
    is-addressed = eqb-true (get_or (from_type_byte s frame) 0 0 % 16) (address_of s) (holds 4)

    -- type and address are the type byte
    pub is-typed : get_or (from_type_byte s frame) 0 0 ≡ type_byte s (type_of s frame)
    is-typed = omega (arith, is-addressed)

    abbrev part : List ℕ
    part = from_type_byte s frame

    pub part_length : length part ≡ (entry_in s frame).size
    part_length = length-drop (type_byte_at s) frame ∙ omega (arith, is_whole)

    pub part-least : 3 ≤ length part
    part-least = omega (arith, part_length, three-least s (type_of s frame) is_carried)

    -- what stands ahead of it
    pub front-is : take (type_byte_at s) frame ≡ ahead s (entry_in s frame).size
    front-is = is-ahead s (entry_in s frame).size frame is-trained is-synced is-sized (omega (arith, is-long))

    -- the unscrambled body, which the fields tile
    module _ (r : Register) where
      pub clear-length : length (clear_body r part) + 3 ≡ (entry_in s frame).size
      unfolding clear_body
      clear-length =
          ap (λ (n : ℕ). n + 3) (length-answer Unscramble r (body_in part)) ∙ length-body part part-least ∙ part_length

      pub clear-tiled : total (entry_in s frame).widths ≡ 8 * length (clear_body r part)
      clear-tiled = omega (arith, tiles-body s (type_of s frame) is_carried, clear-length)
