-- What callers of `open` and `seal` go by: what these answer and leave of a part, in the words of `frames`.
-- Assumes nothing.
use Prim.Native.Nat.{ℕ, suc, ◌+◌, ◌-◌, ◌≤◌, ◌<◌}
use native.Mathlib.Omega.{arith}
use mathlib.Core.Path.{◌≡◌, sym, ◌∙◌, ap, ap₂}
use mathlib.Core.List.{List, [], ◌∷◌, ◌++◌}
use lib.Dec.{eqb}
use lib.ListN.{length, get_or, take, drop, length-append, length-drop}
use lib.Seq.{take_all, take_at}
use borrow.Author.Tests.{le-leb, lt-leb}
use Rattle.bits.specs.Bits.{number, bits_of, field, field_answer}
use Rattle.bits.proofs.Bytes.{length-bits_of}
use Rattle.bits.proofs.Fields.{is_field_lem}
use Rattle.checksum.specs.Checksum.{checksum}
use Rattle.scrambler.specs.declared.Direction.TheVariants.{Unscramble}
use Rattle.scrambler.specs.Scrambler.{Register, part_answer}
use Rattle.scrambler.proofs.Parts.{length-answer}
use Rattle.frames.specs.Frames.{sealed, body_in, checksum_in, clear_body, clear}
use Rattle.frames.specs.Reading.{checksum_right}
use Rattle.frames.proofs.Parts.{end_is, body_is, body-length}
use Rattle.sealing.specs.Sealing.{opened_front, opened_part, sums_of, sealed_part}

-- the last two bytes, read as a field
last-field : (part : List ℕ) → 2 ≤ length part → field_answer 0 16 (drop (length part - 2) part) ≡ checksum_in part
unfolding field
last-field part h =
    let last = drop (length part - 2) part in
    let two : length last ≡ 2 = length-drop (length part - 2) part ∙ omega arith in
    rw (is_field_lem 0 16 last (omega arith) (omega (arith, two)))
    (ap number (take_all 16 (bits_of last) (rw length-bits_of (omega (arith, two)))))

module _ (r : Register) where
  length-clear : (part : List ℕ) → 3 ≤ length part → length (clear r part) ≡ length part - 2
  unfolding clear_body
  length-clear [] h = absurd (omega arith)
  length-clear (x ∷ xs) h =
      let m = length xs - 2 in
      let long : length xs ≡ m + 2 = omega arith in
      ap suc (length-answer Unscramble r (body_in (x ∷ xs)) ∙ ap length (body_is x xs m long) ∙ body-length x xs m long)
      ∙ sym (end_is x xs m long)

  -- ahead of the checksum: type byte and unscrambled body
  front-clear : (part : List ℕ) → 3 ≤ length part → opened_front r (take (length part - 2) part) ≡ clear r part
  unfolding opened_front clear_body
  front-clear [] h = absurd (omega arith)
  front-clear (x ∷ xs) h =
      let m = length xs - 2 in
      let long : length xs ≡ m + 2 = omega arith in
      ap (λ (k : ℕ). opened_front r (take k (x ∷ xs))) (end_is x xs m long)
      ∙ ap (λ (l : List ℕ). x ∷ part_answer Unscramble r l) (sym (body_is x xs m long))

  pub length-opened : (part : List ℕ) → 3 ≤ length part → length (opened_part r part) ≡ length part
  length-opened part h =
      let sum = drop (length part - 2) part in
      ap (λ (l : List ℕ). length (l ++ sum)) (front-clear part h)
      ∙ length-append (clear r part) sum
      ∙ omega (arith, length-clear part h, length-drop (length part - 2) part, h)

  -- where both sums are the same, and only there, the checksum is right
  pub sums-right : (part : List ℕ) → 3 ≤ length part
      → eqb (sums_of r part).sent (sums_of r part).computed ≡ checksum_right r part
  sums-right part h = ap₂ eqb (last-field part (omega (arith, h))) (ap checksum (front-clear part h))

  -- the unscrambled body
  pub body-told : (part : List ℕ) → 3 ≤ length part → take (length part - 2 - 1) (drop 1 (opened_part r part)) ≡ clear_body r part
  body-told part h =
      let sum = drop (length part - 2) part in
      ap (λ (l : List ℕ). take (length part - 2 - 1) (drop 1 (l ++ sum))) (front-clear part h)
      ∙ take_at (clear_body r part) sum (length part - 2 - 1) (omega (arith, length-clear part h))

  -- its first byte is the type byte still
  pub first-told : (part : List ℕ) → 3 ≤ length part → get_or (opened_part r part) 0 0 ≡ get_or part 0 0
  first-told part h = ap (λ (l : List ℕ). get_or (l ++ drop (length part - 2) part) 0 0) (front-clear part h)

  pub not-sealed : (part : List ℕ) → length part < 3 → sealed_part r part ≡ part
  not-sealed part short = rw (lt-leb 3 (length part) short)

  pub seals : (part : List ℕ) → 3 ≤ length part → sealed_part r part ≡ sealed r (get_or part 0 0) (body_in part)
  seals part h = rw (le-leb 3 (length part) h)
