-- Sealing and opening undo each other: a sealed part opens as type byte and body, and what opened with the right checksum
-- seals as the same bits.
-- Assumes nothing.
use Prim.Native.Nat.{ℕ, zero, suc, ◌+◌, ◌-◌, ◌*◌, ◌^◌, ◌≤◌, ◌<◌}
use native.Mathlib.Nat.{mod-eq_of_lt}
use native.Mathlib.Omega.{arith}
use mathlib.Core.Path.{◌≡◌, refl, sym, ◌∙◌, ap, ap₂, subst}
use mathlib.Core.Bool.{Bool}
use mathlib.Core.List.{List, [], ◌∷◌, ◌++◌}
use lib.ListN.{length, get_or, take, drop, length-drop, take-append-drop}
use lib.Seq.{take_at, drop_at}
use Rattle.bits.specs.Bits.{bits, number, bits_of, in_bytes, Bytes}
use Rattle.bits.proofs.Numbers.{length-bits, number-bits, number_lt, bits-of}
use Rattle.bits.proofs.Bytes.{length-bits_of, bits_of-append, bits_of-packed, bits_of-in_bytes, packed-bytes, append-bytes}
use Rattle.checksum.specs.Checksum.{start, after, checksum}
use Rattle.checksum.proofs.Division.{length-after}
use Rattle.scrambler.specs.declared.Direction.TheVariants.{Scramble, Unscramble}
use Rattle.scrambler.specs.Scrambler.{Register, part_answer}
use Rattle.scrambler.proofs.Parts.{length-answer, bytes-answer, answer-bits, answer-inverse, bits-inverse}
use Rattle.frames.specs.Frames.{sealed, covered, checksum_in, clear_body, clear}
use Rattle.frames.proofs.Parts.{body_is, sum_is, length-sealed}

-- a checksum is what its two bytes say
checksum-lt : (xs : List ℕ) → checksum xs < 2 ^ 16
unfolding checksum
checksum-lt xs =
    let register = after (bits 16 start) (bits_of xs) in
    let wide : length register ≡ 16 = length-after (bits 16 start) (bits_of xs) (length-bits 16 start) in
    subst (λ (n : ℕ). number register < 2 ^ n) wide (number_lt register)

said : (v : ℕ) → v < 2 ^ 16 → number (bits_of (in_bytes 2 v)) ≡ v
said v small = ap number (bits_of-packed 2 (bits 16 v) (length-bits 16 v)) ∙ number-bits 16 v ∙ mod-eq_of_lt small

-- and the bits of two bytes are those of what they say
two-again : (l : List ℕ) → length l ≡ 2 → bits_of (in_bytes 2 (number (bits_of l))) ≡ bits_of l
two-again l two = bits_of-in_bytes 2 (number (bits_of l)) ∙ bits-of 16 (bits_of l) (length-bits_of l ∙ ap (λ (n : ℕ). 8 * n) two)

module _ (r : Register) where
  module _ (x : ℕ) (body : List ℕ) where
    abbrev part : List ℕ
    part = sealed r x body

    abbrev sent : List ℕ
    sent = x ∷ part_answer Scramble r body

    abbrev sum : List ℕ
    sum = in_bytes 2 (checksum (x ∷ body))

    split : part ≡ sent ++ sum
    unfolding sealed
    split = refl

    sent-length : length sent ≡ length part - 2
    sent-length = omega (arith, ap suc (length-answer Scramble r body), length-sealed r x body)

    sealed-covered : covered part ≡ sent
    sealed-covered = ap (take (length part - 2)) split ∙ take_at sent sum (length part - 2) sent-length

    pub sealed-checksum : checksum_in part ≡ checksum (x ∷ body)
    sealed-checksum =
        ap (λ (l : List ℕ). number (bits_of l)) (ap (drop (length part - 2)) split ∙ drop_at sent sum (length part - 2) sent-length)
        ∙ said (checksum (x ∷ body)) (checksum-lt (x ∷ body))

    pub sealed-first : get_or part 0 0 ≡ x
    sealed-first = ap (λ (l : List ℕ). get_or l 0 0) split

    pub sealed-clear : Bytes body → clear_body r part ≡ body
    unfolding clear_body
    sealed-clear b = ap (λ (l : List ℕ). part_answer Unscramble r (drop 1 l)) sealed-covered ∙ answer-inverse Scramble r body b

  -- the bits of a sealed part depend on the body's bits alone
  pub sealed-bits : (x : ℕ) (a b : List ℕ) → bits_of a ≡ bits_of b → bits_of (sealed r x a) ≡ bits_of (sealed r x b)
  unfolding sealed bits_of checksum
  sealed-bits x a b same =
      let sum : List Bool → List ℕ = λ (l : List Bool). in_bytes 2 (number (after (bits 16 start) (bits 8 x ++ l))) in
      ap (λ (l : List Bool). bits 8 x ++ l)
      (bits_of-append (part_answer Scramble r a) (sum (bits_of a))
      ∙ ap₂ ◌++◌ (answer-bits Scramble r a b same) (ap (λ (l : List Bool). bits_of (sum l)) same)
      ∙ sym (bits_of-append (part_answer Scramble r b) (sum (bits_of b))))

  pub sealed-bytes : (x : ℕ) (body : List ℕ) → x < 256 → Bytes body → Bytes (sealed r x body)
  unfolding sealed
  sealed-bytes x body small b zero = small
  sealed-bytes x body small b (suc i) =
      append-bytes (part_answer Scramble r body) (in_bytes 2 (checksum (x ∷ body))) (bytes-answer Scramble r body b)
      (packed-bytes 2 (bits 16 (checksum (x ∷ body)))) i

  pub clear-sealed : (part : List ℕ) → 3 ≤ length part → checksum_in part ≡ checksum (clear r part)
      → bits_of (sealed r (get_or part 0 0) (clear_body r part)) ≡ bits_of part
  unfolding sealed clear_body bits_of
  clear-sealed [] h right = absurd (omega arith)
  clear-sealed (x ∷ xs) h right =
      let m = length xs - 2 in
      let long : length xs ≡ m + 2 = omega arith in
      let n = length (x ∷ xs) - 2 in
      let body = drop 1 (take n (x ∷ xs)) in
      let clear-body = part_answer Unscramble r body in
      let last = drop n (x ∷ xs) in
      ap (λ (l : List Bool). bits 8 x ++ l)
      (bits_of-append (part_answer Scramble r clear-body) (in_bytes 2 (checksum (x ∷ clear-body)))
      ∙ ap₂ ◌++◌ (bits-inverse Unscramble r body)
      (ap (λ (sum : ℕ). bits_of (in_bytes 2 sum)) (sym right) ∙ two-again last (length-drop n (x ∷ xs) ∙ omega arith))
      ∙ sym (bits_of-append body last)
      ∙ ap bits_of (ap₂ ◌++◌ (body_is x xs m long) (sum_is x xs m long) ∙ take-append-drop m xs))
