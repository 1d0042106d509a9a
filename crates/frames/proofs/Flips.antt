-- The bits of whole frames whose values differ: which of them flip depends on which of the body's bits do alone, and none
-- ahead of an edited field flips.
-- Assumes nothing.
use Prim.Native.Nat.{ℕ, suc, ◌+◌, ◌-◌, ◌*◌, ◌<◌}
use native.Mathlib.Omega.{arith}
use mathlib.Core.Path.{◌≡◌, sym, ◌∙◌, ap, ap₂}
use mathlib.Core.Bool.{Bool, true, false, cond}
use mathlib.Core.List.{List, [], ◌∷◌, ◌++◌, append_assoc}
use lib.ListN.{length, get_or, take, set, replicate, length-append}
use lib.Seq.{take-append-add, take-append-le}
use Rattle.bits.specs.Bits.{◌⊞◌, bits, bits_of, in_bytes}
use Rattle.bits.proofs.Numbers.{length-bits}
use Rattle.bits.proofs.Bytes.{length-bits_of, length-packed, bits_of-append, bits_of-packed, bits_of-in_bytes}
use Rattle.bits.proofs.Xor.{⊞-append, ⊞-still}
use Rattle.checksum.specs.Checksum.{after, checksum}
use Rattle.checksum.proofs.Division.{checksum-difference}
use Rattle.scrambler.specs.declared.Direction.TheVariants.{Scramble}
use Rattle.scrambler.specs.Scrambler.{Register, through, allowed, part_answer}
use Rattle.scrambler.proofs.Parts.{length-answer, answer-ahead, answer-difference}
use Rattle.satellites.specs.declared.Satellite.{Satellite}
use Rattle.satellites.specs.Satellites.{type_byte_at}
use Rattle.layouts.specs.Layouts.{total, width_at, start_at, carries, entry_of}
use Rattle.layouts.proofs.Places.{ends-inside}
use Rattle.bodies.specs.Bodies.{tiled}
use Rattle.bodies.proofs.Laws.{length-tiled}
use Rattle.bodies.proofs.Changes.{tiled-ahead, tiled-flips}
use Rattle.frames.specs.Frames.{ahead, type_byte, sealed, body_of, frame_of}
use Rattle.frames.proofs.Preambles.{length-ahead}
use Rattle.frames.proofs.Sizes.{size-least}

-- the bits that flip as a body is sent, and in the checksum, where `flips` are those of the body
abbrev pub sent_flips : Register → List Bool → List Bool
sent_flips r flips = cond (allowed r) (through Scramble r.near r.far [] flips) flips

abbrev pub sum_flips : List Bool → List Bool
sum_flips flips = after (bits 16 0) (replicate 8 false ++ flips)

module _ (r : Register) (s : Satellite) (t : ℕ) (carried : carries s t ≡ true) where
  abbrev ws : List ℕ
  ws = (entry_of s t).widths

  abbrev typed : ℕ
  typed = type_byte s t

  abbrev body : List ℕ → List ℕ
  body values = body_of (entry_of s t) values

  -- all that is ahead of the body
  abbrev front : List ℕ
  front = ahead s (entry_of s t).size ++ (typed ∷ [])

  abbrev sent : List ℕ → List Bool
  sent values = bits_of (part_answer Scramble r (body values))

  abbrev sum : List ℕ → List Bool
  sum values = bits 16 (checksum (typed ∷ body values))

  front_length : length (bits_of front) ≡ 8 * (type_byte_at s + 1)
  front_length =
      length-bits_of front
      ∙ ap (λ (n : ℕ). 8 * n)
      (length-append (ahead s (entry_of s t).size) (typed ∷ []) ∙ ap (λ (n : ℕ). n + 1) (length-ahead s (entry_of s t).size))

  body-length : (a : List ℕ) → length (body a) ≡ (entry_of s t).size - 3
  body-length a = length-packed ((entry_of s t).size - 3) (tiled ws a)

  same_length : (a b : List ℕ) → length (body a) ≡ length (body b)
  same_length a b = body-length a ∙ sym (body-length b)

  body-bits : (a : List ℕ) → bits_of (body a) ≡ tiled ws a
  body-bits a = bits_of-packed ((entry_of s t).size - 3) (tiled ws a) (length-tiled ws a ∙ sym (size-least s t carried))

  sent-length : (a : List ℕ) → length (sent a) ≡ total ws
  sent-length a =
      length-bits_of (part_answer Scramble r (body a))
      ∙ ap (λ (n : ℕ). 8 * n) (length-answer Scramble r (body a) ∙ body-length a)
      ∙ size-least s t carried

  -- a frame's bits: what is ahead of the body, the body as sent, the checksum
  frame-bits : (a : List ℕ) → bits_of (frame_of r s t a) ≡ bits_of front ++ (sent a ++ sum a)
  unfolding frame_of sealed
  frame-bits a =
      let scrambled = part_answer Scramble r (body a) in
      let last = in_bytes 2 (checksum (typed ∷ body a)) in
      ap bits_of (sym (append_assoc (ahead s (entry_of s t).size) (typed ∷ []) (scrambled ++ last)))
      ∙ bits_of-append front (scrambled ++ last)
      ∙ ap (λ (l : List Bool). bits_of front ++ l)
      (bits_of-append scrambled last ∙ ap (λ (l : List Bool). sent a ++ l) (bits_of-in_bytes 2 (checksum (typed ∷ body a))))

  -- ---- which bits flip

  body-flips : (a b : List ℕ) → bits_of (body a) ⊞ bits_of (body b) ≡ tiled ws a ⊞ tiled ws b
  body-flips a b = ap₂ ◌⊞◌ (body-bits a) (body-bits b)

  sent-difference : (a b : List ℕ) → sent a ⊞ sent b ≡ sent_flips r (tiled ws a ⊞ tiled ws b)
  sent-difference a b = answer-difference Scramble r (body a) (body b) (same_length a b) ∙ ap (sent_flips r) (body-flips a b)

  covered-difference : (a b : List ℕ) → bits_of (typed ∷ body a) ⊞ bits_of (typed ∷ body b) ≡ replicate 8 false ++ (tiled ws a ⊞ tiled ws b)
  unfolding bits_of
  covered-difference a b =
      ⊞-still 8 (bits 8 typed) (bits_of (body a)) (bits_of (body b)) (length-bits 8 typed)
      ∙ ap (λ (l : List Bool). replicate 8 false ++ l) (body-flips a b)

  sum-difference : (a b : List ℕ) → sum a ⊞ sum b ≡ sum_flips (tiled ws a ⊞ tiled ws b)
  sum-difference a b =
      checksum-difference (typed ∷ body a) (typed ∷ body b) (ap suc (same_length a b))
      ∙ ap (after (bits 16 0)) (covered-difference a b)

  -- the difference of two frames of one type is a function of the difference of their bodies: none ahead of the body
  pub frame-difference : (a b : List ℕ)
      → bits_of (frame_of r s t a) ⊞ bits_of (frame_of r s t b)
      ≡ replicate (8 * (type_byte_at s + 1)) false ++ (sent_flips r (tiled ws a ⊞ tiled ws b) ++ sum_flips (tiled ws a ⊞ tiled ws b))
  frame-difference a b =
      ap₂ ◌⊞◌ (frame-bits a) (frame-bits b)
      ∙ ⊞-still (8 * (type_byte_at s + 1)) (bits_of front) (sent a ++ sum a) (sent b ++ sum b) front_length
      ∙ ap (λ (l : List Bool). replicate (8 * (type_byte_at s + 1)) false ++ l)
      (⊞-append (sent a) (sent b) (sum a) (sum b) (sent-length a ∙ sym (sent-length b))
      ∙ ap₂ ◌++◌ (sent-difference a b) (sum-difference a b))

  -- where the bodies of two pairs differ alike, the frames do
  pub frame-flips : (a b c d : List ℕ) → tiled ws a ⊞ tiled ws b ≡ tiled ws c ⊞ tiled ws d
      → bits_of (frame_of r s t a) ⊞ bits_of (frame_of r s t b) ≡ bits_of (frame_of r s t c) ⊞ bits_of (frame_of r s t d)
  frame-flips a b c d e =
      frame-difference a b
      ∙ ap (λ (l : List Bool). replicate (8 * (type_byte_at s + 1)) false ++ (sent_flips r l ++ sum_flips l)) e
      ∙ sym (frame-difference c d)

  -- ---- one field edited

  -- the bits that an edit flips depend on the field's own flips alone, whatever the frame carries
  pub edited-flips : (a c : List ℕ) (k v u : ℕ) → length a ≡ length ws → length c ≡ length ws → k < length ws
      → bits (width_at ws k) (get_or a k 0) ⊞ bits (width_at ws k) v ≡ bits (width_at ws k) (get_or c k 0) ⊞ bits (width_at ws k) u
      → bits_of (frame_of r s t a) ⊞ bits_of (frame_of r s t (set a k v)) ≡ bits_of (frame_of r s t c) ⊞ bits_of (frame_of r s t (set c k u))
  edited-flips a c k v u many-a many-c inside e =
      frame-flips a (set a k v) c (set c k u)
      (tiled-flips ws a k v inside (omega (arith, many-a, inside))
      ∙ ap (λ (l : List Bool). replicate (start_at ws k) false ++ (l ++ replicate (total ws - (start_at ws k + width_at ws k)) false)) e
      ∙ sym (tiled-flips ws c k u inside (omega (arith, many-c, inside))))

  -- a frame's bits up to a field
  up_to : (a : List ℕ) (k : ℕ) → k < length ws
      → take (8 * (type_byte_at s + 1) + start_at ws k) (bits_of (frame_of r s t a)) ≡ bits_of front ++ take (start_at ws k) (sent a)
  up_to a k inside =
      ap₂ (λ (n : ℕ) (l : List Bool). take (n + start_at ws k) l) (sym front_length) (frame-bits a)
      ∙ take-append-add (bits_of front) (sent a ++ sum a) (start_at ws k)
      ∙ ap (λ (l : List Bool). bits_of front ++ l)
      (take-append-le (start_at ws k) (sent a) (sum a) (omega (arith, sent-length a, ends-inside ws k inside)))

  -- an edit flips no bit ahead of its field
  pub edited-ahead : (a : List ℕ) (k v : ℕ) → k < length ws
      → take (8 * (type_byte_at s + 1) + start_at ws k) (bits_of (frame_of r s t (set a k v)))
      ≡ take (8 * (type_byte_at s + 1) + start_at ws k) (bits_of (frame_of r s t a))
  edited-ahead a k v inside =
      let at = start_at ws k in
      let same : take at (bits_of (body (set a k v))) ≡ take at (bits_of (body a)) =
      ap (take at) (body-bits (set a k v)) ∙ tiled-ahead ws a k v ∙ sym (ap (take at) (body-bits a)) in
      up_to (set a k v) k inside
      ∙ ap (λ (l : List Bool). bits_of front ++ l) (answer-ahead Scramble r at (body (set a k v)) (body a) same)
      ∙ sym (up_to a k inside)
