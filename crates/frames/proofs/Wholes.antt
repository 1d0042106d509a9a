-- Whole frames: one whose parts are right is the frame of its values, and the frame of any values has the right parts.
-- Assumes nothing.
use Prim.Native.Nat.{ℕ, ◌+◌, ◌-◌, ◌*◌, ◌<◌}
use native.Mathlib.Omega.{arith}
use mathlib.Core.Path.{◌≡◌, sym, ◌∙◌, ap, ap₂, subst}
use mathlib.Core.Bool.{Bool, true, cond}
use mathlib.Core.List.{List, [], ◌∷◌, ◌++◌, append_assoc}
use lib.ListN.{length, get_or, take, drop, length-append, length-replicate, get_or-append, take-append-drop}
use lib.Seq.{take_at, drop_at, get_or-append-add}
use borrow.Author.Tests.{eqb-true}
use Rattle.bits.specs.Bits.{bits_of, Bytes}
use Rattle.bits.proofs.Bytes.{length-bits_of, length-packed, bits_of-append, bits_of-packed, packed-bytes, append-bytes, same_bytes}
use Rattle.bits.proofs.Fields.{drop-bytes, take-bytes}
use Rattle.checksum.specs.Checksum.{checksum}
use Rattle.scrambler.specs.Scrambler.{Register}
use Rattle.satellites.specs.declared.Satellite.{Satellite}
use Rattle.satellites.specs.Satellites.{training_of, size_byte_of, type_byte_at}
use Rattle.layouts.specs.Layouts.{total, carries, entry_of}
use Rattle.bodies.specs.Bodies.{told, tiled, fitting}
use Rattle.bodies.proofs.Laws.{length-tiled, told-tiled, tiled-told}
use Rattle.refusals.specs.Tests.{refusal}
use Rattle.frames.specs.Frames.{size_in, training, sync, size_byte, ahead, type_byte, sealed, body_of, frame_of, frame_length}
use Rattle.frames.specs.Frames.{from_type_byte, checksum_in, clear_body, clear, type_of, entry_in, values_of}
use Rattle.frames.specs.Reading.{whole_tests, checksum_right}
use Rattle.frames.proofs.Fronts.{first-at, front-is, is-typed, part-least, clear-length, clear-tiled}
use Rattle.frames.proofs.Preambles.{length-ahead}
use Rattle.frames.proofs.Parts.{length-sealed}
use Rattle.frames.proofs.Sizes.{three-least, size-least}
use Rattle.frames.proofs.Seals.{sealed-checksum, sealed-first, sealed-clear, sealed-bits, sealed-bytes, clear-sealed}

-- ---- a frame whose parts are right

module _ (r : Register) (s : Satellite) (frame : List ℕ) (whole : refusal (whole_tests s frame) ≡ 0)
    (right : checksum_right r (from_type_byte s frame) ≡ true) where
  abbrev part : List ℕ
  part = from_type_byte s frame

  -- the body that its values make
  abbrev made : List ℕ
  made = body_of (entry_in s frame) (values_of r s frame)

  body-again : bits_of made ≡ bits_of (clear_body r part)
  unfolding values_of
  body-again =
      let body = clear_body r part in
      let ws = (entry_in s frame).widths in
      let values = told ws (bits_of body) in
      let size : total ws ≡ 8 * ((entry_in s frame).size - 3) = omega (arith, clear-length s frame whole r, clear-tiled s frame whole r) in
      bits_of-packed ((entry_in s frame).size - 3) (tiled ws values) (length-tiled ws values ∙ size)
      ∙ tiled-told ws (bits_of body) (length-bits_of body ∙ sym (clear-tiled s frame whole r))

  -- written again, its values give its bits
  pub bits-again : bits_of (frame_of r s (type_of s frame) (values_of r s frame)) ≡ bits_of frame
  unfolding frame_of
  bits-again =
      let front = take (type_byte_at s) frame in
      let sum = eqb-true (checksum_in part) (checksum (clear r part)) right in
      ap₂ (λ (f : List ℕ) (x : ℕ). bits_of (f ++ sealed r x made)) (sym (front-is s frame whole)) (sym (is-typed s frame whole))
      ∙ bits_of-append front (sealed r (get_or part 0 0) made)
      ∙ ap (λ (l : List Bool). bits_of front ++ l)
      (sealed-bits r (get_or part 0 0) made (clear_body r part) body-again ∙ clear-sealed r part (part-least s frame whole) sum)
      ∙ sym (bits_of-append front part)
      ∙ ap bits_of (take-append-drop (type_byte_at s) frame)

  -- and its bytes, where it has bytes and nothing else
  pub frame-again : Bytes frame → frame_of r s (type_of s frame) (values_of r s frame) ≡ frame
  unfolding frame_of
  frame-again b =
      let e = entry_in s frame in
      let typed = subst (λ (x : ℕ). x < 256) (is-typed s frame whole) (drop-bytes (type_byte_at s) frame b 0) in
      same_bytes (frame_of r s (type_of s frame) (values_of r s frame)) frame
      (append-bytes (ahead s e.size) (sealed r (type_byte s (type_of s frame)) made)
      (subst Bytes (front-is s frame whole) (take-bytes (type_byte_at s) frame b))
      (sealed-bytes r (type_byte s (type_of s frame)) made typed (packed-bytes (e.size - 3) (tiled e.widths (values_of r s frame)))))
      b bits-again

-- ---- the frame of values that fit

module _ (r : Register) (s : Satellite) (t : ℕ) (carried : carries s t ≡ true) where
  abbrev ws : List ℕ
  ws = (entry_of s t).widths

  abbrev size : ℕ
  size = (entry_of s t).size

  module _ (values : List ℕ) where
    abbrev body : List ℕ
    body = body_of (entry_of s t) values

    abbrev frame : List ℕ
    frame = frame_of r s t values

    abbrev sent : List ℕ
    sent = sealed r (type_byte s t) body

    behind : drop (type_byte_at s) frame ≡ sent
    unfolding frame_of
    behind = drop_at (ahead s size) sent (type_byte_at s) (length-ahead s size)

    sent-length : length sent ≡ size
    sent-length =
        length-sealed r (type_byte s t) body
        ∙ ap (λ (n : ℕ). n + 3) (length-packed (size - 3) (tiled ws values))
        ∙ omega (arith, three-least s t carried)

    pub its-length : length frame ≡ frame_length s t
    unfolding frame_of
    its-length = length-append (ahead s size) sent ∙ ap₂ ◌+◌ (length-ahead s size) sent-length

    pub its-training : take (training_of s) frame ≡ training s
    unfolding frame_of
    its-training =
        ap (take (training_of s)) (append_assoc (training s) (sync ++ size_byte s size) sent)
        ∙ take_at (training s) _ (training_of s) (length-replicate (training_of s) 0xAA)

    pub its-sync : take 2 (drop (training_of s) frame) ≡ sync
    unfolding frame_of
    its-sync =
        ap (λ (l : List ℕ). take 2 (drop (training_of s) l)) (append_assoc (training s) (sync ++ size_byte s size) sent)
        ∙ ap (take 2) (drop_at (training s) _ (training_of s) (length-replicate (training_of s) 0xAA))

    pub its-type-byte : get_or frame (type_byte_at s) 0 ≡ type_byte s t
    its-type-byte = sym (first-at (type_byte_at s) frame) ∙ ap (λ (l : List ℕ). get_or l 0 0) behind ∙ sealed-first r (type_byte s t) body

    pub its-size-byte : size_byte_of s ≡ true → size_in s frame ≡ size
    unfolding frame_of
    its-size-byte has =
        let at : type_byte_at s ≡ training_of s + 2 + 1 = ap (λ (b : Bool). training_of s + 2 + cond b 1 0) has in
        let all : length (training s) ≡ training_of s = length-replicate (training_of s) 0xAA in
        let place : type_byte_at s - 1 ≡ length (training s) + 2 = omega (arith, at, all) in
        ap (λ (k : ℕ). get_or frame k 0) place
        ∙ get_or-append (ahead s size) sent 0 (length (training s) + 2) (omega (arith, length-ahead s size, at, all))
        ∙ ap (λ (b : Bool). get_or (training s ++ (sync ++ cond b (size ∷ []) [])) (length (training s) + 2) 0) has
        ∙ get_or-append-add (training s) (sync ++ (size ∷ [])) 2 0

    clear-again : clear_body r (from_type_byte s frame) ≡ body
    clear-again = ap (clear_body r) behind ∙ sealed-clear r (type_byte s t) body (packed-bytes (size - 3) (tiled ws values))

    pub its-checksum : checksum_in (from_type_byte s frame) ≡ checksum (clear r (from_type_byte s frame))
    its-checksum =
        ap checksum_in behind ∙ sealed-checksum r (type_byte s t) body
        ∙ ap checksum (ap₂ ◌∷◌ (sym (ap (λ (l : List ℕ). get_or l 0 0) behind ∙ sealed-first r (type_byte s t) body)) (sym clear-again))

    pub values-again : length values ≡ length ws → fitting ws values ≡ length ws
        → told ws (bits_of (clear_body r (from_type_byte s frame))) ≡ values
    values-again as_many fit =
        ap (λ (l : List ℕ). told ws (bits_of l)) clear-again
        ∙ ap (told ws) (bits_of-packed (size - 3) (tiled ws values) (length-tiled ws values ∙ sym (size-least s t carried)))
        ∙ told-tiled ws values as_many fit
