-- A frame put together of what stands ahead of the type byte and what lies from there to the checksum.
-- Assumes nothing.
use Prim.Native.Nat.{ℕ, ◌+◌, ◌-◌, ◌*◌, ◌≤◌}
use native.Mathlib.Omega.{arith}
use mathlib.Core.Path.{◌≡◌, sym, ◌∙◌, ap, ap₂}
use mathlib.Core.Bool.{true}
use mathlib.Core.List.{List, [], ◌++◌, append-nil}
use lib.ListN.{length, take, drop, length-append, length-drop, drop_of_length-le}
use lib.Seq.{take_all, take_at, drop_at, length-take-le}
use Rattle.bits.specs.Bits.{packed}
use Rattle.scrambler.specs.Scrambler.{Register}
use Rattle.satellites.specs.declared.Satellite.{Satellite}
use Rattle.satellites.specs.Satellites.{address_of, type_byte_at}
use Rattle.layouts.specs.Layouts.{total, carries, entry_of}
use Rattle.layouts.proofs.Entries.{tiles-body, widths-allowed}
use Rattle.bodies.specs.Bodies.{tiled, laid_from}
use Rattle.bodies.proofs.Laws.{laid-tiled}
use Rattle.frames.specs.Frames.{ahead, type_byte, sealed, body_of, frame_of, frame_length, body_in}
use Rattle.frames.proofs.Preambles.{length-ahead}
use Rattle.frames.proofs.Parts.{length-body}
use Rattle.frames.proofs.Sizes.{three-least}
use Rattle.fronts.specs.Fronts.{front_after}
use Rattle.fronts.proofs.Filled.{front-filled}

-- a part with its first bytes put over it, and what is lent of it behind them
abbrev over : ℕ → List ℕ → List ℕ → List ℕ
over at part front = front ++ drop (at - 0) part

abbrev rest : ℕ → List ℕ → List ℕ → List ℕ
rest at part front = take (length (over at part front) - at) (drop at (over at part front))

module _ (s : Satellite) (t : ℕ) (carried : carries s t ≡ true) where
  -- values laid into any body of the type's length
  laid-body : (values body : List ℕ) → length body + 3 ≡ (entry_of s t).size
      → laid_from 0 (entry_of s t).widths values body ≡ body_of (entry_of s t) values
  laid-body values body long =
      let tiles : total (entry_of s t).widths ≡ 8 * length body = omega (arith, tiles-body s t carried, long) in
      let bytes : length body ≡ (entry_of s t).size - 3 = omega (arith, long) in
      laid-tiled (entry_of s t).widths values body tiles (widths-allowed s t carried)
      ∙ ap (λ (n : ℕ). packed n (tiled (entry_of s t).widths values)) bytes

  -- the first part, written where it is lent, and put over a part of the frame's length
  module _ (at : ℕ) (part front : List ℕ) (its : at ≡ type_byte_at s) (long : length part ≡ frame_length s t)
      (first : front ≡ front_after s (entry_of s t).size (take (at - 0) part)) where
    is-ahead : front ≡ ahead s (entry_of s t).size
    is-ahead =
        let lent : length (take (at - 0) part) ≡ type_byte_at s =
        length-take-le (at - 0) part (omega (arith, its, long)) ∙ omega (arith, its) in
        first ∙ front-filled s (entry_of s t).size (take (at - 0) part) lent

    front_length : length front ≡ at
    front_length = ap length is-ahead ∙ length-ahead s (entry_of s t).size ∙ sym its

    dropped : drop at (over at part front) ≡ drop (at - 0) part
    dropped = drop_at front (drop (at - 0) part) at front_length

    dropped-length : length (drop (at - 0) part) ≡ (entry_of s t).size
    dropped-length = length-drop (at - 0) part ∙ omega (arith, long, its)

    over-length : length (over at part front) - at ≡ (entry_of s t).size
    over-length = omega (arith, length-append front (drop (at - 0) part), front_length, dropped-length)

    rest-length : length (rest at part front) ≡ (entry_of s t).size
    rest-length =
        ap length (ap₂ take over-length dropped ∙ take_all (entry_of s t).size (drop (at - 0) part) (omega (arith, dropped-length)))
        ∙ dropped-length

    pub rest-least : 3 ≤ length (rest at part front)
    rest-least = omega (arith, rest-length, three-least s t carried)

    none-behind : drop (length (over at part front) - at) (drop at (over at part front)) ≡ []
    none-behind =
        ap₂ drop over-length dropped
        ∙ drop_of_length-le (drop (at - 0) part) {i = (entry_of s t).size} (omega (arith, dropped-length))

    -- and the second behind it
    pub assembled : (r : Register) (values back : List ℕ) {address : ℕ} {widths : List ℕ} → address ≡ address_of s
        → widths ≡ (entry_of s t).widths
        → back ≡ sealed r (t * 16 + address) (laid_from 0 widths values (body_in (rest at part front)))
        → take at (over at part front) ++ (back ++ drop (length (over at part front) - at) (drop at (over at part front)))
        ≡ frame_of r s t values
    unfolding frame_of
    assembled r values back address widths second =
        let behind = body_in (rest at part front) in
        let body = laid-body values behind (length-body (rest at part front) rest-least ∙ rest-length) in
        ap₂ ◌++◌ (take_at front (drop (at - 0) part) at front_length ∙ is-ahead)
        (ap₂ ◌++◌
        (second
        ∙ ap₂ (λ (a : ℕ) (ws : List ℕ). sealed r (t * 16 + a) (laid_from 0 ws values behind)) address widths
        ∙ ap (sealed r (type_byte s t)) body)
        none-behind
        ∙ append-nil (sealed r (type_byte s t) (body_of (entry_of s t) values)))
