-- An accepted frame of type 2 carries ten codes of temperatures: the ten values of the room from the satellite's first temperature
-- on. Each is the 8 bits of the unscrambled body in its place, and so at most 255.
-- Assumes nothing.
use Prim.Native.Nat.{ℕ, ◌+◌, ◌*◌, ◌^◌, ◌≤◌, ◌<◌}
use native.Mathlib.Omega.{arith}
use mathlib.Core.Path.{◌≡◌, ◌∙◌, ap, ap₂}
use mathlib.Core.List.{List}
use lib.ListN.{length, get_or, take, drop, length-take, length-drop}
use lib.Seq.{length-take-le, get_or-take, get_or-drop}
use Rattle.bits.specs.Bits.{field}
use Rattle.frames.specs.Registers.{Registers}
use Rattle.frames.specs.Paper.{printed_of, body}
use Rattle.satellites.specs.declared.Satellite.{Satellite}
use Rattle.std.specs.Prelude.{Some}
use Rattle.layouts.specs.Layouts.{entry_of, first_behind_clock, width_at}
use Rattle.layouts.proofs.Sensors.{fields-2, sensor-width, sensor-start}
use Rattle.bodies.proofs.Laws.{fits-exactly}
use Rattle.frames.specs.Reading.{reading_by, room_after_by}
use Rattle.frames.proofs.Exact as exact
use Rattle.frames.proofs.DemandTwo.{accepted-values}

module _ (r : Registers) (s : Satellite) (frame room : List ℕ) where
  -- the field of the first temperature
  abbrev first : ℕ
  first = first_behind_clock (entry_of s 2).clock

  -- the room as it is left
  abbrev left : List ℕ
  left = room_after_by r (Some s) frame room

  -- the ten codes
  abbrev pub codes : List ℕ
  codes = take 10 (drop first left)

  -- code k is the value of field first + k
  code_at : (k : ℕ) → k < 10 → get_or codes k 0 ≡ get_or left (first + k) 0
  code_at k h = get_or-take 10 (drop first left) k 0 h ∙ get_or-drop first left k 0

  module _ (n : ℕ) (answer : reading_by r (Some s) frame room ≡ record { refusal = 0; ty = 2; count = n }) where
    -- the room's places that were filled are those ahead of the first temperature, and ten
    count : n ≡ first + 10
    count = (accepted-values r s frame room 2 n answer).0 ∙ fields-2 s

    -- there are ten
    pub ten-codes : length codes ≡ 10
    ten-codes =
        let filled = exact.as_many r s frame room 2 n answer in
        length-take-le 10 (drop first left) (omega (arith, length-drop first left, length-take n left, filled, fields-2 s))

    -- none is above 255
    pub codes-fit : (k : ℕ) → k < 10 → get_or codes k 0 ≤ 255
    codes-fit k h =
        let ws = (entry_of s 2).widths in
        let fits = fits-exactly ws (take n left) (exact.all_fit r s frame room 2 n answer) (first + k) (omega (arith, h, fields-2 s)) in
        let wide : 2 ^ width_at ws (first + k) ≡ 256 = ap (λ (w : ℕ). 2 ^ w) (sensor-width s k h) in
        let value = get_or-take n left (first + k) 0 (omega (arith, h, count)) in
        omega (arith, code_at k h, value, fits, wide)

    -- code k is the 8 bits of the body that start 8 * k bits behind the first temperature's start, which is the body's, or 32
    -- bits behind it where a clock comes first
    pub code_is : (k : ℕ) → k < 10 → get_or codes k 0 ≡ field (32 * first + 8 * k) 8 (body (printed_of r s) frame)
    code_is k h =
        code_at k h
        ∙ (accepted-values r s frame room 2 n answer).1.0 (first + k) (omega (arith, h, count))
        ∙ ap₂ (λ (at width : ℕ). field at width (body (printed_of r s) frame)) (sensor-start s k h) (sensor-width s k h)
