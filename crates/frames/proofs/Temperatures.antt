-- From an accepted frame of type 2 to its ten readings: the ten values from the first temperature on each have a reading, and the day's
-- summary of them is accepted.
-- Assumes nothing.
use Prim.Native.Nat.{ℕ, ◌<◌}
use mathlib.Core.Path.{◌≡◌}
use mathlib.Core.List.{List}
use lib.ListN.{get_or}
use Rattle.satellites.specs.declared.Satellite.{Satellite}
use Rattle.std.specs.Prelude.{Some}
use Rattle.temperatures.specs.Readings.{answering, values_in}
use Rattle.temperatures.specs.Summaries.{day_of}
use Rattle.temperatures.proofs.Paper.{accepted-code, accepted-day}
use Rattle.frames.specs.Registers.{Registers}
use Rattle.frames.specs.Reading.{reading_by}
use Rattle.frames.proofs.Codes.{codes, ten-codes, codes-fit}

module _ (r : Registers) (s : Satellite) (frame room : List ℕ) (n : ℕ)
    (answer : reading_by r (Some s) frame room ≡ record { refusal = 0; ty = 2; count = n }) where
  pub each_read : (k : ℕ) → k < 10 → (values_in (answering (get_or (codes r s frame room) k 0))).number ≡ 0
  each_read k h = accepted-code (get_or (codes r s frame room) k 0) (codes-fit r s frame room n answer k h)

  pub day-told : (day_of (codes r s frame room)).refusal ≡ 0
  day-told = (accepted-day (codes r s frame room) (ten-codes r s frame room n answer) (codes-fit r s frame room n answer)).0
