-- What the crate's own functions ask and tell of the bytes that a field touches. No caller sees it.
use Rattle.std.specs.Prelude.{ℕ, ◌+◌, ◌-◌, ◌*◌, ◌≤◌, ◌≡◌, List, length}
use Rattle.bits.specs.declared.Place.{Place}

-- the bytes from first up to end, at most five, hold the field, with `rest` bits behind it
pub record Touches (len at width : ℕ) (p : Place) : Type 0 where
  pub narrow : width ≤ 32
  pub ordered : p.first ≤ p.end
  pub within : p.end ≤ len
  pub few : p.end - p.first ≤ 5
  pub wide : width + p.rest ≤ 8 * (p.end - p.first)
  pub start : at ≡ 8 * p.first + (8 * (p.end - p.first) - (width + p.rest))

-- a group of at most five bytes holds a field of `width` bits with `rest` bits behind it
pub record Holds (group : List ℕ) (width rest : ℕ) : Type 0 where
  pub few : length group ≤ 5
  pub narrow : width ≤ 32
  pub wide : width + rest ≤ 8 * length group

-- and so many bits ahead of it
abbrev pub lead : List ℕ → ℕ → ℕ → ℕ
lead group width rest = 8 * length group - (width + rest)
