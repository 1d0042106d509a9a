-- The sizes of the table: how many bytes lie from type byte to checksum.
-- Assumes nothing.
use Prim.Native.Nat.{ℕ, ◌-◌, ◌*◌, ◌≤◌}
use native.Mathlib.Omega.{arith}
use mathlib.Core.Path.{◌≡◌}
use mathlib.Core.Bool.{true}
use Rattle.satellites.specs.declared.Satellite.{Satellite}
use Rattle.layouts.specs.Layouts.{total, carries, entry_of}
use Rattle.layouts.proofs.Entries.{tiles-body}

-- type byte, body and checksum take three bytes more than the body
pub size-least : (s : Satellite) (t : ℕ) → carries s t ≡ true → 8 * ((entry_of s t).size - 3) ≡ total (entry_of s t).widths
size-least s t carried = omega (arith, tiles-body s t carried)

pub three-least : (s : Satellite) (t : ℕ) → carries s t ≡ true → 3 ≤ (entry_of s t).size
three-least s t carried = omega (arith, tiles-body s t carried)
