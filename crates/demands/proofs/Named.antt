-- From a satellite's number to the satellite that it names, and to what the paper prints of it.
-- Assumes nothing.
use Prim.Native.Nat.{ℕ, ◌≤◌}
use native.Mathlib.Omega.{arith}
use mathlib.Core.Path.{◌≡◌}
use Rattle.satellites.specs.declared.Satellite.{Satellite}
use Rattle.std.specs.Prelude.{Some}
use Rattle.satellites.specs.Satellites.{known}
use Rattle.satellites.proofs.Laws.{known-below, number-known}
use Rattle.satellites.proofs.Paper.{paper-known}
use Rattle.layouts.specs.Layouts.{table, carried_by}
use Rattle.frames.specs.Registers.{register_of}
use Rattle.frames.specs.Paper.{printed_of}
use Rattle.frames.proofs.Cited.{its-register}
use Rattle.demands.specs.Demands.{printed}

-- a number names a satellite, of which the paper prints what the definitions have
pub record Named (n : ℕ) : Type 0 where
  pub satellite : Satellite
  pub is_known : known n ≡ Some satellite
  pub as-printed : printed_of register_of satellite ≡ printed n

pub named_by : (n : ℕ) → n ≤ 6 → Named n
named_by n small =
    let found = known-below n (omega arith) in
    let number = number-known n found.0 found.1 in
    let constants = paper-known n found.0 found.1 in
    record {
      satellite = found.0;
      is_known = found.1;
      as-printed = λ i. record {
        address = (constants i).address;
        training = (constants i).training;
        size_byte = (constants i).size_byte;
        register = its-register found.0 i;
        entries = carried_by (number i) table;
      };
    }
