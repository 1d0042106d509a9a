-- The register that the scrambler starts from, before each body (01, "Scrambler"; FORMAT 5). It is asked of the satellite. What the calls
-- answer is defined for any choice of registers, and the contracts cite it for `register_of`.
use Rattle.scrambler.specs.Scrambler.{Register, restarted}
use Rattle.satellites.specs.declared.Satellite.{Satellite}

-- a register for each satellite
abbrev pub Registers : Type 0
Registers = Satellite → Register

-- "restarted for each frame", and the same for all seven
unfoldable pub register_of : Registers
register_of s = restarted
