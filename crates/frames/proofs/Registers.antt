-- The numbers that the calls hand to `sealing` are the satellite's register.
-- Assumes nothing.
use mathlib.Core.Path.{◌≡◌, refl}
use Rattle.scrambler.specs.Scrambler.{from, NEAR, FAR, START}
use Rattle.satellites.specs.declared.Satellite.{Satellite}
use Rattle.frames.specs.Registers.{register_of}

pub handed : (s : Satellite) → from NEAR FAR START ≡ register_of s
unfolding register_of
handed s = refl
