-- What the contract of `read` says, about its own text (`Post`, as the check reads it: the arguments a, the result r, and the
-- parameters at exit s): the definitions of the demands' theorems, with the satellites' own registers, of what the satellite's number
-- names and of what the call was given, uncut.
-- Assumes nothing.
use mathlib.Core.Path.{◌≡◌}
use Rattle.bits.specs.Bits.{Bytes}
use Rattle.satellites.specs.Satellites.{known}
use Rattle.frames.specs.Answers.{read_in_numbers}
use Rattle.frames.specs.Registers.{register_of}
use Rattle.frames.specs.Reading.{reading_by, room_after_by}
use Rattle.reading.proofs.read.Reads as read

pub read-says : (κs a r s : _) → read.Post κs a r s
    → (read_in_numbers r ≡ reading_by register_of (known a.0) a.1.0.now a.1.1.0.now)
    × ((s.1.1.0.now ≡ room_after_by register_of (known a.0) a.1.0.now a.1.1.0.now)
    × ((s.1.0.now ≡ a.1.0.now) × Bytes a.1.0.now))
read-says κs a r s p = p
