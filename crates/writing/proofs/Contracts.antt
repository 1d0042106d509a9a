-- What the contract of `write` says, about its own text (`Post`, as the check reads it: the arguments a, the result r, and the
-- parameters at exit s): the definitions of the demands' theorems, with the satellites' own registers, of what the satellite's number
-- names and of what the call was given, uncut.
-- Assumes nothing.
use mathlib.Core.Path.{◌≡◌}
use Rattle.satellites.specs.Satellites.{known}
use Rattle.frames.specs.Registers.{register_of}
use Rattle.frames.specs.Answers.{written_in_numbers}
use Rattle.frames.specs.Writing.{writing, output_after_by}
use Rattle.writing.proofs.write.Reads as write

pub write-says : (κs a r s : _) → write.Post κs a r s
    → (written_in_numbers r ≡ writing (known a.0) a.1.0 a.1.1.0.now a.1.1.1.0.now)
    × ((s.1.1.1.0.now ≡ output_after_by register_of (known a.0) a.1.0 a.1.1.0.now a.1.1.1.0.now)
    × (s.1.1.0.now ≡ a.1.1.0.now))
write-says κs a r s p = p
