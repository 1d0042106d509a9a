-- What the contract of `edit` says, about its own text (`Post`, as the check reads it: the arguments a, the result r, and the
-- parameters at exit s): the definitions of the demands' theorems, with the satellites' own registers, of what the satellite's number
-- names and of what the call was given, uncut.
-- Assumes nothing.
use mathlib.Core.Path.{◌≡◌}
use Rattle.bits.specs.Bits.{Bytes}
use Rattle.satellites.specs.Satellites.{known}
use Rattle.frames.specs.Answers.{written_in_numbers}
use Rattle.frames.specs.Registers.{register_of}
use Rattle.frames.specs.Editing.{editing_by, frame_after_by}
use Rattle.editing.proofs.edit.Reads as edit

pub edit-says : (κs a r s : _) → edit.Post κs a r s
    → (written_in_numbers r ≡ editing_by register_of (known a.0) a.1.0.now a.1.1.0 a.1.1.1.0)
    × ((s.1.0.now ≡ frame_after_by register_of (known a.0) a.1.0.now a.1.1.0 a.1.1.1.0)
    × Bytes a.1.0.now)
edit-says κs a r s p = p
