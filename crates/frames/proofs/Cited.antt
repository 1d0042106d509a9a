-- The definitions that the contracts cite are those of the demands' theorems, for the satellites' own registers; and these registers in
-- 01's numbers.
-- Assumes nothing.
use Rattle.std.specs.Prelude.{Option}
use Prim.Native.Nat.{ℕ}
use mathlib.Core.Path.{◌≡◌, refl}
use mathlib.Core.List.{List}
use Rattle.scrambler.specs.Scrambler.{from}
use Rattle.satellites.specs.declared.Satellite.{Satellite}
use Rattle.frames.specs.Registers.{register_of}
use Rattle.frames.specs.Reading.{accepted_by, accepted, reading_by, reading, room_after_by, room_after}
use Rattle.frames.specs.Writing.{output_after_by, output_after}
use Rattle.frames.specs.Editing.{editing_by, editing, frame_after_by, frame_after}

-- "the sent bit 12 places earlier", "the sent bit 17 places earlier", "a 1, then sixteen 0s": for all seven
pub its-register : (s : Satellite) → register_of s ≡ from 12 17 0x10000
unfolding register_of
its-register s = refl

pub reading-cited : (k : Option Satellite) (frame room : List ℕ)
    → (reading k frame room ≡ reading_by register_of k frame room) × (room_after k frame room ≡ room_after_by register_of k frame room)
reading-cited k frame room = (refl, refl)

pub writing-cited : (k : Option Satellite) (t : ℕ) (values output : List ℕ)
    → output_after k t values output ≡ output_after_by register_of k t values output
writing-cited k t values output = refl

pub editing-cited : (s : Option Satellite) (frame : List ℕ) (k v : ℕ)
    → (editing s frame k v ≡ editing_by register_of s frame k v) × (frame_after s frame k v ≡ frame_after_by register_of s frame k v)
editing-cited s frame k v = (refl, refl)

pub accepted-cited : (s : Satellite) (frame : List ℕ) → accepted s frame ≡ accepted_by (register_of s) s frame
accepted-cited s frame = refl
