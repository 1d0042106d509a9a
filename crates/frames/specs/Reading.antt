-- Reading (01, "What is refused, and in which order"; FORMAT 7 and 8): the tests in their order, the answer, and the room.
use Rattle.std.specs.Prelude.{ℕ, Bool, true, false, not, ◌&&◌, ◌||◌, cond, List, [], ◌∷◌, ◌++◌, length, take, drop, eqb, leb, ltb, Option, Some, None}
use Rattle.checksum.specs.Checksum.{checksum}
use Rattle.scrambler.specs.Scrambler.{Register}
use Rattle.satellites.specs.declared.Satellite.{Satellite}
use Rattle.satellites.specs.Satellites.{address_of, training_of, size_byte_of, type_byte_at}
use Rattle.layouts.specs.Layouts.{carries}
use Rattle.frames.specs.Answers.{Reading}
use Rattle.refusals.specs.Tests.{Test, test, refusal, same}
use Rattle.frames.specs.Registers.{Registers, register_of}
use Rattle.frames.specs.Frames.{training, sync, frame_length}
use Rattle.frames.specs.Frames.{size_in, from_type_byte, address_in, checksum_in, clear, type_of, entry_in, values_of}

-- the training is the satellite's
abbrev pub trained : Satellite → List ℕ → Bool
trained s frame = same (take (training_of s) frame) (training s)

-- and sync follows it
abbrev pub synced : Satellite → List ℕ → Bool
synced s frame = same (take 2 (drop (training_of s) frame)) sync

abbrev pub preambled : Satellite → List ℕ → Bool
preambled s frame = trained s frame && synced s frame

-- 2 to 6, on a frame's front
unfoldable pub front_tests : Satellite → List ℕ → List Test
front_tests s frame =
    -- "fewer bytes than training, sync, size byte if any, and type byte"
    test 2 (ltb (type_byte_at s) (length frame))
    -- "training or sync differs"
    ∷ test 3 (preambled s frame)
    -- "address is another's"
    ∷ test 4 (eqb (address_in (from_type_byte s frame)) (address_of s))
    -- "type not carried by this satellite"
    ∷ test 5 (carries s (type_of s frame))
    -- "size byte differs from the table", where there is one
    ∷ test 6 (not (size_byte_of s) || eqb (size_in s frame) (entry_in s frame).size)
    ∷ []

-- 2 to 7, on a whole frame: those of its front, and "buffer length is not the frame's length"
unfoldable pub whole_tests : Satellite → List ℕ → List Test
whole_tests s frame = front_tests s frame ++ (test 7 (eqb (length frame) (frame_length s (type_of s frame))) ∷ [])

-- "room for values is less than the field count"
abbrev pub room_test : Satellite → List ℕ → List ℕ → Test
room_test s frame room = test 8 (leb (length (entry_in s frame).widths) (length room))

-- the checksum of a part, against type and address and the unscrambled body
abbrev pub checksum_right : Register → List ℕ → Bool
checksum_right r part = eqb (checksum_in part) (checksum (clear r part))

-- "checksum differs"
abbrev pub checksum_test : Register → Satellite → List ℕ → Test
checksum_test r s frame = test 9 (checksum_right r (from_type_byte s frame))

-- 2 to 7 and 9: those on the frame alone, whatever room its values are given
unfoldable pub frame_tests : Register → Satellite → List ℕ → List Test
frame_tests r s frame = whole_tests s frame ++ (checksum_test r s frame ∷ [])

-- "a frame is accepted", given room for its values: none of these fails
abbrev pub accepted_by : Register → Satellite → List ℕ → Bool
accepted_by r s frame = eqb (refusal (frame_tests r s frame)) 0

abbrev pub accepted : Satellite → List ℕ → Bool
accepted s frame = accepted_by (register_of s) s frame

-- "Reading (satellite, frame, room of 32-bit numbers) tests 1 to 9 in that order": 1, "satellite number above 6", is what
-- the number names
unfoldable pub reading_tests : Registers → Option Satellite → List ℕ → List ℕ → List Test
reading_tests r None frame room = test 1 false ∷ []
reading_tests r (Some s) frame room =
    test 1 true ∷ (whole_tests s frame ++ (room_test s frame room ∷ checksum_test (r s) s frame ∷ []))

-- "It answers the number, the type and the field count"
abbrev pub accepted_reading : Satellite → List ℕ → Reading
accepted_reading s frame = record { refusal = 0; ty = type_of s frame; count = length (entry_in s frame).widths }

-- "A refusal answers type 0, count 0"
abbrev pub refused_reading : ℕ → Reading
refused_reading number = record { refusal = number; ty = 0; count = 0 }

unfoldable pub reading_by : Registers → Option Satellite → List ℕ → List ℕ → Reading
reading_by r None frame room = refused_reading (refusal (reading_tests r None frame room))
reading_by r (Some s) frame room =
    let number = refusal (reading_tests r (Some s) frame room) in
    cond (eqb number 0) (accepted_reading s frame) (refused_reading number)

-- "and fills that many places of the room; later places stay"
unfoldable pub room_after_by : Registers → Option Satellite → List ℕ → List ℕ → List ℕ
room_after_by r None frame room = room
room_after_by r (Some s) frame room =
    cond (eqb (refusal (reading_tests r (Some s) frame room)) 0)
    (values_of (r s) s frame ++ drop (length (entry_in s frame).widths) room)
    room

-- the two that the contract of reading cites, with the satellite's register
abbrev pub reading : Option Satellite → List ℕ → List ℕ → Reading
reading k frame room = reading_by register_of k frame room

abbrev pub room_after : Option Satellite → List ℕ → List ℕ → List ℕ
room_after k frame room = room_after_by register_of k frame room
