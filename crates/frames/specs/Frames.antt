-- A frame (01, "From antenna order to bytes"; FORMAT 3 to 6): training, sync, for HADES-SA a size byte, type and address,
-- the scrambled body, the checksum. The register that the scrambler starts from is handed in.
use Rattle.std.specs.Prelude.{ℕ, ◌+◌, ◌-◌, ◌*◌, ◌/◌, ◌%◌, cond, List, [], ◌∷◌, ◌++◌, length, get_or, take, drop, replicate}
use Rattle.bits.specs.Bits.{number, bits_of, packed, in_bytes}
use Rattle.checksum.specs.Checksum.{checksum}
use Rattle.scrambler.specs.declared.Direction.TheVariants.{Scramble, Unscramble}
use Rattle.scrambler.specs.Scrambler.{Register, part_answer}
use Rattle.satellites.specs.declared.Satellite.{Satellite}
use Rattle.satellites.specs.Satellites.{address_of, training_of, size_byte_of, type_byte_at}
use Rattle.layouts.specs.Layouts.{Entry, entry_of}
use Rattle.bodies.specs.Bodies.{told, tiled}

-- ---- the parts, as they are sent

-- "Training: bytes AA"
abbrev pub training : Satellite → List ℕ
training s = replicate (training_of s) 0xAA

-- "Sync: the two bytes BF 35"
abbrev pub sync : List ℕ
sync = 0xBF ∷ 0x35 ∷ []

-- "HADES-SA only: one size byte, the number of bytes that follow it"
abbrev pub size_byte : Satellite → ℕ → List ℕ
size_byte s size = cond (size_byte_of s) (size ∷ []) []

-- what stands ahead of the type byte
abbrev pub ahead : Satellite → ℕ → List ℕ
ahead s size = training s ++ (sync ++ size_byte s size)

-- "One byte: type in the high four bits, address in the low four"
abbrev pub type_byte : Satellite → ℕ → ℕ
type_byte s t = t * 16 + address_of s

-- from type byte to checksum: "The checksum covers type, address and unscrambled body", and "the body is scrambled"
unfoldable pub sealed : Register → ℕ → List ℕ → List ℕ
sealed r typed body = typed ∷ (part_answer Scramble r body ++ in_bytes 2 (checksum (typed ∷ body)))

-- the body that values make
abbrev pub body_of : Entry → List ℕ → List ℕ
body_of e values = packed (e.size - 3) (tiled e.widths values)

-- the frame of a satellite's type that carries these values, and its length
unfoldable pub frame_of : Register → Satellite → ℕ → List ℕ → List ℕ
frame_of r s t values = ahead s (entry_of s t).size ++ sealed r (type_byte s t) (body_of (entry_of s t) values)

abbrev pub frame_length : Satellite → ℕ → ℕ
frame_length s t = type_byte_at s + (entry_of s t).size

-- ---- the parts of a frame that came

-- the byte ahead of the type byte: the size byte, where there is one
abbrev pub size_in : Satellite → List ℕ → ℕ
size_in s frame = get_or frame (type_byte_at s - 1) 0

-- from type byte to checksum
abbrev pub from_type_byte : Satellite → List ℕ → List ℕ
from_type_byte s frame = drop (type_byte_at s) frame

-- of these: type, address, all that is ahead of the checksum, the body as sent, the checksum
abbrev pub type_in : List ℕ → ℕ
type_in part = get_or part 0 0 / 16

abbrev pub address_in : List ℕ → ℕ
address_in part = get_or part 0 0 % 16

abbrev pub covered : List ℕ → List ℕ
covered part = take (length part - 2) part

abbrev pub body_in : List ℕ → List ℕ
body_in part = drop 1 (covered part)

abbrev pub checksum_in : List ℕ → ℕ
checksum_in part = number (bits_of (drop (length part - 2) part))

-- "Unscrambling is the inverse"
unfoldable pub clear_body : Register → List ℕ → List ℕ
clear_body r part = part_answer Unscramble r (body_in part)

-- type and address, and the unscrambled body: what the checksum covers
abbrev pub clear : Register → List ℕ → List ℕ
clear r part = get_or part 0 0 ∷ clear_body r part

-- the type of a frame, and its values: the fields of the table
abbrev pub type_of : Satellite → List ℕ → ℕ
type_of s frame = type_in (from_type_byte s frame)

abbrev pub entry_in : Satellite → List ℕ → Entry
entry_in s frame = entry_of s (type_of s frame)

unfoldable pub values_of : Register → Satellite → List ℕ → List ℕ
values_of r s frame = told (entry_in s frame).widths (bits_of (clear_body r (from_type_byte s frame)))
