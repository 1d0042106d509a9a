-- What 01 says of a frame and of each test (01, "From antenna order to bytes", "The field tables", "What is refused, and in which order";
-- FORMAT 3 to 7), given what it prints of the satellite.
use Rattle.std.specs.Prelude.{ℕ, ◌+◌, ◌-◌, ◌/◌, ◌%◌, ◌^◌, ◌≤◌, ◌<◌, ◌≡◌, Bool, true, cond, List, [], ◌∷◌, map, length, get_or, take, drop, replicate}
use Rattle.bits.specs.Bits.{number, bits_of}
use Rattle.checksum.specs.Checksum.{checksum}
use Rattle.scrambler.specs.declared.Direction.TheVariants.{Unscramble}
use Rattle.scrambler.specs.Scrambler.{Register, part_answer}
use Rattle.satellites.specs.declared.Satellite.{Satellite}
use Rattle.satellites.specs.Satellites.{address_of, training_of, size_byte_of}
use Rattle.layouts.specs.Layouts.{Entry, entries_of, found, among, width_at}
use Rattle.refusals.specs.Tests.{Said, says}
use Rattle.frames.specs.Registers.{Registers}

-- what the paper prints of a satellite: its constants, the register that its scrambler starts from, and its lines of the table
pub record Printed : Type 0 where
  pub address : ℕ
  pub training : ℕ
  pub size_byte : Bool
  pub register : Register
  pub entries : List Entry

-- the same by our definitions, for any choice of registers; the proofs need it, the demands do not
abbrev pub printed_of : Registers → Satellite → Printed
printed_of r s =
    record {
      address = address_of s;
      training = training_of s;
      size_byte = size_byte_of s;
      register = r s;
      entries = entries_of s;
    }

-- whether it carries a type; the widths of the type's fields, and the bytes "from type byte to checksum"
abbrev pub carried : Printed → ℕ → Bool
carried p t = among t (map (λ e. e.frame_type) p.entries)

abbrev pub widths : Printed → ℕ → List ℕ
widths p t = (found t p.entries).widths

abbrev pub size : Printed → ℕ → ℕ
size p t = (found t p.entries).size

-- ---- the parts of a frame

-- "training, sync, size byte if any" are ahead of the type byte
abbrev pub type_byte_at : Printed → ℕ
type_byte_at p = p.training + 2 + cond p.size_byte 1 0

-- "From type byte to checksum"
abbrev pub part : Printed → List ℕ → List ℕ
part p frame = drop (type_byte_at p) frame

-- "One byte: type in the high four bits, address in the low four"
abbrev pub type_byte : Printed → List ℕ → ℕ
type_byte p frame = get_or (part p frame) 0 0

abbrev pub type_in : Printed → List ℕ → ℕ
type_in p frame = type_byte p frame / 16

-- "Checksum: 16 bits"
abbrev pub checksum_in : Printed → List ℕ → ℕ
checksum_in p frame = number (bits_of (drop (length (part p frame) - 2) (part p frame)))

-- the body, between these two, unscrambled
abbrev pub body : Printed → List ℕ → List ℕ
body p frame = part_answer Unscramble p.register (drop 1 (take (length (part p frame) - 2) (part p frame)))

-- ---- what the tests say

-- 2 to 7: "fewer bytes than ..", "training or sync differs", "address is another's", "type not carried by this satellite", "size byte
-- differs from the table", "buffer length is not the frame's length"
abbrev pub whole : Printed → List ℕ → List Said
whole p frame =
    says 2 (type_byte_at p < length frame)
    ∷ says 3 ((take p.training frame ≡ replicate p.training 0xAA) × (take 2 (drop p.training frame) ≡ 0xBF ∷ 0x35 ∷ []))
    ∷ says 4 (type_byte p frame % 16 ≡ p.address)
    ∷ says 5 (carried p (type_in p frame) ≡ true)
    ∷ says 6 (p.size_byte ≡ true → get_or frame (type_byte_at p - 1) 0 ≡ size p (type_in p frame))
    ∷ says 7 (length frame ≡ type_byte_at p + size p (type_in p frame))
    ∷ []

-- 8, "room for values is less than the field count"
abbrev pub roomy : Printed → List ℕ → List ℕ → Said
roomy p frame room = says 8 (length (widths p (type_in p frame)) ≤ length room)

-- 9, "checksum differs": it "covers type, address and unscrambled body"
abbrev pub summed : Printed → List ℕ → Said
summed p frame = says 9 (checksum_in p frame ≡ checksum (type_byte p frame ∷ body p frame))

-- 5, 10, 11 and 12 of writing: "type not carried by this satellite", "number of values is not the field count", "a value does not fit its
-- field", "output shorter than the frame"
abbrev pub wanted : Printed → ℕ → List ℕ → List ℕ → List Said
wanted p t values output =
    says 5 (carried p t ≡ true)
    ∷ says 10 (length values ≡ length (widths p t))
    ∷ says 11 ((i : ℕ) → i < length (widths p t) → get_or values i 0 < 2 ^ width_at (widths p t) i)
    ∷ says 12 (type_byte_at p + size p t ≤ length output)
    ∷ []

-- 13 and 11 of editing: "no field of that number", "a value does not fit its field"
abbrev pub fielded : Printed → List ℕ → ℕ → ℕ → List Said
fielded p frame k v =
    says 13 (k < length (widths p (type_in p frame))) ∷ says 11 (v < 2 ^ width_at (widths p (type_in p frame)) k) ∷ []
