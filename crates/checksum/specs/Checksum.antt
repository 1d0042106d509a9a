-- The checksum (01, "Checksum"; FORMAT 4): CRC-CCITT-FALSE, polynomial 1021, start FFFF, no reflection, final value not
-- altered. The register is its 16 bits, most significant first.
use Rattle.std.specs.Prelude.{ℕ, Bool, false, cond, List, [], ◌∷◌, ◌++◌}
use Rattle.bits.specs.Bits.{◌⊕◌, ◌⊞◌, bits, number, bits_of}

abbrev pub polynomial : ℕ
polynomial = 0x1021

abbrev pub start : ℕ
start = 0xFFFF

-- one bit of the division: the register's highest bit leaves and a 0 comes in behind; where what left and the data bit
-- differ, the polynomial is taken away, which is xor
unfoldable pub divided : List Bool → Bool → List Bool
divided [] data-bit = []
divided (top ∷ rest) data-bit = (rest ++ (false ∷ [])) ⊞ cond (top ⊕ data-bit) (bits 16 polynomial) (bits 16 0)

-- the register after data bits
unfoldable pub after : List Bool → List Bool → List Bool
after register [] = register
after register (d ∷ ds) = after (divided register d) ds

-- the register, as a number, after one byte
abbrev pub stepped : ℕ → ℕ → ℕ
stepped register byte = number (after (bits 16 register) (bits 8 byte))

-- the checksum of bytes
unfoldable pub checksum : List ℕ → ℕ
checksum bytes = number (after (bits 16 start) (bits_of bytes))
