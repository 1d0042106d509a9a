-- The checksums that 01 marks to be proved (01, "Either side of the edge"; FORMAT 10).
use Rattle.std.specs.Prelude.{List, [], ◌∷◌}
use Rattle.bits.specs.Worked.{Worked, gives}
use Rattle.checksum.specs.Checksum.{checksum}

abbrev pub worked_checksums : List Worked
worked_checksums =
    gives (checksum []) 0xFFFF
    ∷ gives (checksum (0x00 ∷ [])) 0xE1F0
    -- "123456789"
    ∷ gives (checksum (0x31 ∷ 0x32 ∷ 0x33 ∷ 0x34 ∷ 0x35 ∷ 0x36 ∷ 0x37 ∷ 0x38 ∷ 0x39 ∷ [])) 0x29B1
    ∷ []
