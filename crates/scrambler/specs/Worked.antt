-- The scrambled bytes that 01 marks to be proved (01, "Either side of the edge"; FORMAT 10).
use Rattle.std.specs.Prelude.{List, [], ◌∷◌, ℕ}
use Rattle.bits.specs.Worked.{Worked, gives}
use Rattle.scrambler.specs.declared.Direction.TheVariants.{Scramble}
use Rattle.scrambler.specs.Scrambler.{restarted, part_answer}

-- scrambled as each frame's body is
abbrev pub scrambled : List ℕ → List ℕ
scrambled bytes = part_answer Scramble restarted bytes

abbrev pub worked_parts : List Worked
worked_parts =
    gives (scrambled []) []
    ∷ gives (scrambled (0xFF ∷ [])) (0x7F ∷ [])
    ∷ gives (scrambled (0x47 ∷ [])) (0xC7 ∷ [])
    ∷ gives (scrambled (0x47 ∷ 0x45 ∷ [])) (0xC7 ∷ 0x49 ∷ [])
    ∷ gives (scrambled (0x00 ∷ 0x00 ∷ 0x00 ∷ 0x00 ∷ [])) (0x80 ∷ 0x08 ∷ 0x40 ∷ 0x80 ∷ [])
    ∷ []
