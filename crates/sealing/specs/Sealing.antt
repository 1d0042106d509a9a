-- Opening and sealing what lies from type byte to checksum, for all bytes (01, "From antenna order to bytes"; FORMAT 3 to 5).
use Rattle.std.specs.Prelude.{ℕ, ◌-◌, cond, List, [], ◌∷◌, ◌++◌, leb, length, get_or, drop}
use Rattle.bits.specs.Bits.{field_answer}
use Rattle.checksum.specs.Checksum.{checksum}
use Rattle.scrambler.specs.declared.Direction.TheVariants.{Unscramble}
use Rattle.scrambler.specs.Scrambler.{Register, part_answer}
use Rattle.frames.specs.Frames.{sealed, covered, body_in}
use Rattle.sealing.specs.declared.Sums.{Sums}

-- a front: the type byte is sent clear, and what has come of the body is unscrambled
unfoldable pub opened_front : Register → List ℕ → List ℕ
opened_front r [] = []
opened_front r (typed ∷ body) = typed ∷ part_answer Unscramble r body

-- a part: its last two bytes are the checksum, which is sent clear too
abbrev pub last_two : List ℕ → List ℕ
last_two part = drop (length part - 2) part

abbrev pub opened_part : Register → List ℕ → List ℕ
opened_part r part = opened_front r (covered part) ++ last_two part

-- the checksum that was sent, 0 where there is none, and the one of type byte and unscrambled body
abbrev pub sums_of : Register → List ℕ → Sums
sums_of r part = record { sent = field_answer 0 16 (last_two part); computed = checksum (opened_front r (covered part)) }

-- a part of type byte and body in the clear, sealed; fewer bytes than type byte and checksum stay
abbrev pub sealed_part : Register → List ℕ → List ℕ
sealed_part r part = cond (leb 3 (length part)) (sealed r (get_or part 0 0) (body_in part)) part
