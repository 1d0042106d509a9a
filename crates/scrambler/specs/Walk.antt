-- What the walk's own functions promise. The crate's own; no caller sees it.
use Rattle.std.specs.Prelude.{ℕ, ◌/◌, ◌^◌, ◌≤◌, ◌<◌, ◌≡◌, Bool, false, List, get_or}
use Rattle.bits.specs.Bits.{odd, bits}
use Rattle.scrambler.specs.declared.Direction.{Direction}
use Rattle.scrambler.specs.Scrambler.{through, sent_after}

-- distances that are allowed
pub record Taps (near far : ℕ) : Type 0 where
  pub least : 1 ≤ near
  pub ordered : near < far
  pub most : far ≤ 32

-- a number holds the far latest sent bits, the latest in its lowest bit
abbrev pub Held : ℕ → ℕ → List Bool → Type 0
Held far n sent = (k : ℕ) → k < far → odd (n / 2 ^ k) ≡ get_or sent k false

-- a byte goes through, whatever sent bits the number held
pub record PassesByte (way : Direction) (near far before byte after out : ℕ) : Type 0 where
  pub small : out < 256
  pub comes : (sent : List Bool) → Held far before sent → bits 8 out ≡ through way near far sent (bits 8 byte)
  pub holds : (sent : List Bool) → Held far before sent → Held far after (sent_after way near far sent (bits 8 byte))
