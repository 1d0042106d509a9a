-- The scrambler (01, "Scrambler"; 02, Five and Seven; FORMAT 5), over any two distances near and far and any start, and
-- its inverse. Both remember the bits on air, the sent ones; `sent` has the latest of them first.
use Rattle.std.specs.Prelude.{ℕ, ◌-◌, ◌%◌, ◌^◌, ◌≡◌, Bool, false, ◌&&◌, cond, List, [], ◌∷◌, reverse, length, get_or, take, leb, ltb}
use Rattle.bits.specs.Bits.{◌⊕◌, bits, number, bits_of, packed}
use Rattle.scrambler.specs.declared.Direction.{Direction}
use Rattle.scrambler.specs.declared.Direction.TheVariants.{Scramble, Unscramble}

-- the sent bit so many places earlier
abbrev pub earlier : ℕ → List Bool → Bool
earlier places sent = get_or sent (places - 1) false

-- a bit, xor the sent bit near places earlier, xor the sent bit far places earlier
abbrev pub crossed : ℕ → ℕ → List Bool → Bool → Bool
crossed near far sent b = b ⊕ earlier near sent ⊕ earlier far sent

-- which of the two is on air: scrambling, what comes out; unscrambling, what goes in
abbrev pub on_air : {A : Type 0} → Direction → A → A → A
on_air Scramble into out = out
on_air Unscramble into out = into

-- the bits that come out
unfoldable pub through : Direction → ℕ → ℕ → List Bool → List Bool → List Bool
through way near far sent [] = []
through way near far sent (b ∷ bs) =
    crossed near far sent b ∷ through way near far (on_air way b (crossed near far sent b) ∷ sent) bs

-- the sent bits when they are through
unfoldable pub sent_after : Direction → ℕ → ℕ → List Bool → List Bool → List Bool
sent_after way near far sent [] = sent
sent_after way near far sent (b ∷ bs) = sent_after way near far (on_air way b (crossed near far sent b) ∷ sent) bs

-- two distances, and the far latest sent bits as a number
pub record Register : Type 0 where
  pub near : ℕ
  pub far : ℕ
  pub sent : ℕ

abbrev pub from : ℕ → ℕ → ℕ → Register
from near far sent = record { near = near; far = far; sent = sent }

-- the sent bits that a number of `far` bits stands for: its highest bit is the earliest
abbrev pub remembered : ℕ → ℕ → List Bool
remembered far n = reverse (bits far n)

-- the satellites' distances, and their start: as many low bits of 2C350000
abbrev pub NEAR : ℕ
NEAR = 12

abbrev pub FAR : ℕ
FAR = 17

abbrev pub START : ℕ
START = 0x2C350000 % 2 ^ FAR

-- restarted for each frame
abbrev pub restarted : Register
restarted = from NEAR FAR START

-- near at least 1, near below far, far at most 32
unfoldable pub allowed : Register → Bool
allowed r = leb 1 r.near && ltb r.near r.far && leb r.far 32

-- the bytes of a part when they are through, and the register then: the far latest sent bits, as a number again
abbrev pub part_through : Direction → Register → List ℕ → List ℕ
part_through way r part = packed (length part) (through way r.near r.far (remembered r.far r.sent) (bits_of part))

abbrev pub register_through : Direction → Register → List ℕ → Register
register_through way r part =
    record {
      near = r.near;
      far = r.far;
      sent = number (reverse (take r.far (sent_after way r.near r.far (remembered r.far r.sent) (bits_of part))));
    }

-- a pair of distances that is not allowed leaves the part and the register as they are
abbrev pub part_answer : Direction → Register → List ℕ → List ℕ
part_answer way r part = cond (allowed r) (part_through way r part) part

abbrev pub register_answer : Direction → Register → List ℕ → Register
register_answer way r part = cond (allowed r) (register_through way r part) r

-- what scrambling and unscrambling in place promise: the register that comes back, and the part that is left
pub record Passes (way : Direction) (before : Register) (part : List ℕ) (after : Register) (left : List ℕ) : Type 0 where
  pub register : after ≡ register_answer way before part
  pub bytes : left ≡ part_answer way before part
