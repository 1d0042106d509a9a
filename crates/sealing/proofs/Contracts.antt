-- What the contracts say, about their own text (`Post`, as the check reads it: the arguments a, the result r, and the parameters at
-- exit s): the definitions of the very distances, start and bytes that the call was given.
-- Assumes nothing.
use Prim.Native.Nat.{◌-◌, ◌<◌}
use mathlib.Core.Path.{◌≡◌, ◌∙◌}
use mathlib.Core.List.{◌++◌}
use lib.ListN.{length, take, drop}
use borrow.Author.Tests.{lt-leb}
use Rattle.bits.specs.Bits.{field_answer}
use Rattle.checksum.specs.Checksum.{checksum}
use Rattle.scrambler.specs.Scrambler.{from}
use Rattle.sealing.specs.Sealing.{opened_front, sealed_part}
use Rattle.sealing.proofs.open_front.Reads as open-front
use Rattle.sealing.proofs.open.Reads as opens
use Rattle.sealing.proofs.seal.Reads as seal

pub open-front-says : (κs a r s : _) → open-front.Post κs a r s
    → s.1.1.1.0.now ≡ opened_front (from a.0 a.1.0 a.1.1.0) a.1.1.1.0.now
open-front-says κs a r s p = p

-- the last two bytes are the checksum that was sent, and stay; what comes before them is opened as a front
pub open-says : (κs a r s : _) → opens.Post κs a r s
    → let part = a.1.1.1.0.now in
    let front = opened_front (from a.0 a.1.0 a.1.1.0) (take (length part - 2) part) in
    let last = drop (length part - 2) part in
    (r ≡ record { sent = field_answer 0 16 last; computed = checksum front }) × (s.1.1.1.0.now ≡ front ++ last)
open-says κs a r s p = p

pub seal-says : (κs a r s : _) → seal.Post κs a r s
    → s.1.1.1.0.now ≡ sealed_part (from a.0 a.1.0 a.1.1.0) a.1.1.1.0.now
seal-says κs a r s p = p

-- fewer bytes than type byte and checksum stay
pub too-few-to-seal : (κs a r s : _) → seal.Post κs a r s → length a.1.1.1.0.now < 3 → s.1.1.1.0.now ≡ a.1.1.1.0.now
too-few-to-seal κs a r s p few = p ∙ rw (lt-leb 3 (length a.1.1.1.0.now) few)
