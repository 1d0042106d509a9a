-- What the contracts of `scramble` and `unscramble` say, about their own text (`Post`, as the check reads it: the arguments a, the
-- result r, and the parameters at exit s): the sent bits that come back and the part that is left are the definitions' of the very
-- distances, start and part that the call was given. Places.antt says by place what these are.
-- Assumes nothing.
use mathlib.Core.Path.{◌≡◌, ap}
use Rattle.scrambler.specs.declared.Direction.TheVariants.{Scramble, Unscramble}
use Rattle.scrambler.specs.Scrambler.{Register, from, part_answer, register_answer}
use Rattle.scrambler.proofs.scramble.Reads as scramble
use Rattle.scrambler.proofs.unscramble.Reads as unscramble

pub scramble-says : (κs a r s : _) → scramble.Post κs a r s
    → (r ≡ (register_answer Scramble (from a.0 a.1.0 a.1.1.0) a.1.1.1.0.now).sent)
    × (s.1.1.1.0.now ≡ part_answer Scramble (from a.0 a.1.0 a.1.1.0) a.1.1.1.0.now)
scramble-says κs a r s p = (ap (λ (q : Register). q.sent) p.register, p.bytes)

pub unscramble-says : (κs a r s : _) → unscramble.Post κs a r s
    → (r ≡ (register_answer Unscramble (from a.0 a.1.0 a.1.1.0) a.1.1.1.0.now).sent)
    × (s.1.1.1.0.now ≡ part_answer Unscramble (from a.0 a.1.0 a.1.1.0) a.1.1.1.0.now)
unscramble-says κs a r s p = (ap (λ (q : Register). q.sent) p.register, p.bytes)
