-- Any two results that a public function's contract allows for one input are equal. `Post` is the contract's own text, as
-- the check reads it: the arguments, the result, and the parameters at exit.
-- And nothing is asked of a caller: `Pre`, what the contract requires, holds of all arguments.
-- Assumes nothing.
use mathlib.Core.Path.{◌≡◌, sym, ap, ◌∙◌}
use mathlib.Core.List.{List}
use Prim.Native.Nat.{ℕ}
use Rattle.scrambler.specs.declared.Direction.{Direction}
use Rattle.scrambler.specs.declared.Direction.TheVariants.{Scramble, Unscramble}
use Rattle.scrambler.specs.Scrambler.{Register, from, Passes}
use Rattle.scrambler.proofs.scramble.Reads as scramble
use Rattle.scrambler.proofs.unscramble.Reads as unscramble

passes-determined : (way : Direction) (near far start : ℕ) (part : List ℕ) {r r' : ℕ} {s s' : List ℕ}
    → Passes way (from near far start) part (from near far r) s → Passes way (from near far start) part (from near far r') s'
    → (r ≡ r') × (s ≡ s')
passes-determined way near far start part p q =
    (ap (λ (q : Register). q.sent) (p.register ∙ sym q.register), p.bytes ∙ sym q.bytes)

pub scramble-determined : (κs a r r' s s' : _) → scramble.Post κs a r s → scramble.Post κs a r' s'
    → (r ≡ r') × (s.1.1.1.0.now ≡ s'.1.1.1.0.now)
scramble-determined κs a r r' s s' p q = passes-determined Scramble a.0 a.1.0 a.1.1.0 a.1.1.1.0.now p q

pub unscramble-determined : (κs a r r' s s' : _) → unscramble.Post κs a r s → unscramble.Post κs a r' s'
    → (r ≡ r') × (s.1.1.1.0.now ≡ s'.1.1.1.0.now)
unscramble-determined κs a r r' s s' p q = passes-determined Unscramble a.0 a.1.0 a.1.1.0 a.1.1.1.0.now p q

pub scramble-asks-nothing : (κs a : _) → scramble.Pre κs a
scramble-asks-nothing κs a = tt

pub unscramble-asks-nothing : (κs a : _) → unscramble.Pre κs a
unscramble-asks-nothing κs a = tt
