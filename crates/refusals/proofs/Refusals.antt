-- A refusal is its number and its place: no two have both alike, and none has the number 0, that of acceptance.
-- Assumes nothing.
use Prim.Native.Nat.{◌<◌}
use mathlib.Core.Path.{◌≡◌, refl, sym, ◌∙◌, ap₂}
use lib.Dec.{lit≤}
use Rattle.refusals.specs.declared.Refusal.{Refusal}
use Rattle.refusals.specs.declared.Refusal.TheVariants.{Satellite, Short, Preamble, Address, NotCarried, Size, Length, Room, Checksum, Values, Value, Output, Field}
use Rattle.refusals.specs.Refusals.{number_of, place_in, refusal_at}

pub itself : (r : Refusal) → refusal_at (number_of r) (place_in r) ≡ r
itself Satellite = refl
itself Short = refl
itself Preamble = refl
itself Address = refl
itself NotCarried = refl
itself Size = refl
itself Length = refl
itself Room = refl
itself Checksum = refl
itself Values = refl
itself (Value place) = refl
itself Output = refl
itself Field = refl

pub same_refusal : (r q : Refusal) → number_of r ≡ number_of q → place_in r ≡ place_in q → r ≡ q
same_refusal r q n p = sym (itself r) ∙ ap₂ refusal_at n p ∙ itself q

pub number-above : (r : Refusal) → 0 < number_of r
number-above Satellite = lit≤ tt
number-above Short = lit≤ tt
number-above Preamble = lit≤ tt
number-above Address = lit≤ tt
number-above NotCarried = lit≤ tt
number-above Size = lit≤ tt
number-above Length = lit≤ tt
number-above Room = lit≤ tt
number-above Checksum = lit≤ tt
number-above Values = lit≤ tt
number-above (Value place) = lit≤ tt
number-above Output = lit≤ tt
number-above Field = lit≤ tt
