-- What writing a front leaves, by the length of the part that is lent.
-- Assumes nothing.
use Prim.{⊥}
use Prim.Native.Nat.{ℕ}
use mathlib.Core.Path.{◌≡◌, ap}
use mathlib.Core.Bool.{Bool, cond}
use mathlib.Core.List.{List}
use lib.ListN.{length}
use borrow.Author.Tests.{eq-eqb, ne_eqb}
use Rattle.satellites.specs.declared.Satellite.{Satellite}
use Rattle.satellites.specs.Satellites.{type_byte_at}
use Rattle.frames.specs.Frames.{ahead}
use Rattle.fronts.specs.Fronts.{front_after}

module _ (s : Satellite) (size : ℕ) (part : List ℕ) where
  pub front-filled : length part ≡ type_byte_at s → front_after s size part ≡ ahead s size
  front-filled long = ap (λ (b : Bool). cond b (ahead s size) part) (eq-eqb (length part) (type_byte_at s) long)

  pub front-left : (length part ≡ type_byte_at s → ⊥) → front_after s size part ≡ part
  front-left other = ap (λ (b : Bool). cond b (ahead s size) part) (ne_eqb (length part) (type_byte_at s) other)
