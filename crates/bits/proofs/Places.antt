-- What `locate` tells, in the terms of `cut` and `put`: reading and replacing share it.
-- Assumes nothing.
use mathlib.Core.Path.{◌≡◌, sym, ap, ◌∙◌}
use mathlib.Core.List.{List, ◌++◌}
use Prim.Native.Nat.{ℕ, ◌+◌, ◌-◌, ◌*◌, ◌≤◌}
use native.Mathlib.Omega.{arith}
use lib.ListN.{length, take, drop, length-take, length-drop}
use Rattle.bits.specs.declared.Place.{Place}
use Rattle.bits.specs.Bits.{field, replaced, Bytes}
use Rattle.bits.specs.Located.{Touches, lead}
use Rattle.bits.proofs.Fields.{field-part, replaced-part}

module _ (at w : ℕ) (s : List ℕ) (p : Place) (t : Touches (length s) at w p) where
  abbrev part : List ℕ
  part = take (p.end - p.first) (drop p.first s)

  part_length : length part ≡ p.end - p.first
  part_length = rw (length-take, length-drop) (omega arith)

  abbrev ahead : ℕ
  ahead = lead part w p.rest

  start : 8 * p.first + ahead ≡ at
  start = rw part_length (sym t.start)

  inner : ahead + w ≤ 8 * (p.end - p.first)
  inner = rw part_length (omega arith)

  pub field-touched : field ahead w part ≡ field at w s
  field-touched = sym (field-part p.first (p.end - p.first) ahead w s inner) ∙ ap (λ (n : ℕ). field n w s) start

  -- what `put` leaves of the part, back in its place
  pub replaced-touched : Bytes s → (v : ℕ) (ys : List ℕ) → ys ≡ replaced ahead w v part
      → take p.first s ++ (ys ++ drop (p.end - p.first) (drop p.first s)) ≡ replaced at w v s
  replaced-touched b v ys e =
      ap (λ (l : List ℕ). take p.first s ++ (l ++ drop (p.end - p.first) (drop p.first s))) e
      ∙ sym (replaced-part p.first (p.end - p.first) ahead w s inner (omega arith) b v)
      ∙ ap (λ (n : ℕ). replaced n w v s) start
