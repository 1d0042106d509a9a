-- Tests 9, 13 and 11 on what lies from type byte to checksum: what is answered, and what is left.
-- Assumes nothing.
use Prim.Native.Nat.{ℕ, ◌^◌, ◌≤◌, ◌<◌}
use native.Mathlib.Omega.{arith}
use mathlib.Core.Path.{◌≡◌}
use mathlib.Core.Logic.{◌≢◌}
use mathlib.Core.Bool.{true, false}
use mathlib.Core.List.{List}
use lib.Dec.{ltb}
use borrow.Author.Tests.{ne_eqb, le-ltb, lt-ltb}
use Rattle.std.specs.Prelude.{Result, Ok, Err, ⊤}
use Rattle.scrambler.specs.Scrambler.{Register}
use Rattle.layouts.specs.declared.Layout.{Layout}
use Rattle.layouts.specs.Layouts.{width_at}
use Rattle.refusals.specs.declared.Refusal.{Refusal}
use Rattle.refusals.specs.declared.Refusal.TheVariants.{Checksum, Value, Field}
use Rattle.refusals.specs.Tests.{Test, refusal, answer_by}
use Rattle.refusals.proofs.Refusals.{number-above}
use Rattle.refusals.proofs.Answered.{named, Refuses, ok-told, err-told}
use Rattle.frames.specs.Reading.{checksum_right}
use Rattle.editing.specs.Changed.{field_tests, part_tests, edited_part, part_after}

-- ---- a field's number and value

module _ (l : Layout) (k v : ℕ) where
  abbrev pub answered : Result ⊤ Refusal → Type 0
  answered result = result ≡ answer_by (field_tests l k v) k tt

  pub refuses-13 : l.fields ≤ k → answered (Err Field)
  unfolding answer_by
  refuses-13 none = rw (le-ltb k l.fields none)

  module _ (there : k < l.fields) where
    pub refuses-11 : ltb v (2 ^ width_at l.widths k) ≡ false → answered (Err (Value k))
    unfolding answer_by
    refuses-11 wide = rw (lt-ltb k l.fields there, wide)

    pub accepts : ltb v (2 ^ width_at l.widths k) ≡ true → answered (Ok tt)
    unfolding answer_by
    accepts narrow = rw (lt-ltb k l.fields there, narrow)

  -- what is answered, in numbers
  field-refused : (e : Refusal) → answered (Err e) → refusal (field_tests l k v) ≢ 0
  unfolding named
  field-refused e told none =
      omega (arith, number-above e, none, (err-told k tt (field_tests l k v) tt e told).0)

  field-accepted : (done : ⊤) → answered (Ok done) → refusal (field_tests l k v) ≡ 0
  field-accepted done told = (ok-told k tt (field_tests l k v) done told).0

-- ---- what lies from type byte to checksum

module _ (r : Register) (l : Layout) (part : List ℕ) (k v : ℕ) where
  abbrev tests : List Test
  tests = part_tests r l part k v

  -- an answer, and what is left
  abbrev part-answered : Result ⊤ Refusal → Type 0
  part-answered result = result ≡ answer_by tests k tt

  abbrev pub Leaves : Result ⊤ Refusal → List ℕ → Type 0
  Leaves result left = part-answered result × (left ≡ part_after r l part k v)

  pub stays-9 : checksum_right r part ≡ false → Leaves (Err Checksum) part
  unfolding answer_by refusal
  stays-9 wrong = (rw wrong, rw wrong)

  module _ (right : checksum_right r part ≡ true) where
    pub stays : (e : Refusal) → answered l k v (Err e) → Leaves (Err e) part
    unfolding answer_by refusal
    stays e told = (rw right told, rw (right, ne_eqb (refusal (field_tests l k v)) 0 (field-refused l k v e told)))

    pub changes : (done : ⊤) → answered l k v (Ok done) → {left : List ℕ} → left ≡ edited_part r l part k v → Leaves (Ok tt) left
    unfolding answer_by refusal
    changes done told is = (rw right told, rw (right, field-accepted l k v done told) is)

  -- what is answered, in numbers
  pub part-refused : (e : Refusal) → part-answered (Err e) → Refuses k (refusal tests) e
  unfolding named
  part-refused e told = err-told k tt tests tt e told

  pub part-accepted : (done : ⊤) → part-answered (Ok done) → refusal tests ≡ 0
  part-accepted done told = (ok-told k tt tests done told).0
