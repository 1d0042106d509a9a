-- The temperatures of type 2: every satellite carries the type, the fields behind the clock, if there is one, are ten of 8 bits and
-- nothing else; and at which bit each of the ten starts.
-- Assumes nothing.
use Prim.Native.Nat.{ℕ, zero, suc, ◌+◌, ◌*◌, ◌<◌}
use native.Mathlib.Nat.{add-zero, add-suc}
use native.Mathlib.Omega.{arith}
use mathlib.Core.Path.{◌≡◌, refl, sym, ◌∙◌, ap}
use mathlib.Core.Bool.{true}
use mathlib.Core.List.{List}
use lib.ListN.{length, get_or, drop, length-drop, get_or-replicate}
use lib.Seq.{get_or-drop}
use Rattle.satellites.specs.declared.Satellite.{Satellite}
use Rattle.satellites.specs.declared.Satellite.TheVariants.{HadesD, HadesIcm, MariaG, Unne1, HadesR, Unne1b, HadesSa}
use Rattle.layouts.specs.Layouts.{among, carried_by, carries, counted, entry_of, first_behind_clock, found, start_at, table, ten, width_at}
use Rattle.layouts.proofs.Clocks.{start-behind-clock}
use Rattle.layouts.proofs.Places.{start-next}

-- every satellite carries type 2
pub carries-2 : (s : Satellite) → carries s 2 ≡ true
unfolding table counted among carried_by
carries-2 HadesD = refl
carries-2 HadesIcm = refl
carries-2 MariaG = refl
carries-2 Unne1 = refl
carries-2 HadesR = refl
carries-2 Unne1b = refl
carries-2 HadesSa = refl

-- "Ten temperatures", 8 bits each, are the last fields of type 2
pub ten-from : (s : Satellite) → drop (first_behind_clock (entry_of s 2).clock) (entry_of s 2).widths ≡ ten
unfolding table counted among carried_by found
ten-from HadesD = refl
ten-from HadesIcm = refl
ten-from MariaG = refl
ten-from Unne1 = refl
ten-from HadesR = refl
ten-from Unne1b = refl
ten-from HadesSa = refl

module _ (s : Satellite) where
  abbrev first : ℕ
  first = first_behind_clock (entry_of s 2).clock

  abbrev ws : List ℕ
  ws = (entry_of s 2).widths

  -- so the fields are those ahead of the first temperature, and ten
  pub fields-2 : length ws ≡ first + 10
  fields-2 = omega (arith, ap length (ten-from s), length-drop first ws)

  -- each is 8 bits wide
  pub sensor-width : (k : ℕ) → k < 10 → width_at ws (first + k) ≡ 8
  sensor-width k h = sym (get_or-drop first ws k 0) ∙ ap (λ (l : List ℕ). get_or l k 0) (ten-from s) ∙ get_or-replicate 10 k 8 0 h

  -- and starts where the one before ends
  pub sensor-start : (k : ℕ) → k < 10 → start_at ws (first + k) ≡ 32 * first + 8 * k
  sensor-start zero h = ap (start_at ws) (add-zero first) ∙ start-behind-clock s 2 ∙ omega arith
  sensor-start (suc k) h =
      let ahead : k < 10 = omega (arith, h) in
      ap (start_at ws) (add-suc first k)
      ∙ start-next ws (first + k)
      ∙ omega (arith, sensor-start k ahead, sensor-width k ahead)
