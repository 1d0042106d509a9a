-- What 01 and the header say of temperatures in C, as theorems about the definitions that the contracts cite (Contracts.antt).
-- Assumes nothing.
use Prim.Native.Nat.{ℕ, ◌≤◌, ◌<◌}
use native.Mathlib.Omega.{arith}
use mathlib.Core.Path.{◌≡◌, refl, ◌∙◌, ap}
use mathlib.Core.Bool.{false}
use mathlib.Core.List.{List, [], ◌∷◌}
use lib.IntN.{pos}
use lib.ListN.{length, get_or}
use lib.Ieee.{Float, fin}
use Rattle.std.specs.Prelude.{Result, Ok}
use Rattle.refusals.specs.declared.Refusal.{Refusal}
use Rattle.temperatures.specs.declared.Reading.{Reading}
use Rattle.temperatures.specs.Readings.{answering, values_in}
use Rattle.temperatures.specs.Summaries.{Day, day_of}
use Rattle.temperatures.proofs.Exact.{degrees_at}
use Rattle.temperatures.proofs.Meanings.{is-degrees, has-reading, has-none}
use Rattle.temperatures.proofs.Paper.{not-ten-codes, lowest-offends}
use Rattle.tolimbar.specs.declared.Told.{Told}
use Rattle.tolimbar.specs.Answers.{told_in_c, placed, day_in_c, coldest_warmest, count_in}

-- ---- one code

-- a code is told so, and the place of its degrees holds that then
abbrev pub Says : ℕ → List Float → Told → List Float → Type 0
Says code before told after = (told_in_c (answering code) ≡ told) × (placed (values_in (answering code)).degrees before ≡ after)

says-as : (code : ℕ) (before : List Float) (answer : Result Reading Refusal) → answering code ≡ answer
    → Says code before (told_in_c answer) (placed (values_in answer).degrees before)
says-as code before answer e = (ap told_in_c e, ap (λ (a : Result Reading Refusal). placed (values_in a).degrees before) e)

-- "0 to 254": kind 1, and the degrees are in their place; that they are exactly the half degrees over two is `degrees-exact` of the
-- temperatures
pub told-degrees : (code : ℕ) (before : List Float) → code ≤ 254
    → Says code before (record { refusal = 0; kind = 1 }) (degrees_at code ∷ [])
told-degrees code before most =
    says-as code before (Ok _) (has-reading code (omega (arith, most)) ∙ ap Ok (is-degrees code (λ e. omega (arith, most, e))))

-- "255 is a sensor error": accepted, kind 2, and the place stays
pub told-error : (before : List Float) → Says 255 before (record { refusal = 0; kind = 2 }) before
told-error before = (refl, refl)

-- "a code above 255 gets refusal 11 and no reading": kind 0, and the place stays
pub told-refused : (code : ℕ) (before : List Float) → 255 < code → Says code before (record { refusal = 11; kind = 0 }) before
told-refused code before above = says-as code before _ (has-none code above)

-- ---- the day's summary

-- plus zero
abbrev zero-degrees : Float
zero-degrees = fin false 0 (pos 0)

-- a day is refused with that number and place, and the lent arrays hold 0.0, 0.0 and 0
abbrev pub Refuses : List ℕ → ℕ → ℕ → Type 0
Refuses codes number place =
    (day_in_c (day_of codes) ≡ record { refusal = number; place = place })
    × ((coldest_warmest (day_of codes).summary ≡ zero-degrees ∷ zero-degrees ∷ []) × (count_in (day_of codes).summary ≡ 0 ∷ []))

refuses-as : (codes : List ℕ) (day : Day) → day_of codes ≡ day
    → (day_in_c (day_of codes) ≡ day_in_c day)
    × ((coldest_warmest (day_of codes).summary ≡ coldest_warmest day.summary)
    × (count_in (day_of codes).summary ≡ count_in day.summary))
refuses-as codes day e =
    (ap day_in_c e, (ap (λ (d : Day). coldest_warmest d.summary) e, ap (λ (d : Day). count_in d.summary) e))

pub refused-count : (codes : List ℕ) → (length codes ≡ 10 → ⊥) → Refuses codes 10 0
refused-count codes other = refuses-as codes _ (not-ten-codes codes other)

pub refused-code : (codes : List ℕ) → length codes ≡ 10
    → (k : ℕ) → k < 10 → 255 < get_or codes k 0 → ((j : ℕ) → j < k → get_or codes j 0 ≤ 255) → Refuses codes 11 k
refused-code codes ten k inside offends ahead = refuses-as codes _ (lowest-offends codes ten k inside offends ahead)
