-- The names of the ten temperatures of type 2, computed for each satellite.
-- Assumes nothing.
use mathlib.Core.Path.{◌≡◌, refl}
use mathlib.Core.List.{[], ◌∷◌}
use lib.ListN.{drop}
use Rattle.satellites.specs.declared.Satellite.{Satellite}
use Rattle.satellites.specs.declared.Satellite.TheVariants.{HadesD, HadesIcm, MariaG, Unne1, HadesR, Unne1b, HadesSa}
use Rattle.layouts.specs.Layouts.{counted, among, carried_by, found, entry_of, first_behind_clock}
use Rattle.layouts.specs.Layouts.{table as layouts}
use Rattle.words.specs.Words.{text}
use Rattle.names.specs.Fields.{table, names_in, names_of}

-- behind the clock, if there is one, the fields of type 2 are tpa to tcpu in every satellite's document, and nothing is behind them
pub named-so : (s : Satellite) → drop (first_behind_clock (entry_of s 2).clock) (names_of s 2)
    ≡ text "tpa" ∷ text "tpb" ∷ text "tpc" ∷ text "tpd" ∷ text "tpe" ∷ text "teps" ∷ text "ttx" ∷ text "ttx2" ∷ text "trx" ∷ text "tcpu" ∷ []
unfolding text layouts counted among carried_by found table names_in
named-so HadesD = refl
named-so HadesIcm = refl
named-so MariaG = refl
named-so Unne1 = refl
named-so HadesR = refl
named-so Unne1b = refl
named-so HadesSa = refl
