-- A row starts with the satellite's clock exactly if the documents call its first field so. This is one test, computed over the types of
-- all satellites, and a law for every type. The widths alone cannot show it: type 12 starts with 32 bits of UTC.
-- Assumes nothing.
use Prim.Native.Nat.{ℕ}
use mathlib.Core.Path.{◌≡◌, refl}
use mathlib.Core.Bool.{Bool, true, false, ◌||◌}
use mathlib.Core.List.{List, []}
use lib.Dec.{T}
use lib.ListN.{get_or}
use Rattle.refusals.specs.Tests.{same}
use Rattle.satellites.specs.declared.Satellite.{Satellite}
use Rattle.satellites.specs.Satellites.{seven}
use Rattle.layouts.specs.Layouts.{counted, among, carried_by, found, entry_of, types_of, carries}
use Rattle.layouts.specs.Layouts.{table as layouts}
use Rattle.layouts.specs.Rules.{every}
use Rattle.layouts.proofs.Entries.{passes, no-entry}
use Rattle.words.specs.Words.{text}
use Rattle.names.specs.Names.{index, array_of, grid_of}
use Rattle.names.specs.Fields.{table, names_in, names_of}
use Rattle.names.proofs.Carried.{not_carried}
use Rattle.names.proofs.Everywhere.{agrees, agree, each-satellite}

-- the documents' names for 01's clock; type 12's first field, 01's UTC, is called utc
abbrev pub is_clock : List ℕ → Bool
is_clock name = same name (text "sclock") || same name (text "clock_tx")

-- whether the first field of a type has such a name
abbrev pub starts_named : Satellite → ℕ → Bool
starts_named s t = is_clock (get_or (names_of s t) 0 [])

abbrev agrees_on : Satellite → ℕ → Bool
agrees_on s t = agrees (entry_of s t).clock (starts_named s t)

all_named : T (every (λ s. every (agrees_on s) (types_of s)) seven)
unfolding every layouts counted among carried_by found table names_in text index array_of grid_of same
all_named = tt

-- a type, carried or not, starts with a clock exactly if its first field is called so
pub clock-named : (s : Satellite) (t : ℕ) → (entry_of s t).clock ≡ starts_named s t
unfolding text same
clock-named s t = go (carries s t) refl
  where
    go : (b : Bool) → carries s t ≡ b → (entry_of s t).clock ≡ starts_named s t
    go true e =
        let here = each-satellite (λ s. every (agrees_on s) (types_of s)) all_named s in
        agree (entry_of s t).clock (starts_named s t) (passes (agrees_on s) (types_of s) t here e)
    go false e = rw (not_carried s t e, no-entry s t e)
