-- Every type has as many names as fields, and no name is empty or long: tests that are computed over the types of all satellites and over the
-- table, and the laws that lead from the tests to every type.
-- Assumes nothing.
use Prim.Native.Nat.{ℕ, zero, suc, ◌≤◌, ◌<◌}
use mathlib.Core.Path.{◌≡◌, refl}
use mathlib.Core.Bool.{Bool, true, false, ◌&&◌}
use mathlib.Core.List.{List, [], ◌∷◌}
use lib.Dec.{T, leb, eqb, leb→le, eqb→eq}
use lib.ListN.{length, get_or}
use mir.Facts.{and_yes}
use Rattle.satellites.specs.declared.Satellite.{Satellite}
use Rattle.satellites.specs.Satellites.{seven}
use Rattle.layouts.specs.Layouts.{counted, among, carried_by, found, entry_of, types_of, carries}
use Rattle.layouts.specs.Layouts.{table as layouts}
use Rattle.layouts.specs.Rules.{every}
use Rattle.layouts.proofs.Entries.{each, passes, no-entry}
use Rattle.words.specs.Words.{text}
use Rattle.std.proofs.lemmas.List.{take_all}
use Rattle.names.specs.Names.{index, array_of, grid_of, most_letters, written}
use Rattle.names.specs.Fields.{table, names_in, names_of, name_of}
use Rattle.names.proofs.Carried.{not_carried}
use Rattle.names.proofs.Everywhere.{each-satellite, each-type}

-- a type has as many names as fields
abbrev so_many : Satellite → ℕ → Bool
so_many s t = eqb (length (names_of s t)) (length (entry_of s t).widths)

all-as-many : T (every (λ s. every (so_many s) (types_of s)) seven)
unfolding every layouts counted among carried_by found table names_in text index array_of grid_of
all-as-many = tt

-- every type, carried or not, has as many names as fields
pub as_many : (s : Satellite) (t : ℕ) → length (names_of s t) ≡ length (entry_of s t).widths
as_many s t = go (carries s t) refl
  where
    go : (b : Bool) → carries s t ≡ b → length (names_of s t) ≡ length (entry_of s t).widths
    go true e =
        let here = each-satellite (λ s. every (so_many s) (types_of s)) all-as-many s in
        eqb→eq (length (names_of s t)) (length (entry_of s t).widths) (passes (so_many s) (types_of s) t here e)
    go false e = rw (not_carried s t e, no-entry s t e)

-- a name has a letter, and not too many
abbrev fits : List ℕ → Bool
fits name = leb 1 (length name) && leb (length name) most_letters

all_fit : T (every (λ l. every fits l.names) table)
unfolding every counted table text index array_of grid_of
all_fit = tt

names-fit : (s : Satellite) (t : ℕ) → T (every fits (names_of s t))
unfolding every
names-fit s t = each-type (every fits) tt all_fit s t

fitted : (name : List ℕ) → T (fits name) → (1 ≤ length name) × (length name ≤ most_letters)
fitted name t =
    let both = and_yes (leb 1 (length name)) (leb (length name) most_letters) t in
    (leb→le 1 (length name) both.0, leb→le (length name) most_letters both.1)

all-written : (names : List (List ℕ)) → T (every fits names) → (field : ℕ) → written (get_or names field []) ≡ get_or names field []
unfolding every
all-written [] t zero = refl
all-written [] t (suc field) = refl
all-written (name ∷ names) t zero = take_all most_letters name (fitted name (and_yes (fits name) (every fits names) t).0).1
all-written (name ∷ names) t (suc field) = all-written names (and_yes (fits name) (every fits names) t).1 field

-- of a field's name all letters are answered
pub name-written : (s : Satellite) (t field : ℕ) → written (name_of s t field) ≡ name_of s t field
name-written s t field = all-written (names_of s t) (names-fit s t) field

module _ (s : Satellite) (t field : ℕ) (inside : field < length (names_of s t)) where
  name-fits : (1 ≤ length (get_or (names_of s t) field [])) × (length (get_or (names_of s t) field []) ≤ most_letters)
  name-fits = fitted (get_or (names_of s t) field []) (each fits [] (names_of s t) (names-fit s t) field inside)

  -- no field's name is empty
  pub name-not-empty : 1 ≤ length (get_or (names_of s t) field [])
  name-not-empty = name-fits.0

  -- no name is longer than so many letters: a place for them cuts none
  pub name-not-cut : length (name_of s t field) ≤ most_letters
  name-not-cut = name-fits.1
