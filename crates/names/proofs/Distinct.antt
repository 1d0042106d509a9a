-- A name names one field of its type, and one satellite: a test that is computed over the table, and over the satellites, and the law
-- that leads from the test to every two names.
-- Assumes nothing.
use Prim.Native.Nat.{ℕ, zero, suc, ◌+◌, ◌*◌, ◌<◌}
use native.Mathlib.Nat.{le_of_suc-le-suc, not-suc-le-zero}
use mathlib.Core.Path.{◌≡◌, refl, ◌∙◌, sym, ap, subst}
use mathlib.Core.Bool.{Bool, true, not, ◌&&◌}
use mathlib.Core.List.{List, [], ◌∷◌, map}
use lib.Dec.{T, eqb, eqb_refl, T_not}
use lib.ListN.{length, get_or, length-map, get_or-map}
use mir.Facts.{and_yes}
use Rattle.satellites.specs.declared.Satellite.{Satellite}
use Rattle.satellites.specs.Satellites.{number_of, known, seven}
use Rattle.satellites.proofs.Laws.{known-number, number-below}
use Rattle.layouts.specs.Layouts.{counted}
use Rattle.layouts.specs.Rules.{every}
use Rattle.layouts.proofs.Entries.{each}
use Rattle.words.specs.Words.{text}
use Rattle.names.specs.Names.{index, array_of, grid_of}
use Rattle.names.specs.Fields.{satellite_name, table, names_of, name_of}
use Rattle.names.proofs.Everywhere.{by_number, each-type}

-- a number is none of some numbers
abbrev differs : ℕ → List ℕ → Bool
differs n ns = every (λ m. not (eqb n m)) ns

-- no number is there twice
once : List ℕ → Bool
once [] = true
once (n ∷ ns) = differs n ns && once ns

-- a number that is none of them is at none of their places
not-again : (n : ℕ) (ns : List ℕ) → T (differs n ns) → (k : ℕ) → k < length ns → n ≡ get_or ns k 0 → ⊥
not-again n ns t k h e =
    T_not (eqb n (get_or ns k 0)) (each (λ m. not (eqb n m)) 0 ns t k h) (subst (λ (m : ℕ). T (eqb n m)) e (eqb_refl n))

-- where no number is there twice, equal numbers are at one place
one_place : (ns : List ℕ) → T (once ns) → (i j : ℕ) → i < length ns → j < length ns → get_or ns i 0 ≡ get_or ns j 0 → i ≡ j
unfolding once
one_place [] t i j h k e = absurd (not-suc-le-zero h)
one_place (n ∷ ns) t zero zero h k e = refl
one_place (n ∷ ns) t zero (suc j) h k e = absurd (not-again n ns (and_yes (differs n ns) (once ns) t).0 j (le_of_suc-le-suc k) e)
one_place (n ∷ ns) t (suc i) zero h k e = absurd (not-again n ns (and_yes (differs n ns) (once ns) t).0 i (le_of_suc-le-suc h) (sym e))
one_place (n ∷ ns) t (suc i) (suc j) h k e =
    ap suc (one_place ns (and_yes (differs n ns) (once ns) t).1 i j (le_of_suc-le-suc h) (le_of_suc-le-suc k) e)

-- letters as the digits of one number
as_number : List ℕ → ℕ
as_number [] = 0
as_number (x ∷ xs) = x + 256 * as_number xs

-- no two of the names are the same: equal names have equal numbers
abbrev distinct : List (List ℕ) → Bool
distinct names = once (map as_number names)

-- where no two of them are, equal names are at one place
told-apart : (names : List (List ℕ)) → T (distinct names) → (i j : ℕ) → i < length names → j < length names
    → get_or names i [] ≡ get_or names j [] → i ≡ j
unfolding as_number
told-apart names t i j h k e =
    one_place (map as_number names) t i j (rw length-map h) (rw length-map k)
    (get_or-map as_number names i [] ∙ ap as_number e ∙ sym (get_or-map as_number names j []))

all-distinct : T (every (λ l. distinct l.names) table)
unfolding every counted table text index array_of grid_of once as_number
all-distinct = tt

distinct-names : (s : Satellite) (t : ℕ) → T (distinct (names_of s t))
unfolding once
distinct-names s t = each-type distinct tt all-distinct s t

-- no two fields of a type have the same name
pub names-distinct : (s : Satellite) (t i j : ℕ) → i < length (names_of s t) → j < length (names_of s t)
    → name_of s t i ≡ name_of s t j → i ≡ j
names-distinct s t i j h k e = told-apart (names_of s t) (distinct-names s t) i j h k e

-- the satellites' names, in the order of their numbers
abbrev satellite_names : List (List ℕ)
satellite_names = map satellite_name seven

satellites-all-distinct : T (distinct satellite_names)
unfolding every text once as_number
satellites-all-distinct = tt

-- no two satellites have the same name
pub satellites-distinct : (s t : Satellite) → satellite_name s ≡ satellite_name t → s ≡ t
satellites-distinct s t e =
    let name = by_number satellite_name [] s ∙ e ∙ sym (by_number satellite_name [] t) in
    let number : number_of s ≡ number_of t =
    told-apart satellite_names satellites-all-distinct (number_of s) (number_of t) (number-below s) (number-below t) name in
    cc (known-number s, known-number t, ap known number)
