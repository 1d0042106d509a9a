-- From one test that is computed over all satellites, or over all lines of the table, to each. Assumes nothing.
use Prim.Native.Nat.{ℕ}
use mathlib.Core.Path.{◌≡◌, refl, subst}
use mathlib.Core.Bool.{Bool, true, false, not, cond, ◌&&◌}
use mathlib.Core.List.{List, [], ◌∷◌, map}
use lib.Dec.{T, eqb}
use lib.ListN.{get_or}
use mir.Facts.{and_yes}
use Rattle.satellites.specs.declared.Satellite.{Satellite}
use Rattle.satellites.specs.declared.Satellite.TheVariants.{HadesD, HadesIcm, MariaG, Unne1, HadesR, Unne1b, HadesSa}
use Rattle.satellites.specs.Satellites.{number_of, seven}
use Rattle.satellites.proofs.Laws.{number-below}
use Rattle.layouts.specs.Layouts.{among}
use Rattle.layouts.specs.Rules.{every}
use Rattle.layouts.proofs.Entries.{each}
use Rattle.names.specs.Fields.{Line, table, names_in, names_of}

-- two tests have the same answer
abbrev pub agrees : Bool → Bool → Bool
agrees a b = cond a b (not b)

pub agree : (a b : Bool) → T (agrees a b) → a ≡ b
agree true true t = refl
agree true false t = absurd t
agree false true t = absurd t
agree false false t = refl

pub true-is : (b : Bool) → T b → b ≡ true
true-is true t = refl
true-is false t = absurd t

-- the satellites are in the order of their numbers, and so is what is said of each
pub by_number : {A : Type 0} (f : Satellite → A) (d : A) (s : Satellite) → get_or (map f seven) (number_of s) d ≡ f s
by_number f d HadesD = refl
by_number f d HadesIcm = refl
by_number f d MariaG = refl
by_number f d Unne1 = refl
by_number f d HadesR = refl
by_number f d Unne1b = refl
by_number f d HadesSa = refl

-- what passes for all seven passes for each
pub each-satellite : (test : Satellite → Bool) → T (every test seven) → (s : Satellite) → T (test s)
each-satellite test t s =
    subst (λ (s : Satellite). T (test s)) (by_number (λ s. s) HadesD s) (each test HadesD seven t (number_of s) (number-below s))

in_lines : (test : List (List ℕ) → Bool) → T (test []) → (number ty : ℕ) (ls : List Line) → T (every (λ l. test l.names) ls)
    → T (test (names_in number ty ls))
unfolding every names_in
in_lines test none number ty [] t = none
in_lines test none number ty (l ∷ ls) t =
    let both = and_yes (test l.names) (every (λ l. test l.names) ls) t in
    go (among number l.sent_by && eqb l.frame_type ty) both.0 (in_lines test none number ty ls both.1)
  where
    go : (b : Bool) → T (test l.names) → T (test (names_in number ty ls)) → T (test (cond b l.names (names_in number ty ls)))
    go true this rest = this
    go false this rest = rest

-- what the names of every line pass, and no names pass too, passes for every satellite's type
pub each-type : (test : List (List ℕ) → Bool) → T (test []) → T (every (λ l. test l.names) table) → (s : Satellite) (t : ℕ)
    → T (test (names_of s t))
each-type test none all s t = in_lines test none (number_of s) t table all
