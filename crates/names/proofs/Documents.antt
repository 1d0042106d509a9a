-- Type 1 is as documents 000, 002 and 004 print it: the widths of the field tables, and the names. What is wrong in definition and code
-- alike, in the field tables or among the names, is found here.
-- Assumes nothing.
use Prim.Native.Nat.{ℕ}
use mathlib.Core.Path.{◌≡◌, refl, ap₂}
use mathlib.Core.Bool.{Bool, true, false, ◌&&◌}
use mathlib.Core.List.{List, [], ◌∷◌}
use lib.Dec.{T}
use mir.Facts.{and_yes}
use Rattle.satellites.specs.declared.Satellite.{Satellite}
use Rattle.satellites.specs.declared.Satellite.TheVariants.{HadesD, HadesIcm, MariaG, Unne1, HadesR, Unne1b, HadesSa}
use Rattle.satellites.specs.Satellites.{seven}
use Rattle.layouts.specs.Layouts.{among, carried_by, counted, entry_of, found}
use Rattle.layouts.specs.Layouts.{table as layouts}
use Rattle.layouts.specs.Rules.{every}
use Rattle.words.specs.Words.{text}
use Rattle.refusals.specs.Tests.{same}
use Rattle.refusals.proofs.Tests.{same-equal}
use Rattle.names.specs.Fields.{table, names_in, names_of}
use Rattle.names.specs.Documents.{document-000, document-002, document-004, document_of, names_beside, names_printed, width_named, widths_in}
use Rattle.names.proofs.Everywhere.{true-is, each-satellite}

pub widths-printed : (s : Satellite) → (entry_of s 1).widths ≡ widths_in (document_of s)
unfolding layouts counted among carried_by found document-000 document-002 document-004 width_named text same
widths-printed HadesD = refl
widths-printed HadesIcm = refl
widths-printed MariaG = refl
widths-printed Unne1 = refl
widths-printed HadesR = refl
widths-printed Unne1b = refl
widths-printed HadesSa = refl

-- the same names in the same order
same_names : List (List ℕ) → List (List ℕ) → Bool
same_names [] [] = true
same_names [] (n ∷ ns) = false
same_names (m ∷ ms) [] = false
same_names (m ∷ ms) (n ∷ ns) = same m n && same_names ms ns

same_names_lem : (ms ns : List (List ℕ)) → T (same_names ms ns) → ms ≡ ns
unfolding same_names
same_names_lem [] [] t = refl
same_names_lem [] (n ∷ ns) t = absurd t
same_names_lem (m ∷ ms) [] t = absurd t
same_names_lem (m ∷ ms) (n ∷ ns) t =
    let both = and_yes (same m n) (same_names ms ns) t in
    ap₂ ◌∷◌ (same-equal m n (true-is (same m n) both.0)) (same_names_lem ms ns both.1)

-- one test over all satellites: computing is quick, where a comparison of the two lists runs out of steps
all-printed : T (every (λ s. same_names (names_of s 1) (names_printed (document_of s))) seven)
unfolding every same_names same table names_in counted among document-000 document-002 document-004 names_beside text
all-printed = tt

pub names-printed : (s : Satellite) → names_of s 1 ≡ names_printed (document_of s)
names-printed s =
    same_names_lem (names_of s 1) (names_printed (document_of s))
    (each-satellite (λ s. same_names (names_of s 1) (names_printed (document_of s))) all-printed s)
