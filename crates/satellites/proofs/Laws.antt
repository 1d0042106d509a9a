-- Numbers and satellites: seven numbers name one each, and no other number names any.
-- Assumes nothing.
use Prim.Native.Nat.{ℕ, zero, suc, ◌≤◌, ◌<◌}
use native.Mathlib.Omega.{arith}
use mathlib.Core.Path.{◌≡◌, refl, sym, ◌∙◌, ap, subst}
use mathlib.Core.List.{map}
use lib.Dec.{lit≤}
use lib.ListN.{length, get_or-eq_default}
use Rattle.satellites.specs.declared.Satellite.{Satellite}
use Rattle.satellites.specs.declared.Satellite.TheVariants.{HadesD, HadesIcm, MariaG, Unne1, HadesR, Unne1b, HadesSa}
use Rattle.std.specs.Prelude.{Option, Some, None}
use Rattle.satellites.specs.Satellites.{number_of, address_of, seven, known, type_byte_at}

-- the satellite that its number names is itself
pub known-number : (s : Satellite) → known (number_of s) ≡ Some s
known-number HadesD = refl
known-number HadesIcm = refl
known-number MariaG = refl
known-number Unne1 = refl
known-number HadesR = refl
known-number Unne1b = refl
known-number HadesSa = refl

-- every number above 6 is unknown, however large
pub unknown : (n : ℕ) → 6 < n → known n ≡ None
unknown n above = get_or-eq_default (map Some seven) None {n = n} above

-- the satellite that a number names has that number
pub number-known : (n : ℕ) (s : Satellite) → known n ≡ Some s → number_of s ≡ n
number-known n s e = sym (ap named e) ∙ back n e
  where
    is_unknown : Option Satellite → Type 0
    is_unknown (Some s) = ⊥
    is_unknown None = Unit

    named : Option Satellite → ℕ
    named (Some s) = number_of s
    named None = 0

    back : (n : ℕ) → known n ≡ Some s → named (known n) ≡ n
    back zero e = refl
    back (suc zero) e = refl
    back (suc (suc zero)) e = refl
    back (suc (suc (suc zero))) e = refl
    back (suc (suc (suc (suc zero)))) e = refl
    back (suc (suc (suc (suc (suc zero))))) e = refl
    back (suc (suc (suc (suc (suc (suc zero)))))) e = refl
    back (suc (suc (suc (suc (suc (suc (suc n))))))) e = absurd (subst is_unknown e tt)

-- the numbers are those below the count
pub number-below : (s : Satellite) → number_of s < length seven
number-below HadesD = lit≤ tt
number-below HadesIcm = lit≤ tt
number-below MariaG = lit≤ tt
number-below Unne1 = lit≤ tt
number-below HadesR = lit≤ tt
number-below Unne1b = lit≤ tt
number-below HadesSa = lit≤ tt

-- and no type byte stands behind place 19
pub type-byte-most : (s : Satellite) → type_byte_at s ≤ 19
type-byte-most HadesD = lit≤ tt
type-byte-most HadesIcm = lit≤ tt
type-byte-most MariaG = lit≤ tt
type-byte-most Unne1 = lit≤ tt
type-byte-most HadesR = lit≤ tt
type-byte-most Unne1b = lit≤ tt
type-byte-most HadesSa = lit≤ tt

-- every address fits its four bits
pub address-most : (s : Satellite) → address_of s < 16
address-most HadesD = lit≤ tt
address-most HadesIcm = lit≤ tt
address-most MariaG = lit≤ tt
address-most Unne1 = lit≤ tt
address-most HadesR = lit≤ tt
address-most Unne1b = lit≤ tt
address-most HadesSa = lit≤ tt

-- every number up to 6 names a satellite
pub known-below : (n : ℕ) → n < 7 → (s : Satellite) × (known n ≡ Some s)
known-below zero h = (HadesD, refl)
known-below (suc zero) h = (HadesIcm, refl)
known-below (suc (suc zero)) h = (MariaG, refl)
known-below (suc (suc (suc zero))) h = (Unne1, refl)
known-below (suc (suc (suc (suc zero)))) h = (HadesR, refl)
known-below (suc (suc (suc (suc (suc zero))))) h = (Unne1b, refl)
known-below (suc (suc (suc (suc (suc (suc zero)))))) h = (HadesSa, refl)
known-below (suc (suc (suc (suc (suc (suc (suc n))))))) h = absurd (omega arith)
