-- The definitions of a satellite's constants are what the paper prints for its number.
-- Assumes nothing.
use Prim.Native.Nat.{ℕ}
use mathlib.Core.Path.{◌≡◌, refl, ◌∙◌, ap}
use Rattle.satellites.specs.declared.Satellite.{Satellite}
use Rattle.satellites.specs.declared.Satellite.TheVariants.{HadesD, HadesIcm, MariaG, Unne1, HadesR, Unne1b, HadesSa}
use Rattle.std.specs.Prelude.{Some}
use Rattle.satellites.specs.Satellites.{number_of, known, address_of, training_of, size_byte_of}
use Rattle.satellites.specs.Paper.{Constants, paper}
use Rattle.satellites.proofs.Laws.{number-known}

abbrev pub constants_of : Satellite → Constants
constants_of s = record { address = address_of s; training = training_of s; size_byte = size_byte_of s }

pub as-printed : (s : Satellite) → constants_of s ≡ paper (number_of s)
as-printed HadesD = refl
as-printed HadesIcm = refl
as-printed MariaG = refl
as-printed Unne1 = refl
as-printed HadesR = refl
as-printed Unne1b = refl
as-printed HadesSa = refl

-- and for the number by which a call names it
pub paper-known : (n : ℕ) (s : Satellite) → known n ≡ Some s → constants_of s ≡ paper n
paper-known n s named = as-printed s ∙ ap paper (number-known n s named)
