-- The seven satellites (01, "Scope and rules" and "From antenna order to bytes"; FORMAT 2 and 3).
use Rattle.std.specs.Prelude.{ℕ, ◌+◌, Bool, true, false, cond, List, [], ◌∷◌, map, get_or, leb, Option, Some, None}
use Rattle.satellites.specs.declared.Satellite.{Satellite}
use Rattle.satellites.specs.declared.Satellite.TheVariants.{HadesD, HadesIcm, MariaG, Unne1, HadesR, Unne1b, HadesSa}

-- "The seven satellites, by their number in every call"
abbrev pub number_of : Satellite → ℕ
number_of HadesD = 0
number_of HadesIcm = 1
number_of MariaG = 2
number_of Unne1 = 3
number_of HadesR = 4
number_of Unne1b = 5
number_of HadesSa = 6

-- in the order of their numbers
abbrev pub seven : List Satellite
seven = HadesD ∷ HadesIcm ∷ MariaG ∷ Unne1 ∷ HadesR ∷ Unne1b ∷ HadesSa ∷ []

-- the satellite of a number; every number above 6 is unknown
abbrev pub known : ℕ → Option Satellite
known n = get_or (map Some seven) n None

-- an answer in the paper's numbers: the refusal's number or 0, and the satellite's number if there is one
pub record Values : Type 0 where
  pub refusal : ℕ
  pub numbers : List ℕ

-- of each case of an answer; 1 is "satellite number above 6" (01, "What is refused, and in which order"; FORMAT 7)
abbrev pub values_in : Option Satellite → Values
values_in (Some s) = record { refusal = 0; numbers = number_of s ∷ [] }
values_in None = record { refusal = 1; numbers = [] }

-- the same, computed from the number that was asked about
abbrev pub values_of : ℕ → Values
values_of n = record { refusal = cond (leb n 6) 0 1; numbers = cond (leb n 6) (n ∷ []) [] }

-- "Addresses: 8, 2, B, C, D, C, 3 (hexadecimal) for satellites 0 to 6"
abbrev pub address_of : Satellite → ℕ
address_of HadesD = 0x8
address_of HadesIcm = 0x2
address_of MariaG = 0xB
address_of Unne1 = 0xC
address_of HadesR = 0xD
address_of Unne1b = 0xC
address_of HadesSa = 0x3

-- "Training: bytes AA, 8 of them for HADES-D, 16 for all others"
abbrev pub training_of : Satellite → ℕ
training_of HadesD = 8
training_of HadesIcm = 16
training_of MariaG = 16
training_of Unne1 = 16
training_of HadesR = 16
training_of Unne1b = 16
training_of HadesSa = 16

-- "HADES-SA only: one size byte"
abbrev pub size_byte_of : Satellite → Bool
size_byte_of HadesD = false
size_byte_of HadesIcm = false
size_byte_of MariaG = false
size_byte_of Unne1 = false
size_byte_of HadesR = false
size_byte_of Unne1b = false
size_byte_of HadesSa = true

-- the type byte stands behind the training, the two bytes of sync, and the size byte if any
abbrev pub type_byte_at : Satellite → ℕ
type_byte_at s = training_of s + 2 + cond (size_byte_of s) 1 0
