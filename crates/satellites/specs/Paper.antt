-- The satellites' constants, typed a second time from 01 ("From antenna order to bytes"; FORMAT 2 and 3), one line for each
-- satellite, in the order of their numbers. The definitions in Satellites.antt do not use them; the demands do (specs/Demands.antt of
-- `demands`).
use Rattle.std.specs.Prelude.{ℕ, Bool, true, false, List, [], ◌∷◌, get_or}

pub record Constants : Type 0 where
  pub address : ℕ
  pub training : ℕ
  pub size_byte : Bool

abbrev pub constants : ℕ → ℕ → Bool → Constants
constants address training size_byte = record { address = address; training = training; size_byte = size_byte }

-- the columns are address, training and size byte
abbrev pub rows : List Constants
rows =
    -- 0 HADES-D
    constants 0x8 8 false
    -- 1 HADES-ICM
    ∷ constants 0x2 16 false
    -- 2 MARIA-G
    ∷ constants 0xB 16 false
    -- 3 UNNE-1
    ∷ constants 0xC 16 false
    -- 4 HADES-R
    ∷ constants 0xD 16 false
    -- 5 UNNE-1B
    ∷ constants 0xC 16 false
    -- 6 HADES-SA
    ∷ constants 0x3 16 true
    ∷ []

-- by the satellite's number; above 6, where test 1 refuses, zeros
abbrev pub paper : ℕ → Constants
paper n = get_or rows n (constants 0 0 false)
