-- The tables of type 1 in documents 000, 002 and 004, line by line from behind the address up to the checksum (02, "One"; FORMAT 6). The field
-- tables and the names do not use them: proofs/Documents.antt compares.
use Rattle.std.specs.Prelude.{ℕ, cond, List, [], ◌∷◌, map}
use Prim.Native.String.{String}
use Rattle.satellites.specs.declared.Satellite.{Satellite}
use Rattle.satellites.specs.declared.Satellite.TheVariants.{HadesD, HadesIcm, MariaG, Unne1, HadesR, Unne1b, HadesSa}
use Rattle.words.specs.Words.{text}
use Rattle.refusals.specs.Tests.{same}

-- a line as it is printed, the name in lower case: a field's bits and its name, only the name where the bits cannot be read, or bits and a
-- name that is damaged
pub data DocumentLine : Type 0 where
  legible : ℕ → String → DocumentLine
  unread : String → DocumentLine
  damaged : ℕ → String → DocumentLine

abbrev pub name_in : DocumentLine → List ℕ
name_in (legible width name) = text name
name_in (unread name) = text name
name_in (damaged width name) = text name

-- document 002: HADES-ICM, MARIA-G, UNNE-1 and HADES-R
unfoldable pub document-002 : List DocumentLine
document-002 =
    legible 32 "sclock" ∷ legible 8 "spa" ∷ legible 8 "spb" ∷ legible 8 "spc" ∷ legible 8 "spd" ∷ legible 16 "spi"
    ∷ legible 12 "vbus1" ∷ legible 12 "vbat1" ∷ legible 12 "vcpu" ∷ legible 16 "vbus2"
    ∷ legible 12 "vbus3" ∷ legible 12 "vbat2" ∷ legible 12 "ibat" ∷ legible 12 "icpu" ∷ legible 12 "ipl"
    ∷ legible 8 "peaksignal" ∷ legible 8 "modasignal" ∷ legible 8 "lastcmdsignal" ∷ legible 8 "lastcmdnoise" ∷ []

-- document 004: UNNE-1B
unfoldable pub document-004 : List DocumentLine
document-004 =
    legible 32 "sclock" ∷ legible 8 "spa" ∷ legible 8 "spb" ∷ legible 8 "spc" ∷ legible 8 "spd" ∷ legible 16 "spi"
    ∷ legible 12 "vbus1" ∷ legible 12 "vbat1" ∷ legible 12 "vcpu" ∷ legible 16 "vbus2"
    ∷ legible 12 "vbus3" ∷ legible 12 "vbat2" ∷ legible 12 "ibat" ∷ legible 12 "icpu" ∷ legible 12 "ipl"
    ∷ legible 8 "peaksignal" ∷ legible 8 "modasignal" ∷ legible 8 "lastcmdsignal" ∷ legible 8 "lastcmdnoise" ∷ []

-- document 000: HADES-SA
unfoldable pub document-000 : List DocumentLine
document-000 =
    legible 32 "sclock" ∷ unread "spa" ∷ unread "spb" ∷ unread "spc" ∷ unread "spd" ∷ legible 16 "spi"
    ∷ damaged 12 "vbusl" ∷ damaged 12 "vbatl" ∷ damaged 12 "vepu" ∷ legible 16 "vbus2"
    ∷ legible 12 "vbus3" ∷ legible 12 "vbat2" ∷ legible 12 "ibat" ∷ legible 12 "icpu" ∷ legible 12 "ipl"
    ∷ legible 8 "peaksignal" ∷ legible 8 "modasignal" ∷ legible 8 "lastcmdsignal" ∷ legible 8 "lastcmdnoise" ∷ []

-- the table of a satellite; HADES-D has none: 02 leaves that of document 001 out
abbrev pub document_of : Satellite → List DocumentLine
document_of HadesD = []
document_of HadesIcm = document-002
document_of MariaG = document-002
document_of Unne1 = document-002
document_of HadesR = document-002
document_of Unne1b = document-004
document_of HadesSa = document-000

-- the bits that some lines print for a name; 0 where none does
unfoldable pub width_named : List ℕ → List DocumentLine → ℕ
width_named name [] = 0
width_named name (legible width other ∷ ls) = cond (same (text other) name) width (width_named name ls)
width_named name (unread other ∷ ls) = width_named name ls
width_named name (damaged width other ∷ ls) = width_named name ls

-- "A width that cannot be read in 000 is that of the field of the same name in 002"
abbrev pub width_in : DocumentLine → ℕ
width_in (legible width name) = width
width_in (unread name) = width_named (text name) document-002
width_in (damaged width name) = width

abbrev pub widths_in : List DocumentLine → List ℕ
widths_in ls = map width_in ls

-- a damaged name is the one that 002 has at the same place (docs/NAMES.md)
abbrev pub name_beside : DocumentLine → DocumentLine → List ℕ
name_beside (legible width name) other = text name
name_beside (unread name) other = text name
name_beside (damaged width name) other = name_in other

unfoldable pub names_beside : List DocumentLine → List DocumentLine → List (List ℕ)
names_beside [] others = []
names_beside (l ∷ ls) [] = name_in l ∷ names_beside ls []
names_beside (l ∷ ls) (other ∷ others) = name_beside l other ∷ names_beside ls others

abbrev pub names_printed : List DocumentLine → List (List ℕ)
names_printed ls = names_beside ls document-002
