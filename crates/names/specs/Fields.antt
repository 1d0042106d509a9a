-- The names of the satellites, and of the fields (01, "The field tables": "Field names come from the documents"; FORMAT 6).
use Rattle.std.specs.Prelude.{ℕ, cond, ◌&&◌, List, [], ◌∷◌, ◌++◌, get_or, eqb}
use Rattle.std.specs.List.{join_with_byte}
use Rattle.satellites.specs.declared.Satellite.{Satellite}
use Rattle.satellites.specs.declared.Satellite.TheVariants.{HadesD, HadesIcm, MariaG, Unne1, HadesR, Unne1b, HadesSa}
use Rattle.satellites.specs.Satellites.{number_of}
use Rattle.layouts.specs.Layouts.{◌to◌, only, among}
use Rattle.words.specs.Words.{text}
use Rattle.names.specs.Names.{words, array_of, grid_of, prefixed}

-- the satellites' own names (01, "Scope and rules"; FORMAT 2)
abbrev pub satellite_name : Satellite → List ℕ
satellite_name HadesD = text "HADES-D"
satellite_name HadesIcm = text "HADES-ICM"
satellite_name MariaG = text "MARIA-G"
satellite_name Unne1 = text "UNNE-1"
satellite_name HadesR = text "HADES-R"
satellite_name Unne1b = text "UNNE-1B"
satellite_name HadesSa = text "HADES-SA"

-- a type as some satellites send it, and the names of its fields in their order
pub record Line : Type 0 where
  pub frame_type : ℕ
  pub sent_by : List ℕ
  pub names : List (List ℕ)

abbrev pub line : ℕ → List ℕ → List (List ℕ) → Line
line frame_type sent_by names = record { frame_type = frame_type; sent_by = sent_by; names = names }

-- panels A to E, EPS, TX, TX2, RX, CPU
abbrev pub sensors : List (List ℕ)
sensors = words "tpa tpb tpc tpd tpe teps ttx ttx2 trx tcpu"

-- the names as the documents spell them: 001 describes satellite 0, 002 describes 1 to 4, 004 describes 5, and 000 describes 6
unfoldable pub table : List Line
table =
    line 1 (1 to 6) (words "sclock spa spb spc spd spi vbus1 vbat1 vcpu vbus2 vbus3 vbat2 ibat icpu ipl" ++ signals)
    ∷ line 2 (only 0) sensors
    ∷ line 2 (1 to 6) (text "sclock" ∷ sensors)
    ∷ line 5 (only 0) (prefixed "min" sensors ++ (prefixed "max" sensors ++ prefixed "med" sensors))
    ∷ line 5 (1 to 4) (text "sclock" ∷ prefixed "min" sensors ++ prefixed "max" (words "tpa tpb tpc tpd tpe tpeps ttx ttx2 trx tcpu"))
    ∷ line 5 (5 to 6) (text "sclock" ∷ prefixed "min" sensors ++ prefixed "max" sensors)
    ∷ line 8 (0 ∷ 6 ∷ []) (words "v1oc v1 i1 i1pk r1 v2oc v2 r2 t0 td state_begin state_end state_now enable counter tmp")
    ∷ line 10 (3 ∷ 5 ∷ []) (words "clock_tx week_number stored_status data0 data1 data2 data3 data4 data5 data6 data7")
    ∷ line 11 (only 2) (words "clock_tx data0 data1")
    ∷ line 12 (1 to 4) (words "utc adr ful fdl tle.epoch tle.xndt2o tle.xnnd6o" ++ behind)
    ∷ line 12 (5 to 6) (words "utc adr ful fdl tle.epoch tle.xndt2o tle.xndd6o" ++ behind)
    ∷ line 6 (1 to 5) (array_of (text "td") 6 ++ (grid_of (text "v") 8 6 ++ (array_of (text "p") 8 ++ array_of (text "err") 8)))
    ∷ line 7 (only 1) (words "sclock message_number" ++ array_of (text "data") 93)
    ∷ []
  where
    signals : List (List ℕ)
    signals = words "peaksignal modasignal lastcmdsignal lastcmdnoise"

    behind : List (List ℕ)
    behind = words "tle.bstar tle.xincl tle.xnodeo tle.eo tle.omegao tle.xmo tle.xno lat lon alt cnt"

-- the names in the first line of a satellite's type, and none where there is no such line
unfoldable pub names_in : ℕ → ℕ → List Line → List (List ℕ)
names_in number ty [] = []
names_in number ty (l ∷ ls) = cond (among number l.sent_by && eqb l.frame_type ty) l.names (names_in number ty ls)

-- the names of the fields of a satellite's type; none for a type that the satellite does not carry (`not_carried`)
abbrev pub names_of : Satellite → ℕ → List (List ℕ)
names_of s ty = names_in (number_of s) ty table

-- the name of a field; the empty name where there is no such field
abbrev pub name_of : Satellite → ℕ → ℕ → List ℕ
name_of s ty field = get_or (names_of s ty) field []

-- no row is longer (`row-not-cut`)
abbrev pub row_length : ℕ
row_length = 1024

-- names as a row: one after the other, a blank between two
abbrev pub joined_names : List (List ℕ) → List ℕ
joined_names names = join_with_byte 32 names
