-- The field tables (01, "The field tables", and 02, "One"; FORMAT 6), and what a program is told of a type that a satellite carries.
use Rattle.std.specs.Prelude.{ℕ, zero, suc, ◌+◌, ◌-◌, Bool, true, false, ◌||◌, cond, List, [], ◌∷◌, ◌++◌, map, length, get_or, take, replicate, eqb, Option, Some, None}
use Rattle.satellites.specs.declared.Satellite.{Satellite}
use Rattle.satellites.specs.Satellites.{number_of, type_byte_at}
use Rattle.layouts.specs.declared.Layout.{Layout}

infix 70 ◌of◌
infix 70 ◌to◌
-- "48 of 16": the widths of so many fields of so many bits
abbrev pub ◌of◌ : ℕ → ℕ → List ℕ
count of width = replicate count width

-- so many numbers, counted up from n
unfoldable pub counted : ℕ → ℕ → List ℕ
counted zero n = []
counted (suc k) n = n ∷ counted k (suc n)

-- "1 to 6"
abbrev pub ◌to◌ : ℕ → ℕ → List ℕ
first to last = counted (suc last - first) first

-- "0"
abbrev pub only : ℕ → List ℕ
only n = n ∷ []

-- "Ten temperatures are panels A to E, EPS, TX, TX2, RX, CPU, 8 bits each"
abbrev pub ten : List ℕ
ten = 10 of 8

-- a type as a satellite has it: whether the first field is the satellite's clock, the fields' widths in the order of their
-- numbers, and its size, the bytes from type byte to checksum
pub record Entry : Type 0 where
  pub frame_type : ℕ
  pub clock : Bool
  pub widths : List ℕ
  pub size : ℕ

-- a line of the table
pub record Line : Type 0 where
  pub sent_by : List ℕ
  pub entry : Entry

-- its columns: type, fields, sent by, from type byte to checksum
abbrev pub line : ℕ → List ℕ → List ℕ → ℕ → Line
line frame_type widths sent_by size =
    record { sent_by = sent_by; entry = record { frame_type = frame_type; clock = false; widths = widths; size = size } }

-- the same of a line "clock 32, ..": the fields are the clock and these
abbrev pub clocked : ℕ → List ℕ → List ℕ → ℕ → Line
clocked frame_type widths sent_by size =
    record { sent_by = sent_by; entry = record { frame_type = frame_type; clock = true; widths = 32 ∷ widths; size = size } }

unfoldable pub table : List Line
table =
    -- type 1, which 02 adds "for satellites 1 to 6": clock 32, 4 of 8, 16, 3 of 12, 16, 5 of 12, 4 of 8. The other lines are 01's
    clocked 1 (4 of 8 ++ 16 ∷ 3 of 12 ++ 16 ∷ 5 of 12 ++ 4 of 8) (1 to 6) 31
    -- ten temperatures
    ∷ line 2 ten (only 0) 13
    -- clock 32, ten temperatures
    ∷ clocked 2 ten (1 to 6) 17
    -- ten minima, ten maxima, ten means
    ∷ line 5 (ten ++ ten ++ ten) (only 0) 33
    -- clock 32, ten minima, ten maxima
    ∷ clocked 5 (ten ++ ten) (1 to 6) 27
    -- 6 of 16, 48 of 16, 8 of 16, 8 of 8
    ∷ line 6 (6 of 16 ++ 48 of 16 ++ 8 of 16 ++ 8 of 8) (1 to 5) 135
    -- clock 32, message number 8, 93 characters of 8
    ∷ clocked 7 (8 ∷ 93 of 8) (only 1) 101
    -- 8 of 16, 32, 16, then 4, 2, 1, 1, then 8, 8
    ∷ line 8 (8 of 16 ++ 32 ∷ 16 ∷ 4 ∷ 2 ∷ 1 ∷ 1 ∷ 8 ∷ 8 ∷ []) (only 0) 28
    -- 8 of 16, 32, 16, then 6 of 8
    ∷ line 8 (8 of 16 ++ 32 ∷ 16 ∷ 6 of 8) (only 6) 31
    -- clock 32, week 8, status 8, 8 of 8
    ∷ clocked 10 (8 ∷ 8 ∷ 8 of 8) (3 ∷ 5 ∷ []) 17
    -- clock 32, 2 of 8
    ∷ clocked 11 (2 of 8) (only 2) 9
    -- UTC 32, 16, 12 of 32, latitude, longitude, height 16 each, 8
    ∷ line 12 (32 ∷ 16 ∷ 12 of 32 ++ 16 ∷ 16 ∷ 16 ∷ 8 ∷ []) (1 to 6) 64
    ∷ []

-- whether a number is among some
unfoldable pub among : ℕ → List ℕ → Bool
among n [] = false
among n (m ∷ ms) = eqb m n || among n ms

-- the entries of the lines that name a satellite's number, in their order
unfoldable pub carried_by : ℕ → List Line → List Entry
carried_by n [] = []
carried_by n (l ∷ ls) = cond (among n l.sent_by) (l.entry ∷ carried_by n ls) (carried_by n ls)

-- the types that a satellite carries
abbrev pub entries_of : Satellite → List Entry
entries_of s = carried_by (number_of s) table

-- no fields and no bytes
abbrev pub nothing : Entry
nothing = record { frame_type = 0; clock = false; widths = []; size = 0 }

-- the entry of a type, and nothing where there is none
unfoldable pub found : ℕ → List Entry → Entry
found t [] = nothing
found t (e ∷ es) = cond (eqb e.frame_type t) e (found t es)

abbrev pub entry_of : Satellite → ℕ → Entry
entry_of s t = found t (entries_of s)

abbrev pub types_of : Satellite → List ℕ
types_of s = map (λ e. e.frame_type) (entries_of s)

-- "The other types of these satellites are refused as not carried"
abbrev pub carries : Satellite → ℕ → Bool
carries s t = among t (types_of s)

-- no row has more fields (`fields-most`)
abbrev pub most_fields : ℕ
most_fields = 95

-- the widths of a type, with zeros behind them
abbrev pub laid : List ℕ → List ℕ
laid widths = widths ++ replicate (most_fields - length widths) 0

-- what a program is told of an entry of a satellite. The frame's length follows from the satellite's constants: what stands ahead of the
-- type byte, and the size
abbrev pub laid_out : Satellite → Entry → Layout
laid_out s e =
    record {
      fields = length e.widths;
      size = e.size;
      frame = type_byte_at s + e.size;
      clock = e.clock;
      widths = laid e.widths;
    }

-- what it is told of a type: of one that is not carried, nothing
abbrev pub layout_of : Satellite → ℕ → Option Layout
layout_of s t = cond (carries s t) (Some (laid_out s (entry_of s t))) None

-- so many bits are they together
unfoldable pub total : List ℕ → ℕ
total [] = 0
total (w ∷ ws) = w + total ws

-- the width of a field, 0 where there is none, and the bit of the body at which it starts: the first at 0, each next one
-- where the one before ends
abbrev pub width_at : List ℕ → ℕ → ℕ
width_at widths field = get_or widths field 0

abbrev pub start_at : List ℕ → ℕ → ℕ
start_at widths field = total (take field widths)

-- the first field that is not the clock, by whether the fields start with one
abbrev pub first_behind_clock : Bool → ℕ
first_behind_clock clock = cond clock 1 0
