-- The paper's two tables typed a second time, in bare numbers: the field tables (01, "The field tables"; FORMAT 6) and the printed table
-- (01, "The printed table"; FORMAT 11), with the line and the six lines that 02, "One", adds to them. The other definitions of this crate do
-- not use them.
use Rattle.std.specs.Prelude.{ℕ, Bool, true, false, List, [], ◌∷◌, ◌++◌, replicate, Option, Some, None}
use Rattle.satellites.specs.declared.Satellite.{Satellite}
use Rattle.satellites.specs.Satellites.{number_of}
use Rattle.layouts.specs.declared.Layout.{Layout}
use Rattle.layouts.specs.Layouts.{Line, layout_of, types_of}

-- a line of the field tables: type, whether the first field is the clock, widths, sent by, from type byte to checksum
abbrev pub row : ℕ → Bool → List ℕ → List ℕ → ℕ → Line
row frame_type clock widths sent_by size =
    record { sent_by = sent_by; entry = record { frame_type = frame_type; clock = clock; widths = widths; size = size } }

abbrev pub field_tables : List Line
field_tables =
    row 1 true (32 ∷ 8 ∷ 8 ∷ 8 ∷ 8 ∷ 16 ∷ 12 ∷ 12 ∷ 12 ∷ 16 ∷ 12 ∷ 12 ∷ 12 ∷ 12 ∷ 12 ∷ 8 ∷ 8 ∷ 8 ∷ 8 ∷ []) (1 ∷ 2 ∷ 3 ∷ 4 ∷ 5 ∷ 6 ∷ []) 31
    ∷ row 2 false (8 ∷ 8 ∷ 8 ∷ 8 ∷ 8 ∷ 8 ∷ 8 ∷ 8 ∷ 8 ∷ 8 ∷ []) (0 ∷ []) 13
    ∷ row 2 true (32 ∷ 8 ∷ 8 ∷ 8 ∷ 8 ∷ 8 ∷ 8 ∷ 8 ∷ 8 ∷ 8 ∷ 8 ∷ []) (1 ∷ 2 ∷ 3 ∷ 4 ∷ 5 ∷ 6 ∷ []) 17
    ∷ row 5 false (replicate 30 8) (0 ∷ []) 33
    ∷ row 5 true (32 ∷ replicate 20 8) (1 ∷ 2 ∷ 3 ∷ 4 ∷ 5 ∷ 6 ∷ []) 27
    ∷ row 6 false (replicate 62 16 ++ replicate 8 8) (1 ∷ 2 ∷ 3 ∷ 4 ∷ 5 ∷ []) 135
    ∷ row 7 true (32 ∷ replicate 94 8) (1 ∷ []) 101
    ∷ row 8 false (16 ∷ 16 ∷ 16 ∷ 16 ∷ 16 ∷ 16 ∷ 16 ∷ 16 ∷ 32 ∷ 16 ∷ 4 ∷ 2 ∷ 1 ∷ 1 ∷ 8 ∷ 8 ∷ []) (0 ∷ []) 28
    ∷ row 8 false (16 ∷ 16 ∷ 16 ∷ 16 ∷ 16 ∷ 16 ∷ 16 ∷ 16 ∷ 32 ∷ 16 ∷ 8 ∷ 8 ∷ 8 ∷ 8 ∷ 8 ∷ 8 ∷ []) (6 ∷ []) 31
    ∷ row 10 true (32 ∷ 8 ∷ 8 ∷ 8 ∷ 8 ∷ 8 ∷ 8 ∷ 8 ∷ 8 ∷ 8 ∷ 8 ∷ []) (3 ∷ 5 ∷ []) 17
    ∷ row 11 true (32 ∷ 8 ∷ 8 ∷ []) (2 ∷ []) 9
    ∷ row 12 false (32 ∷ 16 ∷ replicate 12 32 ++ 16 ∷ 16 ∷ 16 ∷ 8 ∷ []) (1 ∷ 2 ∷ 3 ∷ 4 ∷ 5 ∷ 6 ∷ []) 64
    ∷ []

-- a line of the printed table
pub record PrintedLine : Type 0 where
  pub sat : ℕ
  pub frame_type : ℕ
  pub fields : ℕ
  pub bytes : ℕ

-- its columns: "sat type fields bytes"
abbrev pub printed_line : ℕ → ℕ → ℕ → ℕ → PrintedLine
printed_line sat frame_type fields bytes = record { sat = sat; frame_type = frame_type; fields = fields; bytes = bytes }

abbrev pub printed_table : List PrintedLine
printed_table =
    printed_line 0 2 10 23
    ∷ printed_line 0 5 30 43
    ∷ printed_line 0 8 16 38
    ∷ printed_line 1 1 19 49
    ∷ printed_line 1 2 11 35
    ∷ printed_line 1 5 21 45
    ∷ printed_line 1 6 70 153
    ∷ printed_line 1 7 95 119
    ∷ printed_line 1 12 18 82
    ∷ printed_line 2 1 19 49
    ∷ printed_line 2 2 11 35
    ∷ printed_line 2 5 21 45
    ∷ printed_line 2 6 70 153
    ∷ printed_line 2 11 3 27
    ∷ printed_line 2 12 18 82
    ∷ printed_line 3 1 19 49
    ∷ printed_line 3 2 11 35
    ∷ printed_line 3 5 21 45
    ∷ printed_line 3 6 70 153
    ∷ printed_line 3 10 11 35
    ∷ printed_line 3 12 18 82
    ∷ printed_line 4 1 19 49
    ∷ printed_line 4 2 11 35
    ∷ printed_line 4 5 21 45
    ∷ printed_line 4 6 70 153
    ∷ printed_line 4 12 18 82
    ∷ printed_line 5 1 19 49
    ∷ printed_line 5 2 11 35
    ∷ printed_line 5 5 21 45
    ∷ printed_line 5 6 70 153
    ∷ printed_line 5 10 11 35
    ∷ printed_line 5 12 18 82
    ∷ printed_line 6 1 19 50
    ∷ printed_line 6 2 11 36
    ∷ printed_line 6 5 21 46
    ∷ printed_line 6 8 16 50
    ∷ printed_line 6 12 18 83
    ∷ []

-- "satellite number, type, field count, and frame length in bytes": the line of a type by what `of` answers for it, the lines of one
-- satellite's types, and those of several satellites
abbrev pub line_by : Satellite → ℕ → Option Layout → List PrintedLine
line_by s t None = []
line_by s t (Some l) = printed_line (number_of s) t l.fields l.frame ∷ []

unfoldable pub lines_of : Satellite → List ℕ → List PrintedLine
lines_of s [] = []
lines_of s (t ∷ ts) = line_by s t (layout_of s t) ++ lines_of s ts

unfoldable pub lines : List Satellite → List PrintedLine
lines [] = []
lines (s ∷ ss) = lines_of s (types_of s) ++ lines ss
