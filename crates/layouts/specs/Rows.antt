-- How the code keeps the table: a row is its type, its size, and then pairs, so many fields of so many bits; a first pair of 1 of 32
-- is the clock. Every row has the same number of numbers.
use Rattle.std.specs.Prelude.{ℕ, ◌&&◌, List, eqb, get_or, drop}
use Rattle.std.specs.List.{flat_map}
use Rattle.std.specs.Simd.{first_chunks}
use Rattle.layouts.specs.Layouts.{Entry, ◌of◌}

abbrev pub Row : Type 0
Row = List ℕ

-- the pairs behind type and size
unfoldable pub pairs_of : Row → List (List ℕ)
pairs_of row = first_chunks 2 7 (drop 2 row)

-- the widths that pairs stand for
abbrev pub group : List ℕ → List ℕ
group pair = get_or pair 0 0 of get_or pair 1 0

abbrev pub unrolled : List (List ℕ) → List ℕ
unrolled pairs = flat_map group pairs

abbrev pub says : Row → Entry
says row =
    record {
      frame_type = get_or row 0 0;
      clock = eqb (get_or row 2 0) 1 && eqb (get_or row 3 0) 32;
      widths = unrolled (pairs_of row);
      size = get_or row 1 0;
    }
