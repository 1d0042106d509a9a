-- The body: the fields of the table, tiling it with no gap, each an unsigned number (01, "From antenna order to bytes";
-- FORMAT 1 and 6). Bits here are those of the body in antenna order, widths those of its fields in the order of the table.
use Rattle.std.specs.Prelude.{ℕ, suc, ◌+◌, ◌^◌, Bool, cond, List, [], ◌∷◌, ◌++◌, get_or, take, drop, ltb}
use Rattle.bits.specs.Bits.{bits, number, field_answer, replaced_answer}
use Rattle.layouts.specs.declared.Layout.{Layout}

-- the values that bits hold, field after field
unfoldable pub told : List ℕ → List Bool → List ℕ
told [] bs = []
told (w ∷ ws) bs = number (take w bs) ∷ told ws (drop w bs)

-- the bits that values make, field after field; a value that is missing counts as 0
unfoldable pub tiled : List ℕ → List ℕ → List Bool
tiled [] vs = []
tiled (w ∷ ws) vs = bits w (get_or vs 0 0) ++ tiled ws (drop 1 vs)

-- how many values, from the first on, fit their fields: the lowest field number that does not fit, or the field count
-- where all do
unfoldable pub fitting : List ℕ → List ℕ → ℕ
fitting [] vs = 0
fitting (w ∷ ws) vs = cond (ltb (get_or vs 0 0) (2 ^ w)) (suc (fitting ws (drop 1 vs))) 0

-- the widths of the fields that a layout tells of
abbrev pub widths_in : Layout → List ℕ
widths_in l = take l.fields l.widths

-- what reading answers for any layout and body: a field that does not lie inside the body reads as 0
unfoldable pub values_from : ℕ → List ℕ → List ℕ → List ℕ
values_from at [] body = []
values_from at (w ∷ ws) body = field_answer at w body ∷ values_from (at + w) ws body

-- what writing leaves for any layout and body: a field that does not lie inside the body is not written
unfoldable pub laid_from : ℕ → List ℕ → List ℕ → List ℕ → List ℕ
laid_from at [] vs body = body
laid_from at (w ∷ ws) vs body = laid_from (at + w) ws (drop 1 vs) (replaced_answer at w (get_or vs 0 0) body)

-- places from the first on take the values; later places stay, and values that find no place are left out
unfoldable pub filled : List ℕ → List ℕ → List ℕ
filled [] room = room
filled (v ∷ vs) [] = []
filled (v ∷ vs) (x ∷ room) = v ∷ filled vs room
