-- What every row keeps to (01, "From antenna order to bytes" and "The field tables"; FORMAT 6): the rules, and tests of
-- them that can be computed over the whole table.
use Rattle.std.specs.Prelude.{ℕ, ◌+◌, ◌*◌, ◌≤◌, ◌<◌, ◌≡◌, Bool, true, ◌&&◌, cond, List, [], ◌∷◌, length, get_or, leb, ltb, eqb}
use Rattle.layouts.specs.Layouts.{Entry, total, most_fields, width_at}

-- the fields tile the body: type and address take 8 bits, the checksum 16, and the fields all bits between
abbrev pub Tiles : Entry → Type 0
Tiles e = 8 + total e.widths + 16 ≡ 8 * e.size

-- every width is 1 to 32
abbrev pub Allowed : List ℕ → Type 0
Allowed widths = (k : ℕ) → k < length widths → (1 ≤ get_or widths k 0) × (get_or widths k 0 ≤ 32)

-- each is below those behind it
abbrev pub Ascending : List ℕ → Type 0
Ascending ns = (i j : ℕ) → i < j → j < length ns → get_or ns i 0 < get_or ns j 0

-- where the first field is the clock, there is such a field, and it is 32 bits wide
abbrev pub ClockFirst : Entry → Type 0
ClockFirst e = e.clock ≡ true → (0 < length e.widths) × (width_at e.widths 0 ≡ 32)

-- a test passes at every element of a list
unfoldable pub every : {A : Type 0} → (A → Bool) → List A → Bool
every test [] = true
every test (x ∷ xs) = test x && every test xs

abbrev pub tiles : Entry → Bool
tiles e = eqb (8 + total e.widths + 16) (8 * e.size)

abbrev pub allowed : List ℕ → Bool
allowed widths = every (λ w. leb 1 w && leb w 32) widths

unfoldable pub ascending : List ℕ → Bool
ascending [] = true
ascending (n ∷ ns) = every (λ m. ltb n m) ns && ascending ns

abbrev pub clock_first : Entry → Bool
clock_first e = cond e.clock (ltb 0 (length e.widths) && eqb (width_at e.widths 0) 32) true

-- an entry keeps to the rules; its size can stand in a size byte, and its widths in the code's array
abbrev pub right : Entry → Bool
right e = tiles e && (allowed e.widths && (leb e.size 255 && leb (length e.widths) most_fields))
