-- The rules hold at each entry: one test that is computed over the whole table, and the law that leads from the test to
-- each entry.
-- Assumes nothing.
use Prim.Native.Nat.{ℕ, zero, suc, ◌+◌, ◌*◌, ◌≤◌, ◌<◌}
use native.Mathlib.Nat.{le_of_suc-le-suc, not-suc-le-zero}
use mathlib.Core.Path.{subst, ◌≡◌, refl, sym}
use mathlib.Core.Bool.{Bool, true, false, false≢true, ◌&&◌, ◌||◌, cond}
use mathlib.Core.List.{List, [], ◌∷◌, map}
use borrow.Author.Tests.{eqb-true}
use mir.Facts.{and_yes}
use lib.Dec.{T, leb, ltb, eqb, leb→le, ltb→lt, eqb→eq}
use lib.ListN.{length, get_or}
use Rattle.satellites.specs.declared.Satellite.{Satellite}
use Rattle.satellites.specs.declared.Satellite.TheVariants.{HadesD, HadesIcm, MariaG, Unne1, HadesR, Unne1b, HadesSa}
use Rattle.satellites.specs.Satellites.{number_of}
use Rattle.layouts.specs.Layouts.{among, carried_by, carries, counted, entries_of, Entry, entry_of, found, Line, most_fields, nothing, table, total, types_of}
use Rattle.layouts.specs.Rules.{Tiles, Allowed, Ascending, every, tiles, allowed, ascending, right}

-- what passes at every element passes at each
pub each : {A : Type 0} (test : A → Bool) (d : A) (xs : List A) → T (every test xs) → (k : ℕ) → k < length xs
    → T (test (get_or xs k d))
unfolding every
each test d [] t k h = absurd (not-suc-le-zero h)
each test d (x ∷ xs) t zero h = (and_yes (test x) (every test xs) t).0
each test d (x ∷ xs) t (suc k) h = each test d xs (and_yes (test x) (every test xs) t).1 k (le_of_suc-le-suc h)

-- two tests pass together
both : (a b : Bool) → T a → T b → T (a && b)
both true b t u = u
both false b t u = absurd t

-- what passes in all lines passes in those of one satellite
carried-pass : (test : Entry → Bool) (n : ℕ) (ls : List Line) → T (every (λ l. test l.entry) ls) → T (every test (carried_by n ls))
unfolding every carried_by
carried-pass test n [] t = tt
carried-pass test n (l ∷ ls) t =
    let parts = and_yes (test l.entry) (every (λ l. test l.entry) ls) t in
    go (among n l.sent_by) (carried_by n ls) parts.0 (carried-pass test n ls parts.1)
  where
    go : (b : Bool) (es : List Entry) → T (test l.entry) → T (every test es) → T (every test (cond b (l.entry ∷ es) es))
    go true es this rest = both (test l.entry) (every test es) this rest
    go false es this rest = rest

-- the entry that is found passes
found-passes : (test : Entry → Bool) (t : ℕ) (es : List Entry) → T (every test es) → among t (map (λ e. e.frame_type) es) ≡ true
    → T (test (found t es))
unfolding every among found
found-passes test t [] p in-it = absurd (false≢true in-it)
found-passes test t (e ∷ es) p in-it =
    let parts = and_yes (test e) (every test es) p in
    go (eqb e.frame_type t) in-it parts.0 (found-passes test t es parts.1)
  where
    go : (b : Bool) → b || among t (map (λ e. e.frame_type) es) ≡ true → T (test e)
        → (among t (map (λ e. e.frame_type) es) ≡ true → T (test (found t es))) → T (test (cond b e (found t es)))
    go true in-it this rest = this
    go false in-it this rest = rest in-it

-- a type that is not carried has no entry
not_found : (t : ℕ) (es : List Entry) → among t (map (λ e. e.frame_type) es) ≡ false → found t es ≡ nothing
unfolding among found
not_found t [] out = refl
not_found t (e ∷ es) out = go (eqb e.frame_type t) out (not_found t es)
  where
    go : (b : Bool) → b || among t (map (λ e. e.frame_type) es) ≡ false
        → (among t (map (λ e. e.frame_type) es) ≡ false → found t es ≡ nothing) → cond b e (found t es) ≡ nothing
    go true out rest = absurd (false≢true (sym out))
    go false out rest = rest out

-- the rule at each entry, from the test over the whole table
pub rule : (test : Entry → Bool) → T (every (λ l. test l.entry) table) → (s : Satellite) (t : ℕ) → carries s t ≡ true
    → T (test (entry_of s t))
rule test passed s t carried = found-passes test t (entries_of s) (carried-pass test (number_of s) table passed) carried

pub no-entry : (s : Satellite) (t : ℕ) → carries s t ≡ false → entry_of s t ≡ nothing
no-entry s t other = not_found t (entries_of s) other

-- the test
all_right : T (every (λ l. right l.entry) table)
unfolding every table total counted
all_right = tt

-- what it says of a type that is carried: the four tests of `right`, one after the other
right-entry : (s : Satellite) (t : ℕ) → carries s t ≡ true
    → T (tiles (entry_of s t))
    × (T (allowed (entry_of s t).widths) × (T (leb (entry_of s t).size 255) × T (leb (length (entry_of s t).widths) most_fields)))
right-entry s t carried =
    let e = entry_of s t in
    let small = leb e.size 255 in
    let few = leb (length e.widths) most_fields in
    let first = and_yes (tiles e) (allowed e.widths && (small && few)) (rule right all_right s t carried) in
    let second = and_yes (allowed e.widths) (small && few) first.1 in
    (first.0, (second.0, and_yes small few second.1))

-- the fields of every type tile its body with no gap
pub tiles-body : (s : Satellite) (t : ℕ) → carries s t ≡ true → Tiles (entry_of s t)
tiles-body s t carried =
    let e = entry_of s t in
    eqb→eq (8 + total e.widths + 16) (8 * e.size) (right-entry s t carried).0

-- every width is 1 to 32
pub widths-allowed : (s : Satellite) (t : ℕ) → carries s t ≡ true → Allowed (entry_of s t).widths
widths-allowed s t carried k h =
    let ws = (entry_of s t).widths in
    let w = get_or ws k 0 in
    let parts = and_yes (leb 1 w) (leb w 32) (each (λ w. leb 1 w && leb w 32) 0 ws (right-entry s t carried).1.0 k h) in
    (leb→le 1 w parts.0, leb→le w 32 parts.1)

-- every size can stand in a size byte
pub size-most : (s : Satellite) (t : ℕ) → carries s t ≡ true → (entry_of s t).size ≤ 255
size-most s t carried = leb→le (entry_of s t).size 255 (right-entry s t carried).1.1.0

-- no type has more fields than there are places
pub fields-most : (s : Satellite) (t : ℕ) → carries s t ≡ true → length (entry_of s t).widths ≤ most_fields
fields-most s t carried = leb→le (length (entry_of s t).widths) most_fields (right-entry s t carried).1.1.1

-- the types of one satellite stand in ascending order
ascends : (ns : List ℕ) → T (ascending ns) → Ascending ns
unfolding ascending
ascends [] t i j h inside = absurd (not-suc-le-zero inside)
ascends (n ∷ ns) t zero (suc j) h inside =
    ltb→lt n (get_or ns j 0) (each (λ m. ltb n m) 0 ns (and_yes (every (λ m. ltb n m) ns) (ascending ns) t).0 j (le_of_suc-le-suc inside))
ascends (n ∷ ns) t i zero h inside = absurd (not-suc-le-zero h)
ascends (n ∷ ns) t (suc i) (suc j) h inside =
    ascends ns (and_yes (every (λ m. ltb n m) ns) (ascending ns) t).1 i j (le_of_suc-le-suc h) (le_of_suc-le-suc inside)

pub types-ascend : (s : Satellite) → Ascending (types_of s)
unfolding table carried_by among counted ascending every
types-ascend HadesD = ascends (types_of HadesD) tt
types-ascend HadesIcm = ascends (types_of HadesIcm) tt
types-ascend MariaG = ascends (types_of MariaG) tt
types-ascend Unne1 = ascends (types_of Unne1) tt
types-ascend HadesR = ascends (types_of HadesR) tt
types-ascend Unne1b = ascends (types_of Unne1b) tt
types-ascend HadesSa = ascends (types_of HadesSa) tt

-- what passes for all of some numbers passes for each that is among them
pub passes : (test : ℕ → Bool) (ns : List ℕ) (t : ℕ) → T (every test ns) → among t ns ≡ true → T (test t)
unfolding every among
passes test [] t all in-it = absurd (false≢true in-it)
passes test (n ∷ ns) t all in-it = go (eqb n t) refl in-it (passes test ns t parts.1)
  where
    parts : T (test n) × T (every test ns)
    parts = and_yes (test n) (every test ns) all

    go : (b : Bool) → eqb n t ≡ b → b || among t ns ≡ true → (among t ns ≡ true → T (test t)) → T (test t)
    go true e in-it rest = subst (λ m. T (test m)) (eqb-true n t e) parts.0
    go false e in-it rest = rest in-it

-- every type fits its four bits
all-four-bits : (s : Satellite) → T (every (λ t. ltb t 16) (types_of s))
unfolding table carried_by among counted every
all-four-bits HadesD = tt
all-four-bits HadesIcm = tt
all-four-bits MariaG = tt
all-four-bits Unne1 = tt
all-four-bits HadesR = tt
all-four-bits Unne1b = tt
all-four-bits HadesSa = tt

pub type-most : (s : Satellite) (t : ℕ) → carries s t ≡ true → t < 16
type-most s t carried = ltb→lt t 16 (passes (λ t. ltb t 16) (types_of s) t (all-four-bits s) carried)
