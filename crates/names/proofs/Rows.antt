-- The parts of a row are the names that it was made of. Assumes nothing.
use Prim.Native.Nat.{ℕ, zero, suc, ◌<◌}
use mathlib.Core.Path.{◌≡◌, refl, ◌∙◌, ap}
use mathlib.Core.Bool.{Bool, true, false, not, ◌&&◌}
use mathlib.Core.List.{List, [], ◌∷◌}
use lib.Dec.{T, eqb, ltb, ltb→lt}
use lib.ListN.{length, get_or}
use mir.Facts.{and_yes}
use Rattle.std.specs.List.{All}
use Rattle.std.proofs.lemmas.List.Splits.{slice_split_none, slice_split_at}
use Rattle.satellites.specs.declared.Satellite.{Satellite}
use Rattle.layouts.specs.Layouts.{counted}
use Rattle.layouts.specs.Rules.{every}
use Rattle.layouts.proofs.Entries.{each}
use Rattle.words.specs.Words.{text}
use Rattle.names.specs.Names.{parts_of, written, index, array_of, grid_of}
use Rattle.names.specs.Fields.{table, names_of, name_of, row_length, joined_names}
use Rattle.names.proofs.Everywhere.{each-type}
use Rattle.names.proofs.Counted.{name-written}

-- a word has no blank in it
abbrev is_word : List ℕ → Bool
is_word name = every (λ x. not (eqb x 32)) name

no_blank : (name : List ℕ) → T (is_word name) → All (λ x. eqb x 32 ≡ false) name
no_blank name t k d h = is-not (eqb (get_or name k d) 32) (each (λ x. not (eqb x 32)) d name t k h)
  where
    is-not : (b : Bool) → T (not b) → b ≡ false
    is-not true t = absurd t
    is-not false t = refl

-- the parts of a row of words are the words; those of the empty row have no letters either
word_of : (names : List (List ℕ)) → T (every is_word names) → (field : ℕ) → get_or (parts_of 32 (joined_names names)) field [] ≡ get_or names field []
unfolding every
word_of [] t zero = refl
word_of [] t (suc field) = refl
word_of (name ∷ []) t field = ap (λ parts. get_or parts field []) (slice_split_none (λ x. eqb x 32) name (no_blank name (and_yes (is_word name) true t).0))
word_of (name ∷ next ∷ names) t field =
    let both = and_yes (is_word name) (every is_word (next ∷ names)) t in
    let first = slice_split_at (λ (x : ℕ). eqb x 32) name 32 (joined_names (next ∷ names)) (no_blank name both.0) refl in
    rw first
    (go field (word_of (next ∷ names) both.1))
  where
    go : (field : ℕ) → ((k : ℕ) → get_or (parts_of 32 (joined_names (next ∷ names))) k [] ≡ get_or (next ∷ names) k [])
        → get_or (name ∷ parts_of 32 (joined_names (next ∷ names))) field [] ≡ get_or (name ∷ next ∷ names) field []
    go zero rest = refl
    go (suc field) rest = rest field

-- names that make a row: words, and not too many letters
abbrev make_row : List (List ℕ) → Bool
make_row names = every is_word names && ltb (length (joined_names names)) row_length

all-make-row : T (every (λ l. make_row l.names) table)
unfolding every table counted text index array_of grid_of
all-make-row = tt

made_row : (s : Satellite) (t : ℕ) → T (every is_word (names_of s t)) × T (ltb (length (joined_names (names_of s t))) row_length)
unfolding every
made_row s t = and_yes (every is_word (names_of s t)) (ltb (length (joined_names (names_of s t))) row_length) (each-type make_row tt all-make-row s t)

-- a place for so many letters cuts no row, with a blank behind its last name too
pub row-not-cut : (s : Satellite) (t : ℕ) → length (joined_names (names_of s t)) < row_length
row-not-cut s t = ltb→lt (length (joined_names (names_of s t))) row_length (made_row s t).1

-- the name of a field in the row of a satellite's type is the field's name
pub named-in-row : (s : Satellite) (t field : ℕ) → get_or (parts_of 32 (joined_names (names_of s t))) field [] ≡ name_of s t field
named-in-row s t field = word_of (names_of s t) (made_row s t).0 field

-- and `in_row` answers all of it
pub written-in-row : (s : Satellite) (t field : ℕ) → written (get_or (parts_of 32 (joined_names (names_of s t))) field []) ≡ name_of s t field
written-in-row s t field = ap written (named-in-row s t field) ∙ name-written s t field
