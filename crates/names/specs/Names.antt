-- Names as texts (01, "The field tables"; FORMAT 6).
use Rattle.std.specs.Prelude.{ℕ, zero, suc, ◌+◌, ◌/◌, ◌%◌, cond, List, [], ◌∷◌, ◌++◌, take, map, eqb, ltb}
use Rattle.std.specs.List.{slice_split}
use Prim.Native.String.{String}
use Rattle.words.specs.Words.{text}

-- the parts of a text between single separators
abbrev pub parts_of : ℕ → List ℕ → List (List ℕ)
parts_of separator xs = slice_split (λ (x : ℕ). eqb x separator) xs

-- the parts of a string between single blanks, of which the code is 32
abbrev pub words : String → List (List ℕ)
words s = parts_of 32 (text s)

-- no name is longer (`name-not-cut`)
abbrev pub most_letters : ℕ
most_letters = 16

-- what is answered of a name: up to so many letters of it
abbrev pub written : List ℕ → List ℕ
written letters = take most_letters letters

-- a number below 100 in decimal, in square brackets; the code of "0" is 48
unfoldable pub index : ℕ → List ℕ
index n = text "[" ++ (cond (ltb n 10) ((48 + n) ∷ []) ((48 + n / 10) ∷ (48 + n % 10) ∷ []) ++ text "]")

-- stem[0] .. stem[count - 1]
unfoldable pub array_of : List ℕ → ℕ → List (List ℕ)
array_of stem zero = []
array_of stem (suc n) = array_of stem n ++ (stem ++ index n) ∷ []

-- stem[0][0] .. stem[rows - 1][columns - 1], the second index fastest
unfoldable pub grid_of : List ℕ → ℕ → ℕ → List (List ℕ)
grid_of stem zero columns = []
grid_of stem (suc n) columns = grid_of stem n columns ++ array_of (stem ++ index n) columns

-- each name behind the same prefix
abbrev pub prefixed : String → List (List ℕ) → List (List ℕ)
prefixed prefix names = map (λ (name : List ℕ). text prefix ++ name) names
