-- Texts, and the words of a line. A text is the list of its letters, each its character's code; a line is a text too.
use Rattle.std.specs.Prelude.{ℕ, Bool, cond, List, [], ◌∷◌, get_or, ltb}
use Prim.Native.Char.{code}
use Prim.Native.String.{String, [] as []ˢ, ◌∷◌ as ◌∷ˢ◌}

-- a string as a text
unfoldable pub text : String → List ℕ
text []ˢ = []
text (c ∷ˢ cs) = code c ∷ text cs

-- a byte above 32, the space, is a letter, every other one a blank
abbrev pub is_letter : ℕ → Bool
is_letter x = ltb 32 x

-- one letter more in front of the first part
abbrev pub led : ℕ → List (List ℕ) → List (List ℕ)
led x [] = (x ∷ []) ∷ []
led x (p ∷ ps) = (x ∷ p) ∷ ps

-- the parts of a text between single separators, which are the bytes that are no letters: one part more than there are separators, and an
-- empty one between two that follow each other
unfoldable pub parts : (ℕ → Bool) → List ℕ → List (List ℕ)
parts letter [] = [] ∷ []
parts letter (x ∷ xs) = cond (letter x) (led x (parts letter xs)) ([] ∷ parts letter xs)

-- those that are not empty
unfoldable pub full : List (List ℕ) → List (List ℕ)
full [] = []
full ([] ∷ ps) = full ps
full ((x ∷ xs) ∷ ps) = (x ∷ xs) ∷ full ps

-- a line's words: its parts between blanks, without the empty ones
unfoldable pub words_of : List ℕ → List (List ℕ)
words_of line = full (parts is_letter line)

-- word number n, counted from 0; where there are not so many, an empty one
abbrev pub word_of : ℕ → List ℕ → List ℕ
word_of n line = get_or (words_of line) n []
