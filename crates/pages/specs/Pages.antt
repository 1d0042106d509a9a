-- Text on a page. A page is the list of its bytes, and a text the list of its letters.
use Rattle.std.specs.Prelude.{ℕ, zero, suc, ◌+◌, ◌-◌, min, List, [], ◌∷◌, length}

-- a page with a text from a place on, as far as the page goes; ahead of the text and behind it the page stays
unfoldable pub put : List ℕ → ℕ → List ℕ → List ℕ
put [] at text = []
put (y ∷ page) (suc at) text = y ∷ put page at text
put (y ∷ page) zero [] = y ∷ page
put (y ∷ page) zero (x ∷ text) = x ∷ put page zero text

-- the place behind the letters for which there is place
abbrev pub behind : List ℕ → ℕ → List ℕ → ℕ
behind page at text = at + min (length page - at) (length text)
