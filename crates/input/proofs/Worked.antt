-- Lines of a part that holds "ab", a line's end and "cd", computed. Assumes nothing.
use Prim.Native.Nat.{ℕ}
use mathlib.Core.Path.{◌≡◌, refl}
use mathlib.Core.Bool.{Bool, true, false}
use mathlib.Core.List.{List, [], ◌∷◌, map}
use Rattle.std.proofs.Common.{Some, None, Ok, Err}
use Rattle.pages.specs.Places.{index_of, index_after}
use Rattle.input.specs.declared.Place.{Place}
use Rattle.input.specs.declared.TooLong.{TooLong}
use Rattle.input.specs.Lines.{ready, line_of, found, next_place}

abbrev part : List ℕ
part = 97 ∷ 98 ∷ 10 ∷ 99 ∷ 100 ∷ []

abbrev place : ℕ → ℕ → Bool → Place
place at end ended = record { at = at; end = end; ended = ended }

abbrev too_long : TooLong
too_long = record {}

-- more than enough room, just enough, and too little; the place's `end` is outside the part
pub lines_are : (map (λ (n : ℕ). found n part (place 0 9 false)) (9 ∷ 2 ∷ 1 ∷ 0 ∷ [])
    ≡ Some (Ok 2) ∷ Some (Ok 2) ∷ Some (Err too_long) ∷ Some (Err too_long) ∷ [])
    × (next_place part (place 0 9 false) ≡ place 3 5 false)
unfolding index_of index_after
lines_are = (refl, refl)

-- an empty line
pub empty-line-is : (found 9 part (place 2 5 true) ≡ Some (Ok 0)) × (next_place part (place 2 5 true) ≡ place 3 5 true)
unfolding index_of index_after
empty-line-is = (refl, refl)

-- where no more come, the last line may have no end; where it has no letters, there is none; behind it no byte is left and no more come
pub last-lines-are : (map (λ (at : ℕ). found 9 part (place at 5 true)) (3 ∷ 4 ∷ 5 ∷ 9 ∷ []) ≡ Some (Ok 2) ∷ Some (Ok 1) ∷ None ∷ None ∷ [])
    × (map (λ (at : ℕ). next_place part (place at 5 true)) (3 ∷ 4 ∷ 5 ∷ 9 ∷ [])
    ≡ place 0 0 true ∷ place 0 0 true ∷ place 0 0 true ∷ place 0 0 true ∷ [])
unfolding index_of index_after
last-lines-are = (refl, refl)

-- its letters, and the room that it needs: more than enough, just enough, and too little
pub last-letters-are : (line_of part (place 3 5 true) ≡ 99 ∷ 100 ∷ [])
    × (map (λ (n : ℕ). found n part (place 3 5 true)) (9 ∷ 2 ∷ 1 ∷ 0 ∷ []) ≡ Some (Ok 2) ∷ Some (Ok 2) ∷ Some (Err too_long) ∷ Some (Err too_long) ∷ [])
unfolding index_of index_after
last-letters-are = (refl, refl)

-- the next line begins behind the end of this one; behind the last, no byte is left and no more come
pub next-places-are : map (λ (at : ℕ). next_place part (place at 9 true)) (0 ∷ 2 ∷ 3 ∷ 4 ∷ 5 ∷ 9 ∷ [])
    ≡ place 3 5 true ∷ place 3 5 true ∷ place 0 0 true ∷ place 0 0 true ∷ place 0 0 true ∷ place 0 0 true ∷ []
unfolding index_of index_after
next-places-are = refl

-- where more may come, a line without its end waits for it
pub waits : map (λ (at : ℕ). ready part (place at 5 false)) (0 ∷ 2 ∷ 3 ∷ 5 ∷ []) ≡ true ∷ true ∷ false ∷ false ∷ []
unfolding index_of index_after
waits = refl
