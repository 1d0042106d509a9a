-- The next line, where nothing has to be read for it: its end is among the bytes that were read already, or no more come.
use Rattle.std.specs.Prelude.{ℕ, ◌+◌, min, Bool, true, cond, ◌||◌, List, length, take, ltb, Option, Some, None, Result, Ok, Err}
use Rattle.std.specs.List.{between}
use Rattle.pages.specs.Places.{index_of}
use Rattle.input.specs.declared.Place.{Place}
use Rattle.input.specs.declared.TooLong.{TooLong}

-- where the unread bytes end, and where they begin; of a place outside the part, what lies inside
abbrev pub end_of : List ℕ → Place → ℕ
end_of part place = min place.end (length part)

abbrev pub start_of : List ℕ → Place → ℕ
start_of part place = min place.at (end_of part place)

abbrev pub unread : List ℕ → Place → List ℕ
unread part place = between (start_of part place) (end_of part place) part

-- a line's end, of which the code is 10, is among the unread bytes
abbrev pub has_end : List ℕ → Place → Bool
has_end part place = ltb (index_of 10 (unread part place)) (length (unread part place))

-- nothing has to be read
abbrev pub ready : List ℕ → Place → Bool
ready part place = has_end part place || place.ended

-- the unread bytes ahead of the line's end; all of them where there is none
abbrev pub line_of : List ℕ → Place → List ℕ
line_of part place = take (index_of 10 (unread part place)) (unread part place)

-- the place behind the line's end
abbrev pub behind : List ℕ → Place → Place
behind part place = record { at = start_of part place + length (line_of part place) + 1; end = end_of part place; ended = place.ended }

-- no byte is left, and no more come
abbrev pub over : Place
over = record { at = 0; end = 0; ended = true }

-- the place of what is unread behind the line, where nothing has to be read
abbrev pub next_place : List ℕ → Place → Place
next_place part place = cond (has_end part place) (behind part place) over

-- the answer for a room of so many letters, and a line of so many
abbrev pub answer : ℕ → ℕ → Result ℕ TooLong
answer room letters = cond (ltb room letters) (Err (record {})) (Ok letters)

-- the last line, which has no end; where it has no letters, it is none
abbrev pub last_of : ℕ → ℕ → Option (Result ℕ TooLong)
last_of room letters = cond (ltb 0 letters) (Some (answer room letters)) None

-- the answer where nothing has to be read
abbrev pub found : ℕ → List ℕ → Place → Option (Result ℕ TooLong)
found room part place =
    cond (has_end part place) (Some (answer room (length (line_of part place)))) (last_of room (length (line_of part place)))
