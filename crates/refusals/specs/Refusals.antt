-- Refusals by name, and their numbers (01, "What is refused, and in which order"; FORMAT 7).
use Rattle.std.specs.Prelude.{ℕ, List, [], ◌∷◌, get_or}
use Rattle.refusals.specs.declared.Refusal.{Refusal}
use Rattle.refusals.specs.declared.Refusal.TheVariants.{Satellite, Short, Preamble, Address, NotCarried, Size, Length, Room, Checksum, Values, Value, Output, Field}

-- the number of each, in the order of the document's table
abbrev pub number_of : Refusal → ℕ
number_of Satellite = 1
number_of Short = 2
number_of Preamble = 3
number_of Address = 4
number_of NotCarried = 5
number_of Size = 6
number_of Length = 7
number_of Room = 8
number_of Checksum = 9
number_of Values = 10
number_of (Value place) = 11
number_of Output = 12
number_of Field = 13

-- "11, which answers the lowest field number that does not fit", or the place of a code; with every other, 0
abbrev pub place_in : Refusal → ℕ
place_in Satellite = 0
place_in Short = 0
place_in Preamble = 0
place_in Address = 0
place_in NotCarried = 0
place_in Size = 0
place_in Length = 0
place_in Room = 0
place_in Checksum = 0
place_in Values = 0
place_in (Value place) = place
place_in Output = 0
place_in Field = 0

-- at each number the refusal that has it; none has the number 0, or one above 13
abbrev pub refusals : ℕ → List Refusal
refusals place =
    Field ∷ Satellite ∷ Short ∷ Preamble ∷ Address ∷ NotCarried ∷ Size ∷ Length ∷ Room ∷ Checksum ∷ Values ∷ Value place ∷ Output ∷ Field ∷ []

abbrev pub refusal_at : ℕ → ℕ → Refusal
refusal_at number place = get_or (refusals place) number Field
