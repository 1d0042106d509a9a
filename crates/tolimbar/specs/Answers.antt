-- What C is answered (01, "What is refused, and in which order" and "Temperatures"; FORMAT 7 to 9): the numbers that Rattle's
-- callers are answered, in structs of integers, and beside them the floats and counts that are left in lent arrays.
use Rattle.std.specs.Prelude.{ℕ, List, [], ◌∷◌, Float, Result, Ok, Err}
use Rattle.refusals.specs.declared.Refusal.{Refusal}
use Rattle.refusals.specs.Refusals.{number_of}
use Rattle.frames.specs.Answers as frames
use Rattle.temperatures.specs.declared.Reading as temperatures-reading
use Rattle.temperatures.specs.declared.Reading.TheVariants.{Degrees, SensorError}
use Rattle.temperatures.specs.Summaries as temperatures
use Rattle.temperatures.specs.declared.Summary.{Summary}
use Rattle.tolimbar.specs.declared.Reading.{Reading}
use Rattle.tolimbar.specs.declared.Writing.{Writing}
use Rattle.tolimbar.specs.declared.Told.{Told}
use Rattle.tolimbar.specs.declared.Day.{Day}

-- "It answers the number, the type and the field count"
abbrev pub reading_in_c : frames.Reading → Reading
reading_in_c told = record { refusal = told.refusal; ty = told.ty; count = told.count }

-- "It answers the length"; with 11 the field
abbrev pub writing_in_c : frames.Writing → Writing
writing_in_c told = record { refusal = told.refusal; answer = told.answer }

-- "A reading is either so many degrees .. or a sensor error": of each case of a reading, its kind
abbrev pub read_in_c : temperatures-reading.Reading → Told
read_in_c (Degrees x) = record { refusal = 0; kind = 1 }
read_in_c SensorError = record { refusal = 0; kind = 2 }

-- "a code above 255 gets refusal 11 and no reading"
abbrev pub told_in_c : Result temperatures-reading.Reading Refusal → Told
told_in_c (Ok reading) = read_in_c reading
told_in_c (Err refusal) = record { refusal = number_of refusal; kind = 0 }

-- a place for degrees: they take it where there are any; otherwise it stays
abbrev pub placed : List Float → List Float → List Float
placed [] place = place
placed (x ∷ xs) place = x ∷ xs

-- "11 with the lowest offending place"
abbrev pub day_in_c : temperatures.Day → Day
day_in_c day = record { refusal = day.refusal; place = day.place }

-- "its coldest and warmest degrees and how many sensors answered"
abbrev pub coldest_warmest : Summary → List Float
coldest_warmest s = s.coldest ∷ s.warmest ∷ []

abbrev pub count_in : Summary → List ℕ
count_in s = s.count ∷ []
