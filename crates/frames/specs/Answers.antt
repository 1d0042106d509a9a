-- What a call on a frame answers, in 01's numbers (01, "What is refused, and in which order"; FORMAT 7 and 8), and how an answer gives them.
use Rattle.std.specs.Prelude.{ℕ, Result, Ok, Err}
use Rattle.refusals.specs.declared.Refusal.{Refusal}
use Rattle.refusals.specs.Refusals.{number_of, place_in}
use Rattle.frames.specs.declared.Accepted.{Accepted}

-- of reading: "It answers the number, the type and the field count"; accepted is 0
pub record Reading : Type 0 where
  pub refusal : ℕ
  pub ty : ℕ
  pub count : ℕ

-- of writing and editing: "It answers the length"
pub record Writing : Type 0 where
  pub refusal : ℕ
  pub answer : ℕ

-- "A refusal answers type 0, count 0": 11, which alone has a place, is none of reading's tests
abbrev pub read_in_numbers : Result Accepted Refusal → Reading
read_in_numbers (Ok accepted) = record { refusal = 0; ty = accepted.ty; count = accepted.count }
read_in_numbers (Err refusal) = record { refusal = number_of refusal; ty = 0; count = place_in refusal }

-- "A refusal answers 0, except 11, which answers the lowest field number that does not fit"
abbrev pub written_in_numbers : Result ℕ Refusal → Writing
written_in_numbers (Ok length) = record { refusal = 0; answer = length }
written_in_numbers (Err refusal) = record { refusal = number_of refusal; answer = place_in refusal }
