-- The digits that are left, behind the value so far, write the same number; and what is left are digits where all of it are. Assumes nothing.
use Rattle.std.proofs.Common.{◌≡◌, ◌≤◌, drop}
use Rattle.words.specs.Numbers.{are_digits, value_from}
use Rattle.words.proofs.decimal.Given as goal

abbrev pub invariant-loop-letter : goal.invariant-loop-letter
invariant-loop-letter l = record {
  small : l.value ≤ 0xFFFFFFFF;
  same_digits : are_digits 10 (drop l.letter-index l.text) ≡ are_digits 10 l.text;
  same_number : value_from l.value (drop l.letter-index l.text) ≡ value_from 0 l.text;
}
