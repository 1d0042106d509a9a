-- What a word is: a decimal number of up to 32 bits, or bytes by pairs of hexadecimal digits.
use Rattle.std.specs.Prelude.{ℕ, ◌+◌, ◌-◌, ◌*◌, ◌%◌, Bool, cond, ◌&&◌, List, [], ◌∷◌, ◌++◌, length, drop, leb, ltb, eqb, Option, Some, None, Result, Ok, Err}
use Rattle.std.specs.List.{list_all}
use Rattle.words.specs.declared.PairsError.{PairsError}
use Rattle.words.specs.declared.PairsError.TheVariants.{NotDigits, Odd, TooMany}

abbrev pub between : ℕ → ℕ → ℕ → Bool
between low high x = leb low x && leb x high

-- the value of a digit, 0 to 9, A to F or a to f; of every other letter 16, which is none
unfoldable pub digit_of : ℕ → ℕ
digit_of x =
    cond (between 48 57 x) (x - 48)
    (cond (between 65 70 x) (x - 65 + 10)
    (cond (between 97 102 x) (x - 97 + 10)
    16))

-- each letter is a digit of that base; of a base above 16 every letter is one
unfoldable pub are_digits : ℕ → List ℕ → Bool
are_digits base text = list_all (λ x. ltb (digit_of x) base) text

-- the number that decimal digits write behind a number: each digit more makes ten times as much, and its value
unfoldable pub value_from : ℕ → List ℕ → ℕ
value_from value [] = value
value_from value (x ∷ xs) = value_from (value * 10 + digit_of x) xs

-- a number of up to 32 bits, or none
abbrev pub up_to : ℕ → Option ℕ
up_to value = cond (leb value 0xFFFFFFFF) (Some value) None

-- the number that a text is: it has digits, and nothing else, and they write one of up to 32 bits
unfoldable pub decimal_of : List ℕ → Option ℕ
decimal_of text = cond (ltb 0 (length text) && are_digits 10 text) (up_to (value_from 0 text)) None

-- the bytes that pairs of hexadecimal digits write
unfoldable pub bytes_of : List ℕ → List ℕ
bytes_of [] = []
bytes_of (high ∷ []) = []
bytes_of (high ∷ low ∷ rest) = (digit_of high * 16 + digit_of low) ∷ bytes_of rest

-- how many bytes a text's pairs write, or the first cause why it has none for `out`
unfoldable pub pairs_of : List ℕ → List ℕ → Result ℕ PairsError
pairs_of text out =
    cond (are_digits 16 text)
    (cond (eqb (length text % 2) 0)
    (cond (leb (length (bytes_of text)) (length out)) (Ok (length (bytes_of text))) (Err TooMany))
    (Err Odd))
    (Err NotDigits)

-- the bytes go to the start of `out`, and what is behind them stays; where there are none, all of it stays
abbrev pub left_by : Result ℕ PairsError → List ℕ → List ℕ → List ℕ
left_by (Ok n) text out = bytes_of text ++ drop n out
left_by (Err why) text out = out
