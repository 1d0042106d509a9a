-- Words and what they are, computed. Assumes nothing.
use mathlib.Core.Path.{◌≡◌, refl}
use mathlib.Core.List.{List, [], ◌∷◌, ◌++◌, map}
use Prim.Native.Nat.{ℕ}
use Rattle.std.proofs.Common.{Some, None, Ok, Err}
use Rattle.words.specs.declared.PairsError.TheVariants.{NotDigits, Odd, TooMany}
use Rattle.words.specs.Words.{text, parts, full, words_of, word_of}
use Rattle.words.specs.Numbers.{digit_of, are_digits, value_from, decimal_of, bytes_of, pairs_of, left_by}

-- a tab and a line's end part words too; the byte behind the space, and the greatest one, are letters
pub words_are : map words_of (text "" ∷ text "  " ∷ text "a" ∷ text "  ab  c " ∷ text "a\tb\r\n" ∷ (33 ∷ 128 ∷ 255 ∷ 0 ∷ []) ∷ [])
    ≡ [] ∷ [] ∷ (text "a" ∷ []) ∷ (text "ab" ∷ text "c" ∷ []) ∷ (text "a" ∷ text "b" ∷ []) ∷ ((33 ∷ 128 ∷ 255 ∷ []) ∷ []) ∷ []
unfolding text parts full words_of
words_are = refl

-- two words, and behind them empty ones
pub word-is : map (λ (n : ℕ). word_of n (text "  ab  c ")) (0 ∷ 1 ∷ 2 ∷ 3 ∷ []) ≡ text "ab" ∷ text "c" ∷ [] ∷ [] ∷ []
unfolding text parts full words_of
word-is = refl

-- the digits, and the letters that are next to them
pub digits_are : map digit_of (text "0123456789ABCDEFabcdef" ++ text "/:@G`g")
    ≡ 0 ∷ 1 ∷ 2 ∷ 3 ∷ 4 ∷ 5 ∷ 6 ∷ 7 ∷ 8 ∷ 9 ∷ 10 ∷ 11 ∷ 12 ∷ 13 ∷ 14 ∷ 15 ∷ 10 ∷ 11 ∷ 12 ∷ 13 ∷ 14 ∷ 15 ∷ 16 ∷ 16 ∷ 16 ∷ 16 ∷ 16 ∷ 16 ∷ []
unfolding text digit_of
digits_are = refl

-- the greatest number, one more, leading zeros, and what is none
pub decimals-are : map decimal_of
    (text "4294967295" ∷ text "4294967296" ∷ text "0" ∷ text "0000000000007" ∷ text "" ∷ text "1a" ∷ text "-1" ∷ text " 1" ∷ [])
    ≡ Some 4294967295 ∷ None ∷ Some 0 ∷ Some 7 ∷ None ∷ None ∷ None ∷ None ∷ []
unfolding text digit_of are_digits value_from decimal_of
decimals-are = refl

-- for two bytes: pairs of either case, an empty text; too many, an odd letter, one that is no digit; and of two causes the first
pub pairs-are : map (λ (t : List ℕ). pairs_of t (1 ∷ 2 ∷ []))
    (text "0aFF" ∷ text "aF" ∷ text "" ∷ text "010203" ∷ text "aAf" ∷ text "0g" ∷ text "0102030" ∷ text "01020g" ∷ text "0102g" ∷ [])
    ≡ Ok 2 ∷ Ok 1 ∷ Ok 0 ∷ Err TooMany ∷ Err Odd ∷ Err NotDigits ∷ Err Odd ∷ Err NotDigits ∷ Err NotDigits ∷ []
unfolding text digit_of are_digits bytes_of pairs_of
pairs-are = refl

pub bytes-are : map (λ (t : List ℕ). left_by (pairs_of t (7 ∷ 8 ∷ [])) t (7 ∷ 8 ∷ []))
    (text "0aFF" ∷ text "aF" ∷ text "" ∷ text "010203" ∷ text "aAf" ∷ text "0g" ∷ [])
    ≡ (0x0A ∷ 0xFF ∷ []) ∷ (0xAF ∷ 8 ∷ []) ∷ (7 ∷ 8 ∷ []) ∷ (7 ∷ 8 ∷ []) ∷ (7 ∷ 8 ∷ []) ∷ (7 ∷ 8 ∷ []) ∷ []
unfolding text digit_of are_digits bytes_of pairs_of
bytes-are = refl
