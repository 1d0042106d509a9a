-- The words that are counted are those that there are: each below the count has a letter, and every later one is empty. All letters are
-- in words, in their order, and no blank is. And `out` has place for the bytes that are answered, and stays where none are.
-- Assumes nothing.
use mathlib.Core.Path.{◌≡◌, refl, ◌∙◌, sym, ap}
use mathlib.Core.Bool.{Bool, true, false, cond}
use mathlib.Core.List.{List, [], ◌∷◌, ◌++◌, flatten}
use Prim.Native.Nat.{ℕ, zero, suc, ◌%◌, ◌≤◌, ◌<◌, zero-le, suc-le-suc}
use native.Mathlib.Nat.{not-suc-le-zero, le_of_suc-le-suc}
use borrow.Author.Tests.{leb-true}
use lib.Dec.{leb, eqb}
use lib.ListN.{length, get_or, get_or-eq_default}
use Rattle.std.proofs.Common.{Result, Ok, Err}
use Rattle.words.specs.declared.PairsError.{PairsError}
use Rattle.words.specs.declared.PairsError.TheVariants.{NotDigits, Odd, TooMany}
use Rattle.words.specs.Words.{is_letter, led, parts, full, words_of, word_of}
use Rattle.words.specs.Numbers.{are_digits, bytes_of, pairs_of, left_by}

full-there : (ps : List (List ℕ)) (n : ℕ) → n < length (full ps) → 0 < length (get_or (full ps) n [])
unfolding full
full-there [] n h = absurd (not-suc-le-zero h)
full-there ([] ∷ ps) n h = full-there ps n h
full-there ((x ∷ xs) ∷ ps) zero h = suc-le-suc zero-le
full-there ((x ∷ xs) ∷ ps) (suc n) h = full-there ps n (le_of_suc-le-suc h)

-- a word whose number is below the count has a letter
pub word-there : (line : List ℕ) (n : ℕ) → n < length (words_of line) → 0 < length (word_of n line)
unfolding words_of
word-there line n h = full-there (parts is_letter line) n h

-- and every later one is empty
pub word-missing : (line : List ℕ) (n : ℕ) → length (words_of line) ≤ n → word_of n line ≡ []
word-missing line n h = get_or-eq_default (words_of line) [] h

-- a line's letters
unfoldable pub letters_of : List ℕ → List ℕ
letters_of [] = []
letters_of (x ∷ xs) = cond (is_letter x) (x ∷ letters_of xs) (letters_of xs)

full-joined : (ps : List (List ℕ)) → flatten (full ps) ≡ flatten ps
unfolding flatten full
full-joined [] = refl
full-joined ([] ∷ ps) = full-joined ps
full-joined ((x ∷ xs) ∷ ps) = ap (λ (ys : List ℕ). (x ∷ xs) ++ ys) (full-joined ps)

led-joined : (x : ℕ) (ps : List (List ℕ)) → flatten (led x ps) ≡ x ∷ flatten ps
unfolding flatten
led-joined x [] = refl
led-joined x (p ∷ ps) = refl

parts-joined : (line : List ℕ) → flatten (parts is_letter line) ≡ letters_of line
unfolding flatten parts letters_of
parts-joined [] = refl
parts-joined (x ∷ xs) = go (is_letter x) (parts-joined xs)
  where
    go : (b : Bool) → flatten (parts is_letter xs) ≡ letters_of xs
        → flatten (cond b (led x (parts is_letter xs)) ([] ∷ parts is_letter xs)) ≡ cond b (x ∷ letters_of xs) (letters_of xs)
    go true h = led-joined x (parts is_letter xs) ∙ ap (λ (ys : List ℕ). x ∷ ys) h
    go false h = h

-- the words one behind the other are the line's letters
pub words-joined : (line : List ℕ) → flatten (words_of line) ≡ letters_of line
unfolding words_of
words-joined line = full-joined (parts is_letter line) ∙ parts-joined line

-- how many bytes an answer tells; on a refusal none
abbrev how_many : Result ℕ PairsError → ℕ
how_many (Ok n) = n
how_many (Err why) = 0

as-many-fit : (text out : List ℕ) → how_many (pairs_of text out) ≤ length out
unfolding pairs_of
as-many-fit text out =
    let n = length (bytes_of text) in
    go (are_digits 16 text) (eqb (length text % 2) 0) (leb n (length out)) (leb-true n (length out))
  where
    go : (digits even fits : Bool) → (fits ≡ true → length (bytes_of text) ≤ length out)
        → how_many (cond digits (cond even (cond fits (Ok (length (bytes_of text))) (Err TooMany)) (Err Odd)) (Err NotDigits)) ≤ length out
    go true true true h = h refl
    go true true false h = zero-le
    go true false fits h = zero-le
    go false even fits h = zero-le

-- `out` has place for the bytes that are answered
pub bytes_fit : (text out : List ℕ) (r : Result ℕ PairsError) (n : ℕ) → r ≡ pairs_of text out → r ≡ Ok n → n ≤ length out
bytes_fit text out r n p e = rw (ap how_many (sym p ∙ e)) at (as-many-fit text out)

-- where no bytes are answered, `out` stays
pub out_stays : (text out : List ℕ) (r : Result ℕ PairsError) → ((n : ℕ) → r ≡ Ok n → ⊥) → left_by r text out ≡ out
out_stays text out (Ok n) none = absurd (none n refl)
out_stays text out (Err why) none = refl
