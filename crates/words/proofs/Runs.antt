-- Along a line's blanks and letters, from word to word. Assumes nothing.
use mathlib.Core.Path.{◌≡◌, refl, sym, ◌∙◌, ap}
use mathlib.Core.Bool.{Bool, true, false, cond, not}
use mathlib.Core.List.{List, [], ◌∷◌}
use Prim.Native.Nat.{ℕ, zero, suc, ◌+◌, ◌-◌, ◌≤◌, ◌<◌}
use native.Mathlib.Nat.{not-suc-le-zero}
use native.Mathlib.Omega.{arith}
use borrow.Author.Tests.{ltb-true, ltb-false}
use lib.Dec.{leb, ltb}
use lib.ListN.{length, get_or, take, drop, drop_of_length-le}
use Rattle.std.proofs.Common.{Option, Some, None}
use Rattle.std.proofs.lemmas.Bool.Decides.{nat_tests}
use Rattle.std.proofs.lemmas.List.Sums.{prefix_len-le-length, prefix_len-drop_yes, passes_at_first}
use Rattle.std.specs.List.{prefix_len, position_or_len}
use Rattle.words.specs.Words.{is_letter, led, parts, full, words_of}

one-more : (n : ℕ) → 1 + n ≡ suc n
one-more n = omega arith

-- blanks ahead make no word
words-behind-blanks : (xs : List ℕ) → words_of (drop (position_or_len is_letter xs) xs) ≡ words_of xs
unfolding parts full words_of
words-behind-blanks [] = refl
words-behind-blanks (x ∷ xs) = go (is_letter x) refl (words-behind-blanks xs)
  where
    go : (b : Bool) → is_letter x ≡ b → words_of (drop (position_or_len is_letter xs) xs) ≡ words_of xs
        → words_of (drop (cond (not b) (1 + position_or_len is_letter xs) 0) (x ∷ xs)) ≡ full (cond b (led x (parts is_letter xs)) ([] ∷ parts is_letter xs))
    go true e h = rw e
    go false e h = rw (one-more (position_or_len is_letter xs)) h

-- blanks alone are no word
no-words : (xs : List ℕ) → length xs ≤ position_or_len is_letter xs → words_of xs ≡ []
unfolding parts full words_of
no-words xs h = sym (words-behind-blanks xs) ∙ rw (drop_of_length-le xs h)

-- the first part, and what the parts behind it hold
record Parted (xs : List ℕ) : Type 0 where
  rest : List (List ℕ)
  parts : parts is_letter xs ≡ take (prefix_len is_letter xs) xs ∷ rest
  words : full rest ≡ words_of (drop (prefix_len is_letter xs) xs)

parted : (xs : List ℕ) → Parted xs
unfolding parts full words_of
parted [] = record { rest = []; parts = refl; words = refl }
parted (x ∷ xs) = go (is_letter x) refl (parted xs)
  where
    go : (b : Bool) → is_letter x ≡ b → Parted xs → Parted (x ∷ xs)
    go true e p =
        let more = one-more (prefix_len is_letter xs) in
        record { rest = p.rest; parts = rw (e, p.parts, more); words = rw (e, more) p.words }
    go false e p = record { rest = parts is_letter xs; parts = rw e; words = rw (e, e) }

first_word : (xs : List ℕ) (k : ℕ) → prefix_len is_letter xs ≡ k → 0 < k → words_of xs ≡ take k xs ∷ words_of (drop k xs)
unfolding full words_of
first_word xs zero e h = absurd (not-suc-le-zero h)
first_word [] (suc k) e h = absurd (omega (arith, e))
first_word (x ∷ xs) (suc k) e h =
    let p = parted (x ∷ xs) in
    ap full (rw e at p.parts) ∙ ap (λ (ws : List (List ℕ)). (x ∷ take k xs) ∷ ws) (rw e at p.words)

-- a line that begins with a letter begins with its first word
pub word-ahead : (xs : List ℕ) → 0 < prefix_len is_letter xs
    → words_of xs ≡ take (prefix_len is_letter xs) xs ∷ words_of (drop (prefix_len is_letter xs) xs)
word-ahead xs h = first_word xs (prefix_len is_letter xs) refl h

-- past the first, one fewer is left to pass
pub one_fewer : (w : List ℕ) (ws : List (List ℕ)) (n : ℕ) → (n ≡ 0 → ⊥) → get_or (w ∷ ws) n [] ≡ get_or ws (n - 1) []
one_fewer w ws n h =
    let e : n ≡ suc (n - 1) = omega arith in
    ap (λ (k : ℕ). get_or (w ∷ ws) k []) e

-- ---- places that the library finds

-- the first that passes a test
abbrev first_place : (ℕ → Bool) → List ℕ → Option ℕ
first_place test xs = cond (ltb (position_or_len test xs) (length xs)) (Some (position_or_len test xs)) None

module _ (test : ℕ → Bool) (xs : List ℕ) (r : Option ℕ) (found : r ≡ first_place test xs) where
  first-there : (i : ℕ) → r ≡ Some i → (i < length xs) × (position_or_len test xs ≡ i)
  first-there i e = go (ltb (position_or_len test xs) (length xs)) refl (sym found ∙ e)
    where
      go : (b : Bool) → ltb (position_or_len test xs) (length xs) ≡ b → cond b (Some (position_or_len test xs)) None ≡ Some i
          → (i < length xs) × (position_or_len test xs ≡ i)
      go true h q = let same : position_or_len test xs ≡ i = cc in (rw same at (ltb-true (position_or_len test xs) (length xs) h), same)
      go false h q = absurd (cc)

  first-missing : r ≡ None → length xs ≤ position_or_len test xs
  first-missing e = go (ltb (position_or_len test xs) (length xs)) refl (sym found ∙ e)
    where
      go : (b : Bool) → ltb (position_or_len test xs) (length xs) ≡ b → cond b (Some (position_or_len test xs)) None ≡ None
          → length xs ≤ position_or_len test xs
      go true h q = absurd (cc)
      go false h q = ltb-false (position_or_len test xs) (length xs) h

-- where no letter is found, there is no word; from the first one on there are the same words, and a letter begins them
module _ (xs : List ℕ) (r : Option ℕ) (found : r ≡ first_place is_letter xs) where
  pub no-letter : r ≡ None → words_of xs ≡ []
  no-letter e = no-words xs (first-missing is_letter xs r found e)

  pub from-letter : (i : ℕ) → r ≡ Some i → (words_of (drop i xs) ≡ words_of xs) × (0 < prefix_len is_letter (drop i xs))
  from-letter i e =
      let at = first-there is_letter xs r found i e in
      let inside : position_or_len is_letter xs < length xs = omega (arith, at.0, at.1) in
      let letter = rw at.1 at (passes_at_first is_letter xs 0 inside) in
      (rw at.1 at (words-behind-blanks xs), omega (arith, prefix_len-drop_yes is_letter xs i 0 at.0 letter))

-- the test for a blank
abbrev pub is_blank : ℕ → Bool
is_blank x = leb x 32

not-blank : (x : ℕ) → not (is_blank x) ≡ is_letter x
not-blank x = grind (arith, nat_tests)

blank-behind-letters : (xs : List ℕ) → position_or_len is_blank xs ≡ prefix_len is_letter xs
blank-behind-letters [] = refl
blank-behind-letters (x ∷ xs) = rw (not-blank x, blank-behind-letters xs) refl

-- the letters ahead end at the first blank, and where none is found, at the end
module _ (xs : List ℕ) (r : Option ℕ) (found : r ≡ first_place is_blank xs) where
  pub letters-end : (i : ℕ) → r ≡ Some i → prefix_len is_letter xs ≡ i
  letters-end i e = sym (blank-behind-letters xs) ∙ (first-there is_blank xs r found i e).1

  pub letters-only : r ≡ None → prefix_len is_letter xs ≡ length xs
  letters-only e = omega (arith, first-missing is_blank xs r found e, blank-behind-letters xs, prefix_len-le-length is_letter xs)
