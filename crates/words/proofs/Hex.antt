-- The bytes of pairs of digits, one after the other. Assumes nothing.
use mathlib.Core.Path.{◌≡◌, refl, sym, ◌∙◌}
use mathlib.Core.Bool.{Bool, true, false, false≢true}
use mathlib.Core.List.{List, [], ◌∷◌, ◌++◌, append_assoc}
use Prim.Native.Nat.{ℕ, zero, suc, ◌+◌, ◌-◌, ◌*◌, ◌/◌, ◌%◌, ◌≤◌, ◌<◌}
use native.Mathlib.Nat.{not-suc-le-zero}
use native.Mathlib.Omega.{arith}
use borrow.Author.Tests.{ltb-true, le-leb, lt-leb}
use lib.Dec.{ltb}
use lib.ListN.{length, get_or, take, drop, set}
use lib.Seq.{take-length, drop-cons}
use Rattle.std.proofs.Common.{Ok, Err, length-take}
use Rattle.std.specs.Simd.{first_chunks}
use Rattle.std.proofs.lemmas.List.{take_more, set-append_right, get_or-take, get_or-drop}
use Rattle.std.proofs.lemmas.List.Folds.{list_all_at}
use Rattle.words.specs.declared.PairsError.TheVariants.{NotDigits, Odd, TooMany}
use Rattle.words.specs.Numbers.{digit_of, are_digits, bytes_of, pairs_of}

-- two letters make a byte
pub bytes-length : (text : List ℕ) → length (bytes_of text) ≡ length text / 2
unfolding bytes_of
bytes-length [] = refl
bytes-length (h ∷ []) = refl
bytes-length (h ∷ l ∷ rest) = omega (arith, bytes-length rest)

-- the letters of a pair
letter-is : (text : List ℕ) (k i j : ℕ) → i < k → j < 2 → get_or (get_or (first_chunks 2 k text) i []) j 0 ≡ get_or text (2 * i + j) 0
letter-is text zero i j p q = absurd (not-suc-le-zero p)
letter-is text (suc k) zero j p q =
    let place : 2 * zero + j ≡ j = omega arith in
    rw place (get_or-take 2 text j 0 q)
letter-is text (suc k) (suc i) j p q =
    let place : 2 * suc i + j ≡ 2 + (2 * i + j) = omega arith in
    rw place (letter-is (drop 2 text) k i j (omega arith) q ∙ get_or-drop 2 text (2 * i + j) 0)

-- what a pair writes
pair-writes : (text : List ℕ) (k i : ℕ) → k ≡ length text / 2 → i < k
    → get_or (bytes_of text) i 0
    ≡ digit_of (get_or (get_or (first_chunks 2 k text) i []) 0 0) * 16 + digit_of (get_or (get_or (first_chunks 2 k text) i []) 1 0)
unfolding bytes_of
pair-writes text zero i e p = absurd (not-suc-le-zero p)
pair-writes [] (suc k) i e p = omega (arith, e)
pair-writes (h ∷ []) (suc k) i e p = omega (arith, e)
pair-writes (h ∷ l ∷ rest) (suc k) zero e p = refl
pair-writes (h ∷ l ∷ rest) (suc k) (suc i) e p = pair-writes rest k i (omega (arith, e)) (omega arith)

-- each letter is a digit
digit-small : (text : List ℕ) (base i : ℕ) → are_digits base text ≡ true → i < length text → digit_of (get_or text i 0) < base
unfolding are_digits
digit-small text base i e h = go (ltb (digit_of (get_or text i 0)) base) refl
  where
    go : (b : Bool) → ltb (digit_of (get_or text i 0)) base ≡ b → digit_of (get_or text i 0) < base
    go true t = ltb-true (digit_of (get_or text i 0)) base t
    go false t = absurd (false≢true (sym (list_all_at (λ x. ltb (digit_of x) base) text i 0 h t) ∙ e))

-- ---- a pair of a text

module _ (text : List ℕ) (pairs : List (List ℕ)) (are : pairs ≡ first_chunks 2 (length text / 2) text) (i : ℕ) (h : i < length text / 2) where
  -- its letters are digits
  pub letter-small : (base j : ℕ) → are_digits base text ≡ true → j < 2 → digit_of (get_or (get_or pairs i []) j 0) < base
  letter-small base j e q = rw (are, letter-is text (length text / 2) i j h q) (digit-small text base (2 * i + j) e (omega arith))

  -- they write its byte
  pub byte-is : get_or (bytes_of text) i 0 ≡ digit_of (get_or (get_or pairs i []) 0 0) * 16 + digit_of (get_or (get_or pairs i []) 1 0)
  byte-is = rw are (pair-writes text (length text / 2) i refl h)

-- one byte more ahead of what stays
pub put_next : (text out : List ℕ) (i byte : ℕ) → i < length text / 2 → length text / 2 ≤ length out → byte ≡ get_or (bytes_of text) i 0
    → set (take i (bytes_of text) ++ drop i out) i byte ≡ take (i + 1) (bytes_of text) ++ drop (i + 1) out
put_next text out i byte h room e =
    let bytes = bytes_of text in
    let size = bytes-length text in
    let there : i < length bytes = omega arith in
    let before : length (take i bytes) ≡ i = omega (arith, length-take {A = ℕ}) in
    let first : i - i ≡ 0 = omega arith in
    let next : suc i ≡ i + 1 = omega arith in
    set-append_right (take i bytes) (drop i out) i i byte before (omega arith)
    ∙ rw (first, drop-cons out i 0 (omega arith), next, take_more bytes i 0 there, e) (sym (append_assoc (take i bytes) _ _))

-- ---- how many bytes there are for `out`, and what is left in it

module _ (text out : List ℕ) where
  pub not-digits : are_digits 16 text ≡ false → Err NotDigits ≡ pairs_of text out
  unfolding pairs_of
  not-digits e = rw e

  module _ (digits : are_digits 16 text ≡ true) where
    pub odd : length text % 2 ≡ 1 → Err Odd ≡ pairs_of text out
    unfolding pairs_of
    odd e = rw (digits, e)

    module _ (even : length text % 2 ≡ 0) where
      pub too_many : length out < length text / 2 → Err TooMany ≡ pairs_of text out
      unfolding pairs_of
      too_many h = rw (digits, even, lt-leb (length (bytes_of text)) (length out) (rw bytes-length h))

      pub they-are : length text / 2 ≤ length out → Ok (length text / 2) ≡ pairs_of text out
      unfolding pairs_of
      they-are h = rw (digits, even, bytes-length, le-leb (length text / 2) (length out) h)

-- all of them are put
pub all-put : (text out : List ℕ) (i : ℕ) → i ≡ length text / 2
    → take i (bytes_of text) ++ drop i out ≡ bytes_of text ++ drop (length text / 2) out
all-put text out i end = rw (end, ← bytes-length text, take-length (bytes_of text)) refl
