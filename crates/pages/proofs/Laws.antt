-- A text on a page: where nothing is put; the three parts that a page has then; and a text on a page that has one letter everywhere.
-- Assumes nothing.
use Prim.Native.Nat.{ℕ, zero, suc, ◌+◌, ◌-◌, ◌≤◌, min}
use native.Mathlib.Nat.{le_of_suc-le-suc, not-suc-le-zero, sub-zero, suc-sub-suc}
use native.Mathlib.Omega.{arith}
use mathlib.Core.Path.{◌≡◌, refl, ap}
use mathlib.Core.List.{List, [], ◌∷◌, ◌++◌}
use lib.ListN.{length, take, drop, replicate}
use lib.Seq.{take-nil, drop-nil, drop-drop}
use Rattle.std.proofs.lemmas.List.{take_min}
use borrow.Rule.Slice.PartMut.{put_mid}
use Rattle.pages.specs.Pages.{put, behind}

pub put-length : (page : List ℕ) (at : ℕ) (text : List ℕ) → length (put page at text) ≡ length page
unfolding put
put-length [] at text = refl
put-length (y ∷ page) (suc at) text = ap suc (put-length page at text)
put-length (y ∷ page) zero [] = refl
put-length (y ∷ page) zero (x ∷ text) = ap suc (put-length page zero text)

-- ---- where nothing is put

-- no letter is left
put-none : (page : List ℕ) (at : ℕ) → put page at [] ≡ page
unfolding put
put-none [] at = refl
put-none (y ∷ page) zero = refl
put-none (y ∷ page) (suc at) = ap (λ (r : List ℕ). y ∷ r) (put-none page at)

pub put-empty : (page : List ℕ) (at : ℕ) (text : List ℕ) → length text ≡ 0 → put page at text ≡ page
put-empty page at [] e = put-none page at
put-empty page at (x ∷ text) e = absurd (omega (arith, e))

-- no place is left
pub put_full : (page : List ℕ) (at : ℕ) (text : List ℕ) → length page ≤ at → put page at text ≡ page
unfolding put
put_full [] at text h = refl
put_full (y ∷ page) zero text h = absurd (not-suc-le-zero h)
put_full (y ∷ page) (suc at) text h = ap (λ (r : List ℕ). y ∷ r) (put_full page at text (le_of_suc-le-suc h))

-- ---- the whole page

-- what was ahead of the place, the letters for which there is place, and what was behind them
pub put-parts : (page : List ℕ) (at : ℕ) (text : List ℕ)
    → put page at text ≡ take at page ++ (take (length page - at) text ++ drop (behind page at text) page)
unfolding put
put-parts [] at text =
    let none : 0 - at ≡ 0 = omega arith in
    rw (take-nil at, drop-nil (behind [] at text), none)
put-parts (y ∷ page) (suc at) text =
    let room : suc (length page) - suc at ≡ length page - at = suc-sub-suc (length page) at in
    let next : suc at + min (length page - at) (length text) ≡ suc (behind page at text) = omega arith in
    rw (room, next) (ap (λ (r : List ℕ). y ∷ r) (put-parts page at text))
put-parts (y ∷ page) zero [] =
    let none : behind (y ∷ page) zero [] ≡ 0 = omega arith in
    rw (none, take-nil (suc (length page) - 0))
put-parts (y ∷ page) zero (x ∷ text) =
    let next : behind (y ∷ page) zero (x ∷ text) ≡ suc (behind page zero text) = omega arith in
    let room : suc (length page) - 0 ≡ suc (length page - 0) = omega arith in
    rw (next, room) (ap (λ (r : List ℕ). x ∷ r) (put-parts page zero text))

-- the letters for which there is place, put at once
pub put-fit : (page text : List ℕ) (at fit : ℕ) → fit ≡ min (length page - at) (length text)
    → put_mid at fit page (take fit text) ≡ put page at text
put-fit page text at fit e =
    rw (put-parts page at text, ← take_min (length page - at) text, ← e, drop-drop fit at page)

-- ---- a page that has b everywhere

-- a b behind the text is there already
pub one-behind : (n b : ℕ) (xs : List ℕ) → put (replicate n b) 0 (xs ++ b ∷ []) ≡ put (replicate n b) 0 xs
unfolding put
one-behind zero b xs = refl
one-behind (suc n) b [] = ap (λ (r : List ℕ). b ∷ r) (put-none (replicate n b) 0)
one-behind (suc n) b (x ∷ xs) = ap (λ (r : List ℕ). x ∷ r) (one-behind n b xs)

-- behind a text for which there is place
pub all-behind : (n b : ℕ) (xs : List ℕ) → length xs ≤ n → put (replicate n b) 0 xs ≡ xs ++ replicate (n - length xs) b
unfolding put
all-behind zero b [] h = refl
all-behind zero b (x ∷ xs) h = absurd (not-suc-le-zero h)
all-behind (suc n) b [] h = rw sub-zero
all-behind (suc n) b (x ∷ xs) h =
    rw (suc-sub-suc n (length xs)) (ap (λ (r : List ℕ). x ∷ r) (all-behind n b xs (le_of_suc-le-suc h)))
