-- Nothing is lost and nothing comes twice: a line, its end and what is unread behind it are what was unread.
-- Assumes nothing.
use Prim.Native.Nat.{ℕ, suc, ◌+◌, ◌-◌, ◌≤◌, min}
use native.Mathlib.Omega.{arith}
use mathlib.Core.Path.{◌≡◌, refl, sym, ap}
use mathlib.Core.Bool.{Bool, true, false, false≢true}
use mathlib.Core.List.{List, [], ◌∷◌, ◌++◌}
use borrow.Author.Tests.{eqb-true, ltb-true}
use lib.Dec.{eqb, ltb, leb-suc-suc}
use lib.ListN.{length, take, drop, length-take}
use lib.Seq.{drop-drop}
use Rattle.std.proofs.lemmas.List.{drop-take}
use Rattle.std.specs.List.{between}
use Rattle.pages.specs.Places.{index_of, index_after}
use Rattle.input.specs.declared.Place.{Place}
use Rattle.input.specs.Lines.{start_of, end_of, unread, has_end, line_of, behind}

-- a text in which there is an end: the bytes ahead of the first, the end, and the bytes behind it
first-end : (xs : List ℕ) → ltb (index_of 10 xs) (length xs) ≡ true → xs ≡ take (index_of 10 xs) xs ++ 10 ∷ drop (suc (index_of 10 xs)) xs
unfolding index_of index_after
first-end [] t = absurd (false≢true t)
first-end (x ∷ xs) t = go (eqb x 10) refl (first-end xs) t
  where
    go : (b : Bool) → eqb x 10 ≡ b
        → (ltb (index_of 10 xs) (length xs) ≡ true → xs ≡ take (index_of 10 xs) xs ++ 10 ∷ drop (suc (index_of 10 xs)) xs)
        → ltb (index_after b (index_of 10 xs)) (suc (length xs)) ≡ true
        → x ∷ xs ≡ take (index_after b (index_of 10 xs)) (x ∷ xs) ++ 10 ∷ drop (suc (index_after b (index_of 10 xs))) (x ∷ xs)
    go true e rest t = ap (λ (y : ℕ). y ∷ xs) (eqb-true x 10 e)
    go false e rest t = ap (λ (ys : List ℕ). x ∷ ys) (rest (rw (leb-suc-suc (suc (index_of 10 xs)) (length xs)) at t))

-- so many bytes further on
further : (part : List ℕ) (at end k : ℕ) → at + k ≤ end → between (at + k) end part ≡ drop k (between at end part)
further part at end k h =
    let all : k + (end - (at + k)) ≡ end - at = omega arith in
    rw (← drop-drop k at part) (sym (rw all at (drop-take {X = ℕ} k (end - (at + k)) (drop at part))))

-- the unread bytes are the line, its end, and what is unread behind it
pub line_taken : (part : List ℕ) (place : Place) → has_end part place ≡ true
    → unread part place ≡ line_of part place ++ 10 ∷ unread part (behind part place)
line_taken part place t =
    let i = index_of 10 (unread part place) in
    let here = ltb-true i (length (unread part place)) t in
    let long = length-take i (unread part place) in
    let size = length-take (end_of part place - start_of part place) (drop (start_of part place) part) in
    let fits : start_of part place + suc i ≤ end_of part place = omega (arith, here, size) in
    let end : end_of part (behind part place) ≡ end_of part place = omega arith in
    let from : min (behind part place).at (end_of part place) ≡ start_of part place + suc i = omega (arith, here, long, fits) in
    rw (end, from, further part (start_of part place) (end_of part place) (suc i) fits) (first-end (unread part place) t)
