-- The walk over the widths of a layout's fields, from field k on: what the fields that are left lead to, one field at a time.
-- Assumes nothing.
use Prim.Native.Nat.{ℕ, suc, ◌+◌, ◌^◌, ◌≤◌, ◌<◌, min}
use native.Mathlib.Nat.{le_refl, add-zero}
use native.Mathlib.Numerals.{add-one}
use native.Mathlib.Omega.{arith}
use mathlib.Core.Path.{◌≡◌, refl, sym, ◌∙◌, ap}
use mathlib.Core.Bool.{Bool, true, false, cond, not}
use mathlib.Core.List.{List, [], ◌∷◌, ◌++◌, append-nil}
use lib.Dec.{ltb}
use lib.ListN.{length, get_or, take, drop, set, take-append-drop, drop_of_length-le}
use lib.Seq.{drop-cons, drop-drop, take-suc-set, drop-set-lt, append_snoc, take_all}
use lib.Pow.{pow_mono}
use borrow.Author.Tests.{lt-ltb, le-ltb, ltb-true, ltb-false}
use Rattle.std.proofs.Common.{Some, None}
use Rattle.std.proofs.lemmas.List.{drop_more, get_or-drop}
use Rattle.std.specs.List.{position, position_or_len, zip}
use Rattle.std.specs.Option.{unwrap_or}
use Rattle.bits.specs.Bits.{field_answer, replaced_answer}
use Rattle.bodies.specs.Bodies.{fitting, values_from, laid_from, filled}

-- ---- how many fit

-- values that are missing fit
fitting-none : (ws : List ℕ) → fitting ws [] ≡ length ws
unfolding fitting
fitting-none [] = refl
fitting-none (w ∷ ws) =
    let some : 0 < 2 ^ w = pow_mono {i = 0} (omega arith) in
    rw (lt-ltb 0 (2 ^ w) some) (ap suc (fitting-none ws))

-- a width and a value that does not fit it
abbrev pub exceeds : ℕ × ℕ → Bool
exceeds p = not (ltb p.1 (2 ^ p.0))

-- the place of the first that does not fit, or else how many fields there are
pub fitting-position : (ws vs : List ℕ) → unwrap_or (position exceeds (zip ws vs)) (length ws) ≡ fitting ws vs
unfolding fitting
fitting-position [] vs = refl
fitting-position (w ∷ ws) [] = sym (fitting-none (w ∷ ws))
fitting-position (w ∷ ws) (v ∷ vs) =
    go (ltb v (2 ^ w)) (position_or_len exceeds (zip ws vs)) (length (zip ws vs)) (fitting-position ws vs)
  where
    further : (at n : ℕ) (b : Bool) → ltb at n ≡ b → unwrap_or (cond b (Some at) None) (length ws) ≡ fitting ws vs
        → unwrap_or (cond (ltb (1 + at) (suc n)) (Some (1 + at)) None) (suc (length ws)) ≡ suc (fitting ws vs)
    further at n true e h = rw (lt-ltb (1 + at) (suc n) (omega (arith, ltb-true at n e))) (omega (arith, h))
    further at n false e h = rw (le-ltb (1 + at) (suc n) (omega (arith, ltb-false at n e))) (omega (arith, h))

    go : (b : Bool) (at n : ℕ) → unwrap_or (cond (ltb at n) (Some at) None) (length ws) ≡ fitting ws vs
        → unwrap_or (cond (ltb (cond (not (not b)) (1 + at) 0) (suc n)) (Some (cond (not (not b)) (1 + at) 0)) None) (suc (length ws))
        ≡ cond b (suc (fitting ws vs)) 0
    go true at n h = further at n (ltb at n) refl h
    go false at n h = rw (lt-ltb 0 (suc n) (omega arith))

-- ---- writing

laid_next : (at k w : ℕ) (ws vs body : List ℕ)
    → laid_from at (w ∷ ws) (drop k vs) body ≡ laid_from (at + w) ws (drop (k + 1) vs) (replaced_answer at w (get_or vs k 0) body)
unfolding laid_from
laid_next at k w ws vs body = rw (get_or-drop k vs 0 0, add-zero k, drop-drop 1 k vs)

module _ (at k : ℕ) (ws vs body : List ℕ) where
  pub laid_one : k < length ws
      → laid_from (at + get_or ws k 0) (drop (k + 1) ws) (drop (k + 1) vs) (replaced_answer at (get_or ws k 0) (get_or vs k 0) body)
      ≡ laid_from at (drop k ws) (drop k vs) body
  laid_one inside =
      sym
      (ap (λ (l : List ℕ). laid_from at l (drop k vs) body) (drop_more ws k 0 inside)
      ∙ laid_next at k (get_or ws k 0) (drop (k + 1) ws) vs body)

  pub laid-all : length ws ≤ k → body ≡ laid_from at (drop k ws) (drop k vs) body
  unfolding laid_from
  laid-all past = rw (drop_of_length-le ws past)

-- ---- reading

filled_next : (at k w : ℕ) (ws body room : List ℕ) → k < length room
    → let more = set room k (field_answer at w body) in
    take (k + 1) more ++ filled (values_from (at + w) ws body) (drop (k + 1) more)
    ≡ take k room ++ filled (values_from at (w ∷ ws) body) (drop k room)
unfolding filled values_from
filled_next at k w ws body room h =
    let v = field_answer at w body in
    rw (add-one k, take-suc-set room k v h, drop-set-lt (suc k) room k v (le_refl (suc k)), drop-cons room k 0 h)
    (append_snoc (take k room) v (filled (values_from (at + w) ws body) (drop (suc k) room)))

filled_none : (vs : List ℕ) → filled vs [] ≡ []
unfolding filled
filled_none [] = refl
filled_none (v ∷ vs) = refl

module _ (at k : ℕ) (ws body room : List ℕ) where
  -- a place is filled
  pub filled-one : k < length ws → k < length room
      → let more = set room k (field_answer at (get_or ws k 0) body) in
      take (k + 1) more ++ filled (values_from (at + get_or ws k 0) (drop (k + 1) ws) body) (drop (k + 1) more)
      ≡ take k room ++ filled (values_from at (drop k ws) body) (drop k room)
  filled-one inside there =
      filled_next at k (get_or ws k 0) (drop (k + 1) ws) body room there
      ∙ ap (λ (l : List ℕ). take k room ++ filled (values_from at l body) (drop k room)) (sym (drop_more ws k 0 inside))

  -- no value is left
  filled-all : length ws ≤ k → room ≡ take k room ++ filled (values_from at (drop k ws) body) (drop k room)
  unfolding filled values_from
  filled-all past = rw (drop_of_length-le ws past) (sym (take-append-drop k room))

  -- no place is left
  filled-full : length room ≤ k → room ≡ take k room ++ filled (values_from at (drop k ws) body) (drop k room)
  filled-full past =
      rw (drop_of_length-le room past, filled_none (values_from at (drop k ws) body), take_all k room past) (sym (append-nil room))

  pub filled-past : min (length ws) (length room) ≤ k → room ≡ take k room ++ filled (values_from at (drop k ws) body) (drop k room)
  filled-past past = go (ltb (length ws) (length room)) refl
    where
      go : (b : Bool) → ltb (length ws) (length room) ≡ b → room ≡ take k room ++ filled (values_from at (drop k ws) body) (drop k room)
      go true e = filled-all (omega (arith, ltb-true (length ws) (length room) e))
      go false e = filled-full (omega (arith, ltb-false (length ws) (length room) e))
