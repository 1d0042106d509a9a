-- What is lent of a part, and what is put back.
-- Assumes nothing.
use Prim.Native.Nat.{ℕ, suc, ◌+◌, ◌-◌, ◌≤◌}
use native.Mathlib.Omega.{arith}
use mathlib.Core.Path.{◌≡◌, ◌∙◌, ap}
use mathlib.Core.List.{List, [], ◌∷◌, ◌++◌}
use lib.ListN.{length, take, drop, set, length-append, length-drop}
use lib.Seq.{take_at}
use Rattle.frames.specs.Frames.{body_in}
use Rattle.frames.proofs.Parts.{body_is, body-length}

-- the body of a part, as it is lent; and the part with a body put back
abbrev pub lent : List ℕ → List ℕ
lent part = take (length part - 2 - 1) (drop 1 part)

abbrev pub put : List ℕ → List ℕ → List ℕ
put part ys = take 1 part ++ (ys ++ drop (length part - 2 - 1) (drop 1 part))

-- a part of m bytes of body
module _ (x : ℕ) (xs : List ℕ) (m : ℕ) (long : length xs ≡ m + 2) where
  abbrev part : List ℕ
  part = x ∷ xs

  pub lent_is : lent part ≡ take m xs
  lent_is = let e : length part - 2 - 1 ≡ m = omega (arith, long) in ap (λ (j : ℕ). take j xs) e

  pub put_is : (ys : List ℕ) → put part ys ≡ x ∷ (ys ++ drop m xs)
  put_is ys = let e : length part - 2 - 1 ≡ m = omega (arith, long) in ap (λ (j : ℕ). x ∷ (ys ++ drop j xs)) e

  pub sum-length : length (drop m xs) ≡ 2
  sum-length = rw length-drop (omega (arith, long))

-- a part with another body, and another first byte
pub length-put : (part ys : List ℕ) → 3 ≤ length part → length ys ≡ length (lent part) → length (put part ys) ≡ length part
length-put [] ys h e = absurd (omega arith)
length-put (x ∷ xs) ys h e =
    let m = length xs - 2 in
    let long : length xs ≡ m + 2 = omega arith in
    let wide : length ys ≡ m = e ∙ ap length (lent_is x xs m long) ∙ body-length x xs m long in
    ap length (put_is x xs m long ys)
    ∙ ap suc (length-append ys (drop m xs) ∙ omega (arith, wide, sum-length x xs m long, long))

pub body-put : (part ys : List ℕ) (v : ℕ) → 3 ≤ length part → length ys ≡ length (lent part) → body_in (set (put part ys) 0 v) ≡ ys
body-put [] ys v h e = absurd (omega arith)
body-put (x ∷ xs) ys v h e =
    let m = length xs - 2 in
    let long : length xs ≡ m + 2 = omega arith in
    let wide : length ys ≡ m = e ∙ ap length (lent_is x xs m long) ∙ body-length x xs m long in
    let whole : length (ys ++ drop m xs) ≡ m + 2 = length-append ys (drop m xs) ∙ omega (arith, wide, sum-length x xs m long) in
    ap (λ (l : List ℕ). body_in (set l 0 v)) (put_is x xs m long ys)
    ∙ body_is v (ys ++ drop m xs) m whole
    ∙ take_at ys (drop m xs) m wide
