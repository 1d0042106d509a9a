-- What comes before the type byte, written.
-- Assumes nothing.
use Prim.Native.Nat.{ℕ, ◌+◌, ◌-◌}
use native.Mathlib.Omega.{arith}
use mathlib.Core.Path.{◌≡◌, sym, ◌∙◌, ap, ap₂}
use mathlib.Core.Bool.{Bool, true, cond}
use mathlib.Core.List.{List, [], ◌∷◌, ◌++◌, append_assoc}
use lib.ListN.{length, length-append, take, drop, set, length-drop, length-replicate, replicate}
use lib.Seq.{take_at, drop_at, set_at}
use Rattle.satellites.specs.declared.Satellite.{Satellite}
use Rattle.satellites.specs.Satellites.{training_of, size_byte_of, type_byte_at}
use Rattle.frames.specs.Frames.{training, sync}
use Rattle.fronts.specs.Fronts.{front_after}
use Rattle.fronts.proofs.Filled.{front-filled}

-- one byte put behind others
put_one : (p l : List ℕ) (n a : ℕ) → length p ≡ n → length l ≡ 1 → set (p ++ l) n a ≡ p ++ (a ∷ [])
put_one p [] n a long one = absurd (omega (arith, one))
put_one p (x ∷ []) n a long one = set_at p x [] a n long
put_one p (x ∷ y ∷ l) n a long one = absurd (omega (arith, one))

-- n bytes of training and two of sync, put over the start of a part
abbrev pub over : ℕ → List ℕ → List ℕ → List ℕ
over n p1 ys = take n p1 ++ (ys ++ drop (n + 2 - n) (drop n p1))

module _ (s : Satellite) (n : ℕ) (its : n ≡ training_of s) (p : List ℕ) (long : length p ≡ type_byte_at s) where
  -- how long the part is, by whether there is a size byte
  pub length-by : (has : Bool) → size_byte_of s ≡ has → length p ≡ n + 2 + cond has 1 0
  length-by has e = long ∙ ap₂ (λ (k : ℕ) (b : Bool). k + 2 + cond b 1 0) (sym its) e

  -- the part as it is once training and sync are copied
  module _ (p1 ys : List ℕ)
      (first : p1 ≡ replicate n 0xAA ++ drop n p)
      (second_is : ys ≡ sync) where
    as_long : length (training s) ≡ n
    as_long = length-replicate (training_of s) 0xAA ∙ sym its

    first-is : p1 ≡ training s ++ drop n p
    first-is = first ∙ ap (λ (k : ℕ). replicate k 0xAA ++ drop n p) its

    behind-is : drop n p1 ≡ drop n p
    behind-is = ap (drop n) first-is ∙ drop_at (training s) (drop n p) n as_long

    joined : over n p1 ys ≡ training s ++ (sync ++ drop 2 (drop n p))
    joined =
        let two : n + 2 - n ≡ 2 = omega arith in
        let front = ap (take n) first-is ∙ take_at (training s) (drop n p) n as_long in
        rw (two, behind-is, second_is) (ap (λ (l : List ℕ). l ++ (sync ++ drop 2 (drop n p))) front)

    pub sized : (size : ℕ) → size_byte_of s ≡ true → set (over n p1 ys) (n + 2) size ≡ front_after s size p
    sized size has =
        let one : length (drop 2 (drop n p)) ≡ 1 =
        rw (length-drop 2 (drop n p), length-drop n p) (omega (arith, length-by true has)) in
        ap (λ (l : List ℕ). set l (n + 2) size) (joined ∙ sym (append_assoc (training s) sync (drop 2 (drop n p))))
        ∙ put_one (training s ++ sync) (drop 2 (drop n p)) (n + 2) size
        (length-append (training s) sync ∙ ap (λ (k : ℕ). k + 2) as_long) one
        ∙ append_assoc (training s) sync (size ∷ [])
        ∙ sym (ap (λ (b : Bool). training s ++ (sync ++ cond b (size ∷ []) [])) has)
        ∙ sym (front-filled s size p long)
