-- What lies from type byte to checksum: type byte and address, the body, two bytes of checksum.
-- Assumes nothing.
use Prim.Native.Nat.{ℕ, suc, ◌+◌, ◌-◌, ◌≤◌}
use native.Mathlib.Omega.{arith}
use mathlib.Core.Path.{◌≡◌, ◌∙◌, ap, ap₂}
use mathlib.Core.List.{List, [], ◌∷◌}
use lib.ListN.{length, take, drop, length-append, length-take}
use Rattle.bits.specs.Bits.{bits, in_bytes}
use Rattle.bits.proofs.Bytes.{length-packed}
use Rattle.checksum.specs.Checksum.{checksum}
use Rattle.scrambler.specs.declared.Direction.TheVariants.{Scramble}
use Rattle.scrambler.specs.Scrambler.{Register, part_answer}
use Rattle.scrambler.proofs.Parts.{length-answer}
use Rattle.frames.specs.Frames.{sealed, covered, body_in}

-- a part of m bytes of body
module _ (x : ℕ) (xs : List ℕ) (m : ℕ) (long : length xs ≡ m + 2) where
  abbrev part : List ℕ
  part = x ∷ xs

  pub end_is : length part - 2 ≡ suc m
  end_is = omega (arith, long)

  covered-is : covered part ≡ x ∷ take m xs
  covered-is = ap (λ (k : ℕ). take k part) end_is

  pub body_is : body_in part ≡ take m xs
  body_is = ap (drop 1) covered-is

  pub sum_is : drop (length part - 2) part ≡ drop m xs
  sum_is = ap (λ (k : ℕ). drop k part) end_is

  pub body-length : length (take m xs) ≡ m
  body-length = rw length-take (omega (arith, long))

pub length-body : (part : List ℕ) → 3 ≤ length part → length (body_in part) + 3 ≡ length part
length-body [] h = absurd (omega arith)
length-body (x ∷ xs) h =
    let m = length xs - 2 in
    let long : length xs ≡ m + 2 = omega arith in
    omega (arith, ap length (body_is x xs m long), body-length x xs m long, long)

pub length-sealed : (r : Register) (x : ℕ) (body : List ℕ) → length (sealed r x body) ≡ length body + 3
unfolding sealed
length-sealed r x body =
    ap suc (length-append (part_answer Scramble r body) (in_bytes 2 (checksum (x ∷ body)))
    ∙ ap₂ ◌+◌ (length-answer Scramble r body) (length-packed 2 (bits 16 (checksum (x ∷ body)))))
    ∙ omega arith
