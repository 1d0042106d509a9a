-- A part whose body was scrambled and whose checksum was put behind it.
-- Assumes nothing.
use Prim.Native.Nat.{ℕ, ◌+◌, ◌-◌, ◌/◌, ◌^◌, ◌≤◌}
use native.Mathlib.Omega.{arith}
use mathlib.Core.Path.{◌≡◌, refl, sym, ◌∙◌, ap, ap₂}
use mathlib.Core.List.{List, [], ◌∷◌, ◌++◌}
use lib.ListN.{length, get_or, take, drop}
use lib.Seq.{take_all, take_at, drop_at}
use Rattle.std.specs.Int.{w16, to_be_bytes}
use Rattle.bits.specs.Bits.{bits, packed, in_bytes}
use Rattle.bits.proofs.Numbers.{number-bits, bits-append, length-bits}
use Rattle.checksum.specs.Checksum.{checksum}
use Rattle.scrambler.specs.declared.Direction.TheVariants.{Scramble}
use Rattle.scrambler.specs.Scrambler.{Register, part_answer}
use Rattle.frames.specs.Frames.{sealed, body_in}
use Rattle.frames.proofs.Parts.{end_is, body_is}
use Rattle.sealing.proofs.Opening.{first-stays}

-- what is ahead of the checksum: the type byte and the body
front-is : (x : ℕ) (xs : List ℕ) → 3 ≤ length (x ∷ xs) → take (length (x ∷ xs) - 2) (x ∷ xs) ≡ x ∷ body_in (x ∷ xs)
front-is x xs h =
    let m = length xs - 2 in
    let long : length xs ≡ m + 2 = omega arith in
    ap (λ (k : ℕ). take k (x ∷ xs)) (end_is x xs m long) ∙ ap (λ (l : List ℕ). x ∷ l) (sym (body_is x xs m long))

-- ---- the checksum's two bytes

two_bytes : (v : ℕ) → in_bytes 2 v ≡ to_be_bytes w16 v
unfolding packed
two_bytes v =
    rw (
      bits-append 8 8 v,
      take_at (bits 8 (v / 2 ^ 8)) (bits 8 v) 8 (length-bits 8 (v / 2 ^ 8)),
      drop_at (bits 8 (v / 2 ^ 8)) (bits 8 v) 8 (length-bits 8 (v / 2 ^ 8)),
      take_all 8 (bits 8 v) (rw length-bits (omega arith)),
      number-bits 8 v,
      number-bits 8 (v / 2 ^ 8),
    ) refl

-- ---- a part to be sent

-- its front with the body scrambled
scrambled : (r : Register) (front ys : List ℕ) (x : ℕ) (body : List ℕ) → front ≡ x ∷ body
    → ys ≡ part_answer Scramble r (take (length front - 1) (drop 1 front))
    → take 1 front ++ (ys ++ drop (length front - 1) (drop 1 front)) ≡ x ∷ part_answer Scramble r body
scrambled r [] ys x body is e = absurd (omega (arith, ap length is))
scrambled r (y ∷ xs) ys x body is e =
    first-stays r Scramble y xs ys e ∙ ap₂ (λ z l. z ∷ part_answer Scramble r l) (ap (λ l. get_or l 0 0) is) (ap (drop 1) is)

pub sealed-is : (r : Register) (part front ys last : List ℕ) (sum : ℕ) → 3 ≤ length part → front ≡ take (length part - 2) part
    → sum ≡ checksum front → last ≡ to_be_bytes w16 sum
    → ys ≡ part_answer Scramble r (take (length front - 1) (drop 1 front))
    → (take 1 front ++ (ys ++ drop (length front - 1) (drop 1 front))) ++ last ≡ sealed r (get_or part 0 0) (body_in part)
unfolding sealed
sealed-is r [] front ys last sum h e s two new = absurd (omega arith)
sealed-is r (x ∷ xs) front ys last sum h e s two new =
    let is = e ∙ front-is x xs h in
    ap₂ ◌++◌ (scrambled r front ys x (body_in (x ∷ xs)) is new)
    (two ∙ sym (two_bytes sum) ∙ ap (in_bytes 2) (s ∙ ap checksum is))
