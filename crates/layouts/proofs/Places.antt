-- Where fields stand: each begins where the one before ends, and so every bit of the body lies in exactly one of them.
-- Assumes nothing.
use Prim.Native.Nat.{ℕ, zero, suc, ◌+◌, ◌-◌, ◌*◌, ◌≤◌, ◌<◌}
use native.Mathlib.Nat.{not-suc-le-zero}
use native.Mathlib.Omega.{arith}
use mathlib.Core.Path.{◌≡◌, refl, ◌∙◌, ap}
use mathlib.Core.Bool.{Bool, true, false}
use mathlib.Core.List.{List, [], ◌∷◌}
use lib.Dec.{ltb}
use lib.ListN.{length, get_or, take}
use lib.Seq.{take_all}
use borrow.Author.Tests.{ltb-true, ltb-false}
use Rattle.std.specs.List.{sum_by}
use Rattle.std.proofs.lemmas.List.Sums.{sum_by-cons}
use Rattle.layouts.specs.Layouts.{total, width_at, start_at}

-- a field begins where the one before ends
pub start-next : (ws : List ℕ) (k : ℕ) → start_at ws (suc k) ≡ start_at ws k + width_at ws k
unfolding total
start-next [] zero = refl
start-next [] (suc k) = refl
start-next (w ∷ ws) zero = omega arith
start-next (w ∷ ws) (suc k) = omega (arith, start-next ws k)

-- that is the sum of the widths ahead
pub start-sum : (ws : List ℕ) (k : ℕ) → sum_by (λ w. w) (take k ws) ≡ start_at ws k
unfolding total
start-sum ws k = total-sum (take k ws)
  where
    total-sum : (ws : List ℕ) → sum_by (λ w. w) ws ≡ total ws
    total-sum [] = refl
    total-sum (w ∷ ws) = sum_by-cons (λ w. w) w ws ∙ ap (λ n. w + n) (total-sum ws)

-- and small where each width is a byte
pub start-small : (ws : List ℕ) (k : ℕ) → ((j : ℕ) → get_or ws j 0 < 256) → start_at ws k ≤ 255 * length ws
unfolding total
start-small ws zero small = omega arith
start-small [] (suc k) small = omega arith
start-small (w ∷ ws) (suc k) small = omega (arith, small 0, start-small ws k (λ j. small (suc j)))

-- past the last field stands the body's end
pub start-past : (ws : List ℕ) (k : ℕ) → length ws ≤ k → start_at ws k ≡ total ws
start-past ws k past = ap total (take_all k ws past)

-- a field ends ahead of every later one
pub apart : (ws : List ℕ) (i j : ℕ) → i < j → start_at ws i + width_at ws i ≤ start_at ws j
apart ws i zero h = absurd (not-suc-le-zero h)
apart ws i (suc j) h = go (ltb i j) refl (apart ws i j)
  where
    go : (b : Bool) → ltb i j ≡ b → (i < j → start_at ws i + width_at ws i ≤ start_at ws j)
        → start_at ws i + width_at ws i ≤ start_at ws (suc j)
    go true e rest = omega (arith, rest (ltb-true i j e), start-next ws j)
    go false e rest =
        let same : i ≡ j = omega (arith, ltb-false i j e, h) in
        rw same (omega (arith, start-next ws j))

-- and inside the body
pub ends-inside : (ws : List ℕ) (k : ℕ) → k < length ws → start_at ws k + width_at ws k ≤ total ws
ends-inside ws k inside = omega (arith, apart ws k (length ws) inside, start-past ws (length ws) (omega arith))

-- every bit lies in a field
pub covered : (ws : List ℕ) (bit : ℕ) → bit < total ws
    → (k : ℕ) × (k < length ws) × (start_at ws k ≤ bit) × (bit < start_at ws k + width_at ws k)
unfolding total
covered [] bit h = absurd (not-suc-le-zero h)
covered (w ∷ ws) bit h = go (ltb bit w) refl (covered ws (bit - w))
  where
    go : (b : Bool) → ltb bit w ≡ b
        → (bit - w < total ws → (k : ℕ) × (k < length ws) × (start_at ws k ≤ bit - w) × (bit - w < start_at ws k + width_at ws k))
        → (k : ℕ) × (k < length (w ∷ ws)) × (start_at (w ∷ ws) k ≤ bit) × (bit < start_at (w ∷ ws) k + width_at (w ∷ ws) k)
    go true e rest = (0, omega arith, omega arith, omega (arith, ltb-true bit w e))
    go false e rest =
        let past = ltb-false bit w e in
        let r = rest (omega (arith, past, h)) in
        (suc r.0, omega (arith, r.1), omega (arith, past, r.2), omega (arith, past, r.3))

-- and in no other
pub no_other : (ws : List ℕ) (bit i j : ℕ) → start_at ws i ≤ bit → bit < start_at ws i + width_at ws i → start_at ws j ≤ bit
    → bit < start_at ws j + width_at ws j → i ≡ j
no_other ws bit i j from-i in-i from-j in-j = go (ltb i j) refl (ltb j i) refl
  where
    go : (b : Bool) → ltb i j ≡ b → (d : Bool) → ltb j i ≡ d → i ≡ j
    go true e d f = absurd (omega (arith, apart ws i j (ltb-true i j e), in-i, from-j))
    go false e true f = absurd (omega (arith, apart ws j i (ltb-true j i f), in-j, from-i))
    go false e false f = omega (arith, ltb-false i j e, ltb-false j i f)
