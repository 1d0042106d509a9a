-- `bits::put` meets its contract: the sum that is spread is the number of the same bits with the field replaced, so no
-- part of it passes 2^40.
-- Assumes nothing.
use Rattle.std.proofs.Common.{◌≡◌, ◌∙◌, ap, ℕ, ◌+◌, ◌*◌, ◌/◌, ◌%◌, ◌^◌, ◌<◌, ◌≤◌, Bool, List, length, arith}
use native.Mathlib.Nat.{le_trans, mul-le-mul_left, mul-one}
use lib.Pow.{pow_pos, pow_mono}
use Rattle.bits.specs.Bits.{number, bits_of, packed, changed, replaced, in_bytes}
use Rattle.bits.specs.Located.{Holds, lead}
use Rattle.bits.proofs.Numbers.{number_lt, bits-of}
use Rattle.bits.proofs.Bytes.{length-bits_of}
use Rattle.bits.proofs.Groups.{length-changed, number-changed}
use Rattle.bits.proofs.put.Goals as goal
use Rattle.bits.proofs.put.Goals.{After-gather-old}

-- The sum that is spread, from the number N that was gathered and the powers S and U. Its parts are asked to fit, one after
-- the other.
record Sum (xs : List ℕ) (w k v N S U : ℕ) : Type 0 where
  first : N / U / S * S < 2 ^ 64
  second : N / U / S * S + v % S < 2 ^ 64
  third : (N / U / S * S + v % S) * U < 2 ^ 64
  whole : (N / U / S * S + v % S) * U + N % U < 2 ^ 64
  spread : in_bytes (length xs) ((N / U / S * S + v % S) * U + N % U) ≡ replaced (lead xs w k) w v xs

module _ (xs : List ℕ) (w k v : ℕ) (asked : Holds xs w k) where
  abbrev ahead : ℕ
  ahead = lead xs w k

  laid : length (bits_of xs) ≡ ahead + (w + k)
  laid = rw length-bits_of (omega arith)

  abbrev new : List Bool
  new = changed ahead w v (bits_of xs)

  new-length : length new ≡ length (bits_of xs)
  new-length = length-changed ahead w v (bits_of xs) (omega (arith, laid))

  new-lt : number new < 2 ^ 64
  new-lt = le_trans (number_lt new) (pow_mono {j = 64} (rw (new-length, length-bits_of xs) (omega arith)))

  new-spread : in_bytes (length xs) (number new) ≡ replaced ahead w v xs
  unfolding replaced
  new-spread = ap (packed (length xs)) (bits-of (8 * length xs) new (new-length ∙ length-bits_of xs))

  sum : {N S U : ℕ} → N ≡ number (bits_of xs) → S ≡ 2 ^ w → U ≡ 2 ^ k → Sum xs w k v N S U
  sum {N} {S} {U} n s u =
      let front : ℕ = N / U / S * S + v % S in
      let is : front * U + N % U ≡ number new = rw (n, s, u) (number-changed (bits_of xs) ahead w k laid v) in
      let lt : front * U + N % U < 2 ^ 64 = rw is new-lt in
      let positive : 0 < U = rw u (pow_pos k) in
      let grown : front ≤ front * U = rw mul-one at (mul-le-mul_left front positive) in
      record {
        first = omega arith;
        second = omega arith;
        third = omega arith;
        whole = lt;
        spread = rw is new-spread;
      }

-- the sum of what the code has gathered
code_sum : (c : After-gather-old) → let a = c.args in
    Sum a.group.now a.width a.rest a.value c.gather-old.result c.power-span.result c.power-under.result
code_sum c =
    let a = c.args in
    sum a.group.now a.width a.rest a.value c.requires c.gather-old.ensures c.power-span.ensures.0 c.power-under.ensures.0

pub overflow_add-ahead : goal.overflow_add-ahead
overflow_add-ahead c = record { fits = (code_sum (goal.at.overflow_add-ahead c).After-gather-old).second }

pub overflow_mul-ahead-2 : goal.overflow_mul-ahead-2
overflow_mul-ahead-2 c = record { fits = (code_sum (goal.at.overflow_mul-ahead-2 c).After-gather-old).third }

pub overflow_add-ahead-2 : goal.overflow_add-ahead-2
overflow_add-ahead-2 c = record { fits = (code_sum (goal.at.overflow_add-ahead-2 c).After-gather-old).whole }

pub returns : goal.returns
returns c = c.spread.ensures ∙ (code_sum (goal.at.returns c).After-gather-old).spread
