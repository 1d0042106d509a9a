-- `bits::gather` meets its contract: four bytes at most were gathered before, so that one more fits.
-- Assumes nothing.
use Rattle.std.proofs.Common.{◌≡◌, sym, ◌^◌, ◌<◌, ℕ, List, take, arith, rules}
use mathlib.Core.Path.{subst⁻¹}
use lib.ListN.{length-take}
use Rattle.bits.specs.Bits.{number, bits_of}
use Rattle.bits.proofs.Groups.{gathered-lt, gathered_next}
use Rattle.bits.proofs.gather.Goals as goal

small : (sum i : ℕ) (group : List ℕ) → i < 5 → sum ≡ number (bits_of (take i group)) → sum < 2 ^ 32
small sum i group few e = subst⁻¹ (λ (n : ℕ). n < 2 ^ 32) e (gathered-lt 4 (take i group) (rw length-take (omega arith)))

pub loop-byte-init : goal.loop-byte-init
unfolding bits_of number
loop-byte-init c = search rules

pub overflow_mul-sum : goal.overflow_mul-sum
overflow_mul-sum c =
    let l = c.loop-byte in
    omega (arith, small l.sum l.byte-index c.args.group.now (omega arith) l.invariant)

pub overflow_add-sum : goal.overflow_add-sum
overflow_add-sum c =
    let l = c.loop-byte in
    omega (arith, small l.sum l.byte-index c.args.group.now (omega arith) l.invariant, c.type_inv.group l.byte-index)

pub loop-byte-preserved : goal.loop-byte-preserved
loop-byte-preserved c =
    let l = c.loop-byte in
    rw l.invariant
    (sym (gathered_next c.args.group.now l.byte-index c.loop-byte-test.true (c.type_inv.group l.byte-index).fits))
