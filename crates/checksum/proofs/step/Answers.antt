-- `checksum::step` meets its contract: each turn is one division more.
-- Assumes nothing.
use Rattle.std.proofs.Common.{◌≡◌, sym, ◌∙◌, ap, false, ◌*◌, arith}
use lib.Bits.{bit_xor, xor_lt}
use Rattle.bits.specs.Bits.{bits, number}
use Rattle.bits.proofs.Numbers.{length-bits}
use Rattle.checksum.specs.Checksum.{divided, after}
use Rattle.checksum.proofs.Register.{same_register, step_from, shift-next}
use Rattle.checksum.proofs.step.Goals as goal

pub loop-init : goal.loop-init
unfolding after
loop-init c =
    let a = c.args in
    sym (same_register (bit_xor a.register (a.byte * 256)) (xor_lt 16 a.register (a.byte * 256) c.ranges.register.fits (omega arith)))

pub loop-preserved : goal.loop-preserved
loop-preserved c =
    let a = c.args in
    let l = c.loop in
    let r = bits 16 (bit_xor a.register (a.byte * 256)) in
    c.shifted-r.ensures ∙ ap (λ n. number (divided (bits 16 n) false)) l.invariant ∙ shift-next r l.counter (length-bits 16 _)

pub returns : goal.returns
returns c =
    let l = c.loop in
    let e : l.counter ≡ 8 = omega arith in
    rw e at l.invariant ∙ step_from c.args.register c.args.byte
