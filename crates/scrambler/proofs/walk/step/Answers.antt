-- `scrambler::walk::step` meets its contract: a sum modulo 2 is xor.
-- Assumes nothing.
use Rattle.std.proofs.Common.{ap, ap₂, ◌∙◌, Bool, ◌+◌, ◌-◌, ◌/◌, ◌%◌, ◌^◌, mod-lt, zero-lt-suc}
use Rattle.bits.specs.Bits.{◌⊕◌, odd}
use Rattle.bits.proofs.Numbers.{odd-add, odd-mod}
use Rattle.scrambler.proofs.walk.step.Goals as goal

pub returns : goal.returns
returns c =
    let a = c.args in
    let n = a.sent / 2 ^ (a.near - 1) in
    let f = a.sent / 2 ^ (a.far - 1) in (
      mod-lt _ (zero-lt-suc 1),
      odd-mod (a.bit + n % 2 + f % 2)
          ∙ odd-add (a.bit + n % 2) (f % 2)
          ∙ ap₂ ◌⊕◌ (odd-add a.bit (n % 2) ∙ ap (λ (x : Bool). odd a.bit ⊕ x) (odd-mod n)) (odd-mod f),
    )
