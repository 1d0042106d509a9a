-- `checksum::shifted` meets its contract: the quotient is the highest bit.
-- Assumes nothing.
use Rattle.std.proofs.Common.{◌≡◌, refl, ap, ◌∙◌, Bool, true, false, cond, ℕ, ◌*◌, ◌/◌, ◌%◌, ◌<◌, ltb, ltb-true, ltb-false, arith}
use lib.Bits.{bit_xor}
use Rattle.bits.specs.Bits.{odd, bits, number}
use Rattle.checksum.specs.Checksum.{polynomial, divided}
use Rattle.checksum.proofs.Register.{shifted-is}
use Rattle.checksum.proofs.shifted.Goals as goal

by-quotient : (r q : ℕ) (top : Bool) → r / 32768 ≡ q → odd q ≡ top → q * polynomial ≡ cond top polynomial 0
    → bit_xor (r % 32768 * 2) (r / 32768 * polynomial) ≡ number (divided (bits 16 r) false)
by-quotient r q top e f g =
    ap (bit_xor (r % 32768 * 2)) (ap (λ (n : ℕ). n * polynomial) e ∙ g) ∙ shifted-is r top (ap odd e ∙ f)

shifted_by : (r : ℕ) → r < 65536 → bit_xor (r % 32768 * 2) (r / 32768 * polynomial) ≡ number (divided (bits 16 r) false)
unfolding odd
shifted_by r small = go (ltb r 32768) refl
  where
    go : (b : Bool) → ltb r 32768 ≡ b → bit_xor (r % 32768 * 2) (r / 32768 * polynomial) ≡ number (divided (bits 16 r) false)
    go true e = let low = ltb-true r 32768 e in by-quotient r 0 false (omega arith) refl refl
    go false e = let high = ltb-false r 32768 e in by-quotient r 1 true (omega arith) refl refl

pub returns : goal.returns
returns c = shifted_by c.args.register c.ranges.register.fits
