-- A byte on its way through the register, bit by bit: what has come out, ahead of what the bits that are left bring, is
-- what the whole byte brings.
-- Assumes nothing.
use mathlib.Core.Path.{◌≡◌, refl, sym, ap, ap₂, ◌∙◌}
use mathlib.Core.Bool.{Bool, false}
use mathlib.Core.List.{List, ◌∷◌, ◌++◌, append-nil}
use Prim.Native.Nat.{ℕ, zero, suc, ◌+◌, ◌-◌, ◌*◌, ◌/◌, ◌%◌, ◌^◌, ◌≤◌, ◌<◌}
use native.Mathlib.Nat.{pow-suc}
use native.Mathlib.Numerals.{sub-one}
use native.Mathlib.Omega.{arith}
use lib.ListN.{get_or}
use lib.Seq.{append_snoc}
use Rattle.bits.specs.Bits.{◌⊕◌, odd, bits}
use Rattle.bits.proofs.Numbers.{odd-mod, bits-behind}
use Rattle.scrambler.specs.declared.Direction.{Direction}
use Rattle.scrambler.specs.declared.Direction.TheVariants.{Scramble, Unscramble}
use Rattle.scrambler.specs.Scrambler.{crossed, on_air, through, sent_after}
use Rattle.scrambler.specs.Walk.{Taps, Held}
use Rattle.scrambler.proofs.Held.{held_next}

odd-air : (way : Direction) (a b : ℕ) → odd (on_air way a b) ≡ on_air way (odd a) (odd b)
odd-air Scramble a b = refl
odd-air Unscramble a b = refl

pub air-lt : (way : Direction) (a b : ℕ) → a < 2 → b < 2 → on_air way a b < 2
air-lt Scramble a b ha hb = hb
air-lt Unscramble a b ha hb = ha

-- what has come out fits the bits that have passed
pub out-lt : (out c left : ℕ) → 0 < left → left ≤ 8 → c < 2 → out < 2 ^ (8 - left) → out * 2 + c < 2 ^ (8 - (left - 1))
out-lt out c left some few c_lt h =
    let wide : 8 - (left - 1) ≡ suc (8 - left) = omega arith in
    rw (wide, pow-suc 2 (8 - left)) (omega arith)

module _ (way : Direction) (near far : ℕ) (first : List Bool) (byte : ℕ) where
  pub record Going (held out left : ℕ) : Type 0 where
    pub sent : List Bool
    pub holds : Held far held sent
    pub comes : bits (8 - left) out ++ through way near far sent (bits left byte) ≡ through way near far first (bits 8 byte)
    pub ends : sent_after way near far sent (bits left byte) ≡ sent_after way near far first (bits 8 byte)

  pub going_start : (held : ℕ) → Held far held first → Going held 0 8
  unfolding bits
  going_start held h = record { sent = first; holds = h; comes = refl; ends = refl }

  module _ (taps : Taps near far) (held out bit c : ℕ) (bit-lt : bit < 2) (c_lt : c < 2)
      (c-is : odd c ≡ odd bit ⊕ odd (held / 2 ^ (near - 1)) ⊕ odd (held / 2 ^ (far - 1))) where
    crossed-is : (sent : List Bool) → Held far held sent → odd c ≡ crossed near far sent (odd bit)
    crossed-is sent h =
        c-is ∙ ap₂ (λ (n f : Bool). odd bit ⊕ n ⊕ f) (h (near - 1) (omega arith)) (h (far - 1) (omega arith))

    -- the bit that comes out and the bit on air are the code's
    step_through : (sent bs : List Bool) → Held far held sent
        → through way near far sent (odd bit ∷ bs) ≡ odd c ∷ through way near far (odd (on_air way bit c) ∷ sent) bs
    unfolding through
    step_through sent bs h =
        rw (odd-air way bit c, crossed-is sent h)

    step-sent_after : (sent bs : List Bool) → Held far held sent
        → sent_after way near far sent (odd bit ∷ bs) ≡ sent_after way near far (odd (on_air way bit c) ∷ sent) bs
    unfolding sent_after
    step-sent_after sent bs h = rw (odd-air way bit c, crossed-is sent h)

    next_bit : (left : ℕ) → bit ≡ byte / 2 ^ left % 2 → bits (suc left) byte ≡ odd bit ∷ bits left byte
    unfolding bits
    next_bit left e = ap (λ (b : Bool). b ∷ bits left byte) (sym (ap odd e ∙ odd-mod (byte / 2 ^ left)))

    pub going_next : (left : ℕ) → 0 < left → left ≤ 8 → bit ≡ byte / 2 ^ (left - 1) % 2 → Going held out left
        → Going (held % 2147483648 * 2 + on_air way bit c) (out * 2 + c) (left - 1)
    going_next zero some few bit_is g = absurd (omega arith)
    going_next (suc left) some few bit_is g =
        let bit-is' : bit ≡ byte / 2 ^ left % 2 = rw (sub-one (suc left)) at bit_is in
        let wide : 8 - left ≡ suc (8 - suc left) = omega arith in
        rw (sub-one (suc left))
        (record {
          sent = odd (on_air way bit c) ∷ g.sent;
          holds = held_next far held (on_air way bit c) g.sent taps.most (air-lt way bit c bit-lt c_lt) g.holds;
          comes =
              ap (λ (l : List Bool). l ++ through way near far (odd (on_air way bit c) ∷ g.sent) (bits left byte))
              (ap (λ (w : ℕ). bits w (out * 2 + c)) wide ∙ bits-behind (8 - suc left) out c c_lt)
              ∙ append_snoc (bits (8 - suc left) out) (odd c) (through way near far (odd (on_air way bit c) ∷ g.sent) (bits left byte))
              ∙ ap (λ (l : List Bool). bits (8 - suc left) out ++ l)
              (sym (ap (through way near far g.sent) (next_bit left bit-is') ∙ step_through g.sent (bits left byte) g.holds))
              ∙ g.comes;
          ends =
              sym (ap (sent_after way near far g.sent) (next_bit left bit-is') ∙ step-sent_after g.sent (bits left byte) g.holds)
              ∙ g.ends;
        })

  pub going_end : (held out : ℕ) → Going held out 0
      → (bits 8 out ≡ through way near far first (bits 8 byte)) × Held far held (sent_after way near far first (bits 8 byte))
  unfolding through sent_after bits
  going_end held out g =
      (sym (append-nil (bits 8 out)) ∙ g.comes, λ k l. g.holds k l ∙ ap (λ (h : List Bool). get_or h k false) g.ends)
