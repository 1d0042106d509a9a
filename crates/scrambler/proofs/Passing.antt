-- A part on its way through the register, byte by byte, in place.
-- Assumes nothing.
use mathlib.Core.Path.{◌≡◌, refl, sym, ap, ap₂, ◌∙◌}
use mathlib.Core.Bool.{Bool}
use mathlib.Core.List.{List, [], ◌∷◌, ◌++◌, reverse, append-nil}
use Prim.Native.Nat.{ℕ, suc, ◌+◌, ◌%◌, ◌^◌, ◌≤◌, ◌<◌}
use native.Mathlib.Nat.{mod-eq_of_lt}
use native.Mathlib.Numerals.{add-one}
use native.Mathlib.Omega.{arith}
use lib.ListN.{length, get_or, take, drop, set, drop_of_length-le}
use lib.Seq.{take_at, drop_at, take_all, take-suc-set, drop-set-lt, drop-cons, append_snoc}
use Rattle.bits.specs.Bits.{bits, number, bits_of, packed}
use Rattle.bits.proofs.Numbers.{length-bits, number-bits}
use Rattle.scrambler.specs.declared.Direction.{Direction}
use Rattle.scrambler.specs.Scrambler.{through, sent_after}
use Rattle.scrambler.specs.Walk.{Held, PassesByte}
use Rattle.scrambler.proofs.Held.{held-end}
use Rattle.scrambler.proofs.Laws.{length-through, length-sent_after, through-append, sent_after-append}

module _ (way : Direction) (near far : ℕ) where
  -- the bytes that come out
  abbrev pub bytes_through : List Bool → List ℕ → List ℕ
  bytes_through sent xs = packed (length xs) (through way near far sent (bits_of xs))

  one_byte : (sent : List Bool) (x : ℕ) → length (through way near far sent (bits 8 x)) ≡ 8
  one_byte sent x = length-through way near far sent (bits 8 x) ∙ length-bits 8 x

  -- the first byte, and then the others
  bytes-cons : (sent : List Bool) (x : ℕ) (xs : List ℕ)
      → bytes_through sent (x ∷ xs) ≡ number (through way near far sent (bits 8 x)) ∷ bytes_through (sent_after way near far sent (bits 8 x)) xs
  unfolding bits_of packed
  bytes-cons sent x xs =
      let out = through way near far sent (bits 8 x) in
      let rest = through way near far (sent_after way near far sent (bits 8 x)) (bits_of xs) in
      ap (packed (suc (length xs))) (through-append way near far sent (bits 8 x) (bits_of xs))
      ∙ ap₂ (λ (b bs : List Bool). number b ∷ packed (length xs) bs)
      (take_at out rest 8 (one_byte sent x))
      (drop_at out rest 8 (one_byte sent x))

  sent-cons : (sent : List Bool) (x : ℕ) (xs : List ℕ)
      → sent_after way near far sent (bits_of (x ∷ xs)) ≡ sent_after way near far (sent_after way near far sent (bits 8 x)) (bits_of xs)
  unfolding bits_of
  sent-cons sent x xs = sent_after-append way near far sent (bits 8 x) (bits_of xs)

  module _ (first : List Bool) (whole : List ℕ) where
    pub record Passing (part : List ℕ) (held i : ℕ) : Type 0 where
      pub sent : List Bool
      pub holds : Held far held sent
      pub long : far ≤ length sent
      pub comes : take i part ++ bytes_through sent (drop i part) ≡ bytes_through first whole
      pub ends : sent_after way near far sent (bits_of (drop i part)) ≡ sent_after way near far first (bits_of whole)

    pub passing-start : (held : ℕ) → Held far held first → far ≤ length first → Passing whole held 0
    passing-start held h l = record { sent = first; holds = h; long = l; comes = refl; ends = refl }

    pub passing-next : (part : List ℕ) (held i held' out : ℕ) → i < length part
        → PassesByte way near far held (get_or part i 0) held' out → Passing part held i → Passing (set part i out) held' (i + 1)
    passing-next part held i held' out inside passes p =
        let x = get_or part i 0 in
        let sent' = sent_after way near far p.sent (bits 8 x) in
        let rest = drop (suc i) part in
        let out-is : number (through way near far p.sent (bits 8 x)) ≡ out =
        ap number (sym (passes.comes p.sent p.holds)) ∙ number-bits 8 out ∙ mod-eq_of_lt passes.small in
        rw (add-one i)
        (record {
          sent = sent';
          holds = passes.holds p.sent p.holds;
          long = rw length-sent_after (omega (arith, p.long));
          comes =
              ap₂ (λ (l m : List ℕ). l ++ bytes_through sent' m) (take-suc-set part i out inside) (drop-set-lt (suc i) part i out (omega arith))
              ∙ append_snoc (take i part) out (bytes_through sent' rest)
              ∙ ap (λ (l : List ℕ). take i part ++ l)
              (sym (ap (bytes_through p.sent) (drop-cons part i 0 inside)
              ∙ bytes-cons p.sent x rest
              ∙ ap (λ (b : ℕ). b ∷ bytes_through sent' rest) out-is))
              ∙ p.comes;
          ends =
              ap (λ (l : List ℕ). sent_after way near far sent' (bits_of l)) (drop-set-lt (suc i) part i out (omega arith))
              ∙ sym (ap (λ (l : List ℕ). sent_after way near far p.sent (bits_of l)) (drop-cons part i 0 inside) ∙ sent-cons p.sent x rest)
              ∙ p.ends;
        })

    -- the register comes back as its lowest far bits
    pub passing-end : (part : List ℕ) (held i : ℕ) → length part ≤ i → Passing part held i
        → (held % 2 ^ far ≡ number (reverse (take far (sent_after way near far first (bits_of whole))))) × (part ≡ bytes_through first whole)
    unfolding bits_of packed through sent_after
    passing-end part held i done p =
        let none = drop_of_length-le part done in
        let last : p.sent ≡ sent_after way near far first (bits_of whole) = rw none at p.ends in (
          sym (ap (λ (h : List Bool). number (reverse (take far h))) (sym last) ∙ held-end far held p.sent p.long p.holds),
          sym (append-nil part)
              ∙ ap (λ (l : List ℕ). l ++ []) (sym (take_all i part done))
              ∙ rw none at p.comes,
        )
