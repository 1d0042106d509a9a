-- The scrambler by place, as 01 states it: "Sent bit = data bit, xor the sent bit 12 places earlier, xor the sent bit 17 places
-- earlier. Before the body there stand seventeen imagined sent bits, .. the highest of them the earliest". Here it holds of both
-- directions, every allowed pair of distances and every start.
-- Assumes nothing.
use mathlib.Core.Path.{◌≡◌, refl, sym, ap, ap₂, ◌∙◌}
use mathlib.Core.Bool.{Bool, true, false}
use mathlib.Core.List.{List, [], ◌∷◌, ◌++◌, reverse, reverse-cons, reverse-reverse, reverse-append, append-nil}
use Prim.Native.Nat.{ℕ, zero, suc, ◌+◌, ◌-◌, ◌*◌, ◌≤◌, ◌<◌}
use native.Mathlib.Nat.{add-zero}
use native.Mathlib.Omega.{arith}
use borrow.Author.Tests.{le-leb, lt-ltb}
use lib.ListN.{length, get_or, take, drop, replicate, length-reverse, length-drop, take-append-drop, get_or-append}
use lib.Seq.{get_or_at, get_or-append-add, append_snoc, drop_at}
use Rattle.bits.specs.Bits.{◌⊕◌, bits, number, bits_of}
use Rattle.bits.proofs.Bytes.{length-bits_of}
use Rattle.scrambler.specs.declared.Direction.{Direction}
use Rattle.scrambler.specs.declared.Direction.TheVariants.{Scramble, Unscramble}
use Rattle.scrambler.specs.Scrambler.{Register, crossed, on_air, through, sent_after, remembered, restarted, allowed}
use Rattle.scrambler.specs.Scrambler.{part_answer, register_answer}
use Rattle.scrambler.proofs.Held.{length-remembered}
use Rattle.scrambler.proofs.Laws.{length-sent_after}
use Rattle.scrambler.proofs.Parts.{bits-part}
use Rattle.scrambler.proofs.Worked.{start_is}

-- ---- over bits; `sent` has the latest sent bit first

-- in their order, the sent bits are read from the end
get_d_reverse : (sent : List Bool) (k : ℕ) → k < length sent → get_or (reverse sent) (length sent - suc k) false ≡ get_or sent k false
get_d_reverse [] k h = absurd (omega arith)
get_d_reverse (b ∷ sent) zero h =
    ap₂ (λ (l : List Bool) (n : ℕ). get_or l n false) (reverse-cons b sent) (omega arith)
    ∙ get_or_at (reverse sent) b [] false (length sent) (length-reverse sent)
get_d_reverse (b ∷ sent) (suc k) h =
    let inside : k < length sent = omega (arith, h) in
    let ahead : length sent - suc k < length (reverse sent) = rw (length-reverse sent) (omega (arith, inside)) in
    ap₂ (λ (l : List Bool) (n : ℕ). get_or l n false) (reverse-cons b sent) (omega arith)
    ∙ get_or-append (reverse sent) (b ∷ []) false (length sent - suc k) ahead
    ∙ get_d_reverse sent k inside

-- so many places back from where the bits before end
back : (sent rest : List Bool) (places : ℕ) → 1 ≤ places → places ≤ length sent
    → get_or sent (places - 1) false ≡ get_or (reverse sent ++ rest) (length sent - places) false
back sent rest (suc k) some inside =
    let ahead : length sent - suc k < length (reverse sent) = rw (length-reverse sent) (omega (arith, inside)) in
    ap (λ (n : ℕ). get_or sent n false) (omega arith)
    ∙ sym (get_or-append (reverse sent) rest false (length sent - suc k) ahead ∙ get_d_reverse sent k (omega (arith, inside)))
back sent rest zero some inside = absurd (omega arith)

air-cons : (way : Direction) (x out : Bool) (xs outs : List Bool) → on_air way (x ∷ xs) (out ∷ outs) ≡ on_air way x out ∷ on_air way xs outs
air-cons Scramble x out xs outs = refl
air-cons Unscramble x out xs outs = refl

air-none : (way : Direction) → on_air {A = List Bool} way [] [] ≡ []
air-none Scramble = refl
air-none Unscramble = refl

module _ (way : Direction) (near far : ℕ) where
  -- the sent bits in their order, those before and those that go on air now
  abbrev stream : List Bool → List Bool → List Bool
  stream sent xs = reverse sent ++ on_air way xs (through way near far sent xs)

  stream-next : (sent : List Bool) (x : Bool) (xs : List Bool)
      → stream (on_air way x (crossed near far sent x) ∷ sent) xs ≡ stream sent (x ∷ xs)
  unfolding through
  stream-next sent x xs =
      let out = crossed near far sent x in
      let on = on_air way x out in
      let outs = through way near far (on ∷ sent) xs in
      ap (λ (l : List Bool). l ++ on_air way xs outs) (reverse-cons on sent)
      ∙ append_snoc (reverse sent) on (on_air way xs outs)
      ∙ ap (λ (l : List Bool). reverse sent ++ l) (sym (air-cons way x out xs outs))

  -- what is remembered at the end
  stream-after : (sent xs : List Bool) → reverse (sent_after way near far sent xs) ≡ stream sent xs
  unfolding through sent_after
  stream-after sent [] = sym (ap (λ (l : List Bool). reverse sent ++ l) (air-none way) ∙ append-nil (reverse sent))
  stream-after sent (x ∷ xs) =
      stream-after (on_air way x (crossed near far sent x) ∷ sent) xs ∙ stream-next sent x xs

  -- the bit that comes out is the one that goes in, xor the sent bits near and far places earlier
  through-place : 1 ≤ near → 1 ≤ far → (sent xs : List Bool) → near ≤ length sent → far ≤ length sent → (i : ℕ) → i < length xs
      → get_or (through way near far sent xs) i false
      ≡ get_or xs i false
      ⊕ get_or (stream sent xs) (length sent + i - near) false
      ⊕ get_or (stream sent xs) (length sent + i - far) false
  unfolding through
  through-place some_near some-far sent [] long-near long-far i h = absurd (omega arith)
  through-place some_near some-far sent (x ∷ xs) long-near long-far zero h =
      let rest = on_air way (x ∷ xs) (through way near far sent (x ∷ xs)) in
      rw (add-zero (length sent))
      (ap₂ (λ (n f : Bool). x ⊕ n ⊕ f) (back sent rest near some_near long-near) (back sent rest far some-far long-far))
  through-place some_near some-far sent (x ∷ xs) long-near long-far (suc i) h =
      let sent' = on_air way x (crossed near far sent x) ∷ sent in
      let place : length sent' + i ≡ length sent + suc i = omega arith in
      through-place some_near some-far sent' xs (omega (arith, long-near)) (omega (arith, long-far)) i (omega (arith, h))
      ∙ ap₂ (λ (l : List Bool) (n : ℕ). get_or xs i false ⊕ get_or l (n - near) false ⊕ get_or l (n - far) false) (stream-next sent x xs) place

-- ---- over lent parts

-- the bits on air by place: the imagined ones, the highest the earliest, and then the part's. The part's bit i is at place far + i
abbrev pub air : Direction → Register → List ℕ → List Bool
air way r part = bits r.far r.sent ++ on_air way (bits_of part) (bits_of (part_answer way r part))

module _ (way : Direction) (r : Register) (part : List ℕ) (least : 1 ≤ r.near) (ordered : r.near < r.far) (most : r.far ≤ 32) where
  goes_through : allowed r ≡ true
  unfolding allowed
  goes_through = rw (le-leb 1 r.near least, lt-ltb r.near r.far ordered, le-leb r.far 32 most)

  out-is : bits_of (part_answer way r part) ≡ through way r.near r.far (remembered r.far r.sent) (bits_of part)
  out-is = rw goes_through (bits-part way r part)

  stream-is : stream way r.near r.far (remembered r.far r.sent) (bits_of part) ≡ air way r part
  stream-is = ap₂ (λ (l m : List Bool). l ++ on_air way (bits_of part) m) (reverse-reverse (bits r.far r.sent)) (sym out-is)

  -- each bit that comes out is the bit that goes in, xor the sent bit near places earlier, xor the sent bit far places earlier
  pub by_place : (i : ℕ) → i < 8 * length part
      → get_or (bits_of (part_answer way r part)) i false
      ≡ get_or (bits_of part) i false
      ⊕ get_or (air way r part) (r.far + i - r.near) false
      ⊕ get_or (air way r part) (r.far + i - r.far) false
  by_place i h =
      let sent = remembered r.far r.sent in
      let long = length-remembered r.far r.sent in
      ap (λ (l : List Bool). get_or l i false) out-is
      ∙ through-place way r.near r.far least (omega arith) sent (bits_of part) (rw long (omega arith)) (rw long (omega arith)) i
      (rw (length-bits_of part) h)
      ∙ ap₂ (λ (l : List Bool) (n : ℕ). get_or (bits_of part) i false ⊕ get_or l (n + i - r.near) false ⊕ get_or l (n + i - r.far) false)
      stream-is
      long

  -- the register that comes back is the far latest of the bits on air, as a number
  pub handed-on : (register_answer way r part).sent ≡ number (drop (8 * length part) (air way r part))
  handed-on =
      let sent = sent_after way r.near r.far (remembered r.far r.sent) (bits_of part) in
      let latest = reverse (take r.far sent) in
      let earliest = reverse (drop r.far sent) in
      let all : length sent ≡ 8 * length part + r.far =
      rw (length-sent_after way r.near r.far (remembered r.far r.sent) (bits_of part), length-remembered r.far r.sent, length-bits_of part) in
      let parted : earliest ++ latest ≡ air way r part =
      sym (reverse-append (take r.far sent) (drop r.far sent))
      ∙ ap reverse (take-append-drop r.far sent)
      ∙ stream-after way r.near r.far (remembered r.far r.sent) (bits_of part)
      ∙ stream-is in
      let ahead : length earliest ≡ 8 * length part = length-reverse (drop r.far sent) ∙ rw length-drop (omega (arith, all)) in
      let handed : (register_answer way r part).sent ≡ number latest = rw goes_through in
      handed ∙ ap number (sym (drop_at earliest latest (8 * length part) ahead) ∙ ap (drop (8 * length part)) parted)

-- ---- in 01's own numbers

-- the bits on air: "a 1, then sixteen 0s", and then the scrambled body
abbrev pub sent_bits : List ℕ → List Bool
sent_bits body = (true ∷ replicate 16 false) ++ bits_of (part_answer Scramble restarted body)

-- "Sent bit = data bit, xor the sent bit 12 places earlier, xor the sent bit 17 places earlier"
pub scrambled-by-place : (body : List ℕ) (i : ℕ) → i < 8 * length body
    → get_or (sent_bits body) (17 + i) false
    ≡ get_or (bits_of body) i false ⊕ get_or (sent_bits body) (17 + i - 12) false ⊕ get_or (sent_bits body) (17 + i - 17) false
scrambled-by-place body i h =
    let out = bits_of (part_answer Scramble restarted body) in
    get_or-append-add (true ∷ replicate 16 false) out i false
    ∙ by_place Scramble restarted body (omega arith) (omega arith) (omega arith) i h
    ∙ ap (λ (l : List Bool). get_or (bits_of body) i false ⊕ get_or (l ++ out) (17 + i - 12) false ⊕ get_or (l ++ out) (17 + i - 17) false) start_is
