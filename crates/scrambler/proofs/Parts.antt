-- Laws of the scrambler over lent parts, each for both directions and every register: what callers of `scramble` and
-- `unscramble` go by.
-- Assumes nothing.
use mathlib.Core.Path.{◌≡◌, refl, sym, ap, ap₂, ◌∙◌, subst}
use mathlib.Core.Bool.{Bool, true, false, ◌&&◌, cond}
use mathlib.Core.List.{List, [], ◌++◌, reverse, reverse-reverse}
use Prim.{⊥}
use Prim.Native.Nat.{ℕ, ◌*◌, ◌≤◌, ◌<◌}
use native.Mathlib.Nat.{le_refl}
use native.Mathlib.Omega.{arith}
use lib.Dec.{T, leb, ltb, ltb→lt}
use mir.Facts.{and_yes, leb_yes}
use lib.ListN.{length, take, length-append, length-take, length-reverse}
use lib.Seq.{get_or-take, ext_get_or}
use Rattle.bits.specs.Bits.{◌⊞◌, number, bits_of, packed, Bytes}
use Rattle.bits.proofs.Numbers.{bits-of}
use Rattle.bits.proofs.Bytes.{length-bits_of, length-packed, bits_of-append, bits_of-packed, packed-append, packed-bytes, same_bytes}
use Rattle.scrambler.specs.declared.Direction.{Direction}
use Rattle.scrambler.specs.Scrambler.{Register, through, sent_after, remembered, allowed}
use Rattle.scrambler.specs.Scrambler.{part_through, register_through, part_answer, register_answer}
use Rattle.scrambler.proofs.Held.{length-remembered}
use Rattle.scrambler.proofs.Laws.{Alike, opposite, inverse, length-through, length-sent_after, through-append, sent_after-append}
use Rattle.scrambler.proofs.Laws.{through-take, through-difference, through-alike, sent_after-alike}

module _ (way : Direction) (r : Register) where
  abbrev start : List Bool
  start = remembered r.far r.sent

  abbrev sends : List ℕ → List Bool
  sends xs = through way r.near r.far start (bits_of xs)

  pub length_part : (xs : List ℕ) → length (part_through way r xs) ≡ length xs
  length_part xs = length-packed (length xs) (sends xs)

  length-sends : (xs : List ℕ) → length (sends xs) ≡ 8 * length xs
  length-sends xs = length-through way r.near r.far start (bits_of xs) ∙ length-bits_of xs

  pub bits-part : (xs : List ℕ) → bits_of (part_through way r xs) ≡ sends xs
  bits-part xs = bits_of-packed (length xs) (sends xs) (length-sends xs)

  pub bytes-part : (xs : List ℕ) → Bytes (part_through way r xs)
  bytes-part xs = packed-bytes (length xs) (sends xs)

  -- a changed bit changes none ahead of it
  pub part-ahead : (k : ℕ) (xs ys : List ℕ) → take k (bits_of xs) ≡ take k (bits_of ys)
      → take k (bits_of (part_through way r xs)) ≡ take k (bits_of (part_through way r ys))
  part-ahead k xs ys e =
      ap (take k) (bits-part xs)
      ∙ through-take way r.near r.far k start (bits_of xs)
      ∙ ap (through way r.near r.far start) e
      ∙ sym (ap (take k) (bits-part ys) ∙ through-take way r.near r.far k start (bits_of ys))

  -- the difference of two parts depends on the difference of what went in alone
  pub part-difference : (xs ys : List ℕ) → length xs ≡ length ys
      → bits_of (part_through way r xs) ⊞ bits_of (part_through way r ys) ≡ through way r.near r.far [] (bits_of xs ⊞ bits_of ys)
  part-difference xs ys e =
      ap₂ ◌⊞◌ (bits-part xs) (bits-part ys)
      ∙ through-difference way r.near r.far start (bits_of xs) (bits_of ys) (length-bits_of xs ∙ ap (λ (n : ℕ). 8 * n) e ∙ sym (length-bits_of ys))

  -- the sent bits behind a part, of which the register keeps the latest
  abbrev sent : List ℕ → List Bool
  sent xs = sent_after way r.near r.far start (bits_of xs)

  long : (xs : List ℕ) → r.far ≤ length (sent xs)
  long xs = rw (length-sent_after way r.near r.far start (bits_of xs), length-remembered r.far r.sent) (omega arith)

-- ---- in two parts

take-alike : (n : ℕ) (g h : List Bool) → n ≤ length g → n ≤ length h → Alike n g h → take n g ≡ take n h
take-alike n g h lg lh a =
    ext_get_or false (take n g) (take n h) (cut g lg ∙ sym (cut h lh))
    (λ k l. let p : k < n = rw (cut g lg) at l in get_or-take n g k false p ∙ a k p ∙ sym (get_or-take n h k false p))
  where
    cut : (l : List Bool) → n ≤ length l → length (take n l) ≡ n
    cut l h = rw length-take (omega arith)

module _ (way : Direction) (r : Register) (some : 0 < r.far) (ordered : r.near ≤ r.far) where
  abbrev next : List ℕ → Register
  next xs = register_through way r xs

  -- the number that is handed on stands for the latest sent bits
  handed : (xs : List ℕ) → start way (next xs) ≡ take r.far (sent way r xs)
  handed xs =
      let latest = take r.far (sent way r xs) in
      let full : length (reverse latest) ≡ r.far = length-reverse latest ∙ rw length-take (omega (arith, long way r xs)) in
      ap reverse (bits-of r.far (reverse latest) full) ∙ reverse-reverse latest

  handed-alike : (xs : List ℕ) → Alike r.far (sent way r xs) (start way (next xs))
  handed-alike xs k l = rw (handed xs) (sym (get_or-take r.far (sent way r xs) k false l))

  -- scrambling in two parts, with the register handed on, is scrambling at once
  pub part-append : (xs ys : List ℕ) → part_through way r (xs ++ ys) ≡ part_through way r xs ++ part_through way (next xs) ys
  part-append xs ys =
      ap₂ packed (length-append xs ys)
      (ap (through way r.near r.far (start way r)) (bits_of-append xs ys)
      ∙ through-append way r.near r.far (start way r) (bits_of xs) (bits_of ys)
      ∙ ap (λ (l : List Bool). sends way r xs ++ l)
      (through-alike way r.near r.far r.far some ordered (le_refl r.far) (sent way r xs) (start way (next xs))
      (bits_of ys) (handed-alike xs)))
      ∙ packed-append (length xs) (length ys) (sends way r xs) (sends way (next xs) ys) (length-sends way r xs)

  pub register-append : (xs ys : List ℕ) → register_through way r (xs ++ ys) ≡ register_through way (next xs) ys
  register-append xs ys = λ i. record { near = r.near; far = r.far; sent = number (reverse (same i)) }
    where
      onward : List Bool
      onward = sent_after way r.near r.far (sent way r xs) (bits_of ys)

      joined : sent way r (xs ++ ys) ≡ onward
      joined =
          ap (sent_after way r.near r.far (start way r)) (bits_of-append xs ys)
          ∙ sent_after-append way r.near r.far (start way r) (bits_of xs) (bits_of ys)

      same : take r.far (sent way r (xs ++ ys)) ≡ take r.far (sent way (next xs) ys)
      same =
          ap (take r.far) joined
          ∙ take-alike r.far onward (sent way (next xs) ys) (rw joined at (long way r (xs ++ ys))) (long way (next xs) ys)
          (sent_after-alike way r.near r.far r.far some ordered (le_refl r.far) (sent way r xs) (start way (next xs))
          (bits_of ys) (handed-alike xs))

-- ---- what the two functions leave, for every register

allowed-distances : (r : Register) → T (allowed r) → (1 ≤ r.near) × ((r.near < r.far) × (r.far ≤ 32))
unfolding allowed
allowed-distances r t =
    let p = and_yes (leb 1 r.near && ltb r.near r.far) (leb r.far 32) t in
    let q = and_yes (leb 1 r.near) (ltb r.near r.far) p.0 in
    (leb_yes q.0, (ltb→lt r.near r.far q.1, leb_yes p.1))

-- distances that are not allowed leave the part and the register as they are
pub not-allowed : (way : Direction) (r : Register) (part : List ℕ) → (1 ≤ r.near → r.near < r.far → r.far ≤ 32 → ⊥)
    → (part_answer way r part ≡ part) × (register_answer way r part ≡ r)
not-allowed way r part none = by (allowed r) (allowed-distances r)
  where
    by : (ok : Bool) → (T ok → (1 ≤ r.near) × ((r.near < r.far) × (r.far ≤ 32)))
        → (cond ok (part_through way r part) part ≡ part) × (cond ok (register_through way r part) r ≡ r)
    by true distances = let d = distances tt in absurd (none d.0 d.1.0 d.1.1)
    by false distances = (refl, refl)

pub length-answer : (way : Direction) (r : Register) (xs : List ℕ) → length (part_answer way r xs) ≡ length xs
length-answer way r xs = by (allowed r)
  where
    by : (ok : Bool) → length (cond ok (part_through way r xs) xs) ≡ length xs
    by true = length_part way r xs
    by false = refl

-- the two laws about a change, too: none ahead of it, and a difference that depends on what went in alone
pub answer-ahead : (way : Direction) (r : Register) (k : ℕ) (xs ys : List ℕ) → take k (bits_of xs) ≡ take k (bits_of ys)
    → take k (bits_of (part_answer way r xs)) ≡ take k (bits_of (part_answer way r ys))
answer-ahead way r k xs ys e = by (allowed r)
  where
    by : (ok : Bool) → take k (bits_of (cond ok (part_through way r xs) xs)) ≡ take k (bits_of (cond ok (part_through way r ys) ys))
    by true = part-ahead way r k xs ys e
    by false = e

pub answer-difference : (way : Direction) (r : Register) (xs ys : List ℕ) → length xs ≡ length ys
    → bits_of (part_answer way r xs) ⊞ bits_of (part_answer way r ys)
    ≡ cond (allowed r) (through way r.near r.far [] (bits_of xs ⊞ bits_of ys)) (bits_of xs ⊞ bits_of ys)
answer-difference way r xs ys e = by (allowed r)
  where
    by : (ok : Bool)
        → bits_of (cond ok (part_through way r xs) xs) ⊞ bits_of (cond ok (part_through way r ys) ys)
        ≡ cond ok (through way r.near r.far [] (bits_of xs ⊞ bits_of ys)) (bits_of xs ⊞ bits_of ys)
    by true = part-difference way r xs ys e
    by false = refl

-- the bits that are left depend on the bits alone
pub answer-bits : (way : Direction) (r : Register) (xs ys : List ℕ) → bits_of xs ≡ bits_of ys
    → bits_of (part_answer way r xs) ≡ bits_of (part_answer way r ys)
answer-bits way r xs ys e = by (allowed r)
  where
    by : (ok : Bool) → bits_of (cond ok (part_through way r xs) xs) ≡ bits_of (cond ok (part_through way r ys) ys)
    by true = bits-part way r xs ∙ ap (through way r.near r.far (start way r)) e ∙ sym (bits-part way r ys)
    by false = e

pub bytes-answer : (way : Direction) (r : Register) (xs : List ℕ) → Bytes xs → Bytes (part_answer way r xs)
bytes-answer way r xs b = by (allowed r)
  where
    by : (ok : Bool) → Bytes (cond ok (part_through way r xs) xs)
    by true = bytes-part way r xs
    by false = b

-- the other direction gives the bits back
pub bits-inverse : (way : Direction) (r : Register) (xs : List ℕ)
    → bits_of (part_answer (opposite way) r (part_answer way r xs)) ≡ bits_of xs
bits-inverse way r xs = by (allowed r)
  where
    by : (ok : Bool)
        → bits_of (cond ok (part_through (opposite way) r (cond ok (part_through way r xs) xs)) (cond ok (part_through way r xs) xs)) ≡ bits_of xs
    by true =
        bits-part (opposite way) r (part_through way r xs)
        ∙ ap (through (opposite way) r.near r.far (start way r)) (bits-part way r xs)
        ∙ inverse way r.near r.far (start way r) (bits_of xs)
    by false = refl

-- and so the bytes
pub answer-inverse : (way : Direction) (r : Register) (xs : List ℕ) → Bytes xs → part_answer (opposite way) r (part_answer way r xs) ≡ xs
answer-inverse way r xs b =
    same_bytes (part_answer (opposite way) r (part_answer way r xs)) xs
    (bytes-answer (opposite way) r (part_answer way r xs) (bytes-answer way r xs b)) b (bits-inverse way r xs)

pub answer-append : (way : Direction) (r : Register) (xs ys : List ℕ)
    → part_answer way r (xs ++ ys) ≡ part_answer way r xs ++ part_answer way (register_answer way r xs) ys
unfolding allowed
answer-append way r xs ys = by (allowed r) refl
  where
    by : (ok : Bool) → allowed r ≡ ok
        → cond ok (part_through way r (xs ++ ys)) (xs ++ ys)
        ≡ cond ok (part_through way r xs) xs ++ part_answer way (cond ok (register_through way r xs) r) ys
    by true e =
        let ordered = (allowed-distances r (subst T (sym e) tt)).1.0 in
        rw e (part-append way r (omega (arith, ordered)) (omega (arith, ordered)) xs ys)
    by false e = rw e

pub register-answer-append : (way : Direction) (r : Register) (xs ys : List ℕ)
    → register_answer way r (xs ++ ys) ≡ register_answer way (register_answer way r xs) ys
unfolding allowed
register-answer-append way r xs ys = by (allowed r) refl
  where
    by : (ok : Bool) → allowed r ≡ ok
        → cond ok (register_through way r (xs ++ ys)) r ≡ register_answer way (cond ok (register_through way r xs) r) ys
    by true e =
        let ordered = (allowed-distances r (subst T (sym e) tt)).1.0 in
        rw e (register-append way r (omega (arith, ordered)) (omega (arith, ordered)) xs ys)
    by false e = rw e
