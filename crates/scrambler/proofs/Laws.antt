-- Laws of the scrambler over bits, each for both directions, every pair of distances and every history of sent bits.
-- Assumes nothing.
use mathlib.Core.Path.{◌≡◌, refl, sym, ap, ap₂, ◌∙◌}
use mathlib.Core.Bool.{Bool, false}
use mathlib.Core.List.{List, [], ◌∷◌, ◌++◌}
use Prim.Native.Nat.{ℕ, zero, suc, ◌+◌, ◌-◌, ◌≤◌, ◌<◌}
use native.Mathlib.Nat.{suc_inj, zero-add, suc-add, add-suc}
use native.Mathlib.Omega.{arith}
use lib.ListN.{length, get_or, take}
use Rattle.bits.specs.Bits.{◌⊕◌, ◌⊞◌}
use Rattle.bits.proofs.Xor.{⊕-self, ⊕-assoc, ⊕-cancel, ⊕-swap, get_d-⊞}
use Rattle.scrambler.specs.declared.Direction.{Direction}
use Rattle.scrambler.specs.declared.Direction.TheVariants.{Scramble, Unscramble}
use Rattle.scrambler.specs.Scrambler.{earlier, crossed, on_air, through, sent_after}

abbrev pub opposite : Direction → Direction
opposite Scramble = Unscramble
opposite Unscramble = Scramble

module _ (way : Direction) (near far : ℕ) where
  -- as many bits come out as go in, and as many are remembered
  pub length-through : (h xs : List Bool) → length (through way near far h xs) ≡ length xs
  unfolding through
  length-through h [] = refl
  length-through h (x ∷ xs) = ap suc (length-through (on_air way x (crossed near far h x) ∷ h) xs)

  pub length-sent_after : (h xs : List Bool) → length (sent_after way near far h xs) ≡ length xs + length h
  unfolding sent_after
  length-sent_after h [] = sym (zero-add (length h))
  length-sent_after h (x ∷ xs) =
      length-sent_after (on_air way x (crossed near far h x) ∷ h) xs ∙ add-suc (length xs) (length h) ∙ sym (suc-add (length xs) (length h))

  -- in two parts, the sent bits handed on, is at once
  pub through-append : (h xs ys : List Bool)
      → through way near far h (xs ++ ys) ≡ through way near far h xs ++ through way near far (sent_after way near far h xs) ys
  unfolding through sent_after
  through-append h [] ys = refl
  through-append h (x ∷ xs) ys =
      ap (λ (l : List Bool). crossed near far h x ∷ l) (through-append (on_air way x (crossed near far h x) ∷ h) xs ys)

  pub sent_after-append : (h xs ys : List Bool)
      → sent_after way near far h (xs ++ ys) ≡ sent_after way near far (sent_after way near far h xs) ys
  unfolding sent_after
  sent_after-append h [] ys = refl
  sent_after-append h (x ∷ xs) ys = sent_after-append (on_air way x (crossed near far h x) ∷ h) xs ys

  -- no bit changes one that comes out ahead of it
  pub through-take : (k : ℕ) (h xs : List Bool) → take k (through way near far h xs) ≡ through way near far h (take k xs)
  unfolding through
  through-take zero h xs = refl
  through-take (suc k) h [] = refl
  through-take (suc k) h (x ∷ xs) =
      ap (λ (l : List Bool). crossed near far h x ∷ l) (through-take k (on_air way x (crossed near far h x) ∷ h) xs)

-- ---- the inverse

crossed-twice : (near far : ℕ) (h : List Bool) (b : Bool) → crossed near far h (crossed near far h b) ≡ b
crossed-twice near far h b =
    let n = earlier near h in
    let f = earlier far h in
    ⊕-assoc (b ⊕ n ⊕ f) n f ∙ ap (λ (x : Bool). x ⊕ (n ⊕ f)) (⊕-assoc b n f) ∙ ⊕-cancel b (n ⊕ f)

other-air : (way : Direction) (a b : Bool) → on_air (opposite way) a b ≡ on_air way b a
other-air Scramble a b = refl
other-air Unscramble a b = refl

pub inverse : (way : Direction) (near far : ℕ) (h xs : List Bool)
    → through (opposite way) near far h (through way near far h xs) ≡ xs
unfolding through
inverse way near far h [] = refl
inverse way near far h (x ∷ xs) =
    let out = crossed near far h x in
    let air : on_air (opposite way) out (crossed near far h out) ≡ on_air way x out =
    ap (on_air (opposite way) out) (crossed-twice near far h x) ∙ other-air way out x in
    ap₂ ◌∷◌
    (crossed-twice near far h x)
    (ap (λ (a : Bool). through (opposite way) near far (a ∷ h) (through way near far (on_air way x out ∷ h) xs)) air
    ∙ inverse way near far (on_air way x out ∷ h) xs)

-- ---- differences

crossed-⊞ : (near far : ℕ) (g h : List Bool) (a b : Bool) → crossed near far g a ⊕ crossed near far h b ≡ crossed near far (g ⊞ h) (a ⊕ b)
crossed-⊞ near far g h a b =
    ⊕-swap (a ⊕ earlier near g) (earlier far g) (b ⊕ earlier near h) (earlier far h)
    ∙ ap₂ ◌⊕◌
    (⊕-swap a (earlier near g) b (earlier near h) ∙ ap (λ (x : Bool). (a ⊕ b) ⊕ x) (sym (get_d-⊞ g h (near - 1))))
    (sym (get_d-⊞ g h (far - 1)))

air-⊞ : (way : Direction) (a b c d : Bool) → on_air way a b ⊕ on_air way c d ≡ on_air way (a ⊕ c) (b ⊕ d)
air-⊞ Scramble a b c d = refl
air-⊞ Unscramble a b c d = refl

-- the difference of what comes out depends on the differences of the sent bits and of what goes in alone
pub through-⊞ : (way : Direction) (near far : ℕ) (g h xs ys : List Bool) → length xs ≡ length ys
    → through way near far g xs ⊞ through way near far h ys ≡ through way near far (g ⊞ h) (xs ⊞ ys)
unfolding through ◌⊞◌
through-⊞ way near far g h [] [] e = refl
through-⊞ way near far g h [] (y ∷ ys) e = absurd (omega arith)
through-⊞ way near far g h (x ∷ xs) [] e = absurd (omega arith)
through-⊞ way near far g h (x ∷ xs) (y ∷ ys) e =
    let cx = crossed near far g x in
    let cy = crossed near far h y in
    ap₂ ◌∷◌
    (crossed-⊞ near far g h x y)
    (through-⊞ way near far (on_air way x cx ∷ g) (on_air way y cy ∷ h) xs ys (suc_inj e)
    ∙ ap (λ (a : Bool). through way near far (a ∷ (g ⊞ h)) (xs ⊞ ys)) (air-⊞ way x cx y cy ∙ ap (on_air way (x ⊕ y)) (crossed-⊞ near far g h x y)))

-- ---- what is remembered

-- histories that agree in their first n places
abbrev pub Alike : ℕ → List Bool → List Bool → Type 0
Alike n g h = (k : ℕ) → k < n → get_or g k false ≡ get_or h k false

-- nothing earlier than the two distances counts
module _ (way : Direction) (near far n : ℕ) (some : 0 < n) (near-in : near ≤ n) (far-in : far ≤ n) where
  crossed-alike : (g h : List Bool) (x : Bool) → Alike n g h → crossed near far g x ≡ crossed near far h x
  crossed-alike g h x a = ap₂ (λ (p q : Bool). x ⊕ p ⊕ q) (a (near - 1) (omega arith)) (a (far - 1) (omega arith))

  alike_next : (g h : List Bool) (x : Bool) → Alike n g h
      → Alike n (on_air way x (crossed near far g x) ∷ g) (on_air way x (crossed near far h x) ∷ h)
  alike_next g h x a zero l = ap (on_air way x) (crossed-alike g h x a)
  alike_next g h x a (suc k) l = a k (omega arith)

  pub through-alike : (g h xs : List Bool) → Alike n g h → through way near far g xs ≡ through way near far h xs
  unfolding through
  through-alike g h [] a = refl
  through-alike g h (x ∷ xs) a =
      ap₂ ◌∷◌
      (crossed-alike g h x a)
      (through-alike (on_air way x (crossed near far g x) ∷ g) (on_air way x (crossed near far h x) ∷ h) xs (alike_next g h x a))

  pub sent_after-alike : (g h xs : List Bool) → Alike n g h → Alike n (sent_after way near far g xs) (sent_after way near far h xs)
  unfolding sent_after
  sent_after-alike g h [] a = a
  sent_after-alike g h (x ∷ xs) a =
      sent_after-alike (on_air way x (crossed near far g x) ∷ g) (on_air way x (crossed near far h x) ∷ h) xs (alike_next g h x a)

-- with one history on both sides, the difference of what comes out depends on the difference of what goes in alone
pub through-difference : (way : Direction) (near far : ℕ) (h xs ys : List Bool) → length xs ≡ length ys
    → through way near far h xs ⊞ through way near far h ys ≡ through way near far [] (xs ⊞ ys)
through-difference way near far h xs ys e =
    through-⊞ way near far h h xs ys e
    ∙ through-alike way near far (suc (near + far)) (omega arith) (omega arith) (omega arith) (h ⊞ h) [] (xs ⊞ ys)
    (λ k l. get_d-⊞ h h k ∙ ⊕-self (get_or h k false))
