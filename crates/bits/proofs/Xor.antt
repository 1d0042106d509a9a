-- Xor of bits, of lists of bits, and of numbers: one operation seen three ways.
-- Assumes nothing.
use mathlib.Core.Path.{◌≡◌, refl, sym, ap, ap₂, ◌∙◌}
use mathlib.Core.Bool.{Bool, true, false}
use mathlib.Core.List.{List, [], ◌∷◌, ◌++◌}
use Prim.Native.Nat.{ℕ, zero, suc, ◌+◌, ◌*◌, ◌/◌, ◌%◌, ◌^◌, ◌≤◌, ◌<◌}
use native.Mathlib.Nat.{mod-lt, zero-lt-suc, not-suc-le-zero, le_of_suc-le-suc, mul-add-mod_self_right, suc_inj}
use native.Mathlib.Omega.{arith}
use lib.Bits.{bit_xor, differ, xor_step, xor_shr}
use lib.Dec.{eqb}
use lib.ListN.{length, get_or, replicate}
use Rattle.bits.specs.Bits.{◌⊕◌, ◌⊞◌, odd, bits}

-- two differences, paired the other way, for any operation that is associative and commutative
interchange : {A : Type 0} (f : A → A → A) → ((a b c : A) → f (f a b) c ≡ f a (f b c)) → ((a b : A) → f a b ≡ f b a)
    → (a b c d : A) → f (f a b) (f c d) ≡ f (f a c) (f b d)
interchange {A} f assoc comm a b c d =
    assoc a b (f c d)
    ∙ ap (f a) (sym (assoc b c d) ∙ ap (λ (x : A). f x d) (comm b c) ∙ assoc c b d)
    ∙ sym (assoc a c (f b d))

-- ---- bits

pub ⊕-false : (a : Bool) → a ⊕ false ≡ a
⊕-false true = refl
⊕-false false = refl

pub ⊕-self : (a : Bool) → a ⊕ a ≡ false
⊕-self true = refl
⊕-self false = refl

pub ⊕-comm : (a b : Bool) → a ⊕ b ≡ b ⊕ a
⊕-comm true true = refl
⊕-comm true false = refl
⊕-comm false true = refl
⊕-comm false false = refl

pub ⊕-assoc : (a b c : Bool) → (a ⊕ b) ⊕ c ≡ a ⊕ (b ⊕ c)
⊕-assoc true true true = refl
⊕-assoc true true false = refl
⊕-assoc true false c = refl
⊕-assoc false b c = refl

pub ⊕-cancel : (a b : Bool) → (a ⊕ b) ⊕ b ≡ a
⊕-cancel true true = refl
⊕-cancel true false = refl
⊕-cancel false true = refl
⊕-cancel false false = refl

pub ⊕-swap : (a b c d : Bool) → (a ⊕ b) ⊕ (c ⊕ d) ≡ (a ⊕ c) ⊕ (b ⊕ d)
⊕-swap = interchange ◌⊕◌ ⊕-assoc ⊕-comm

-- ---- lists of bits

pub ⊞-nil : (xs : List Bool) → xs ⊞ [] ≡ xs
unfolding ◌⊞◌
⊞-nil [] = refl
⊞-nil (x ∷ xs) = refl

pub ⊞-comm : (xs ys : List Bool) → xs ⊞ ys ≡ ys ⊞ xs
unfolding ◌⊞◌
⊞-comm [] [] = refl
⊞-comm [] (y ∷ ys) = refl
⊞-comm (x ∷ xs) [] = refl
⊞-comm (x ∷ xs) (y ∷ ys) = ap₂ ◌∷◌ (⊕-comm x y) (⊞-comm xs ys)

pub ⊞-assoc : (xs ys zs : List Bool) → (xs ⊞ ys) ⊞ zs ≡ xs ⊞ (ys ⊞ zs)
unfolding ◌⊞◌
⊞-assoc [] ys zs = refl
⊞-assoc (x ∷ xs) [] zs = refl
⊞-assoc (x ∷ xs) (y ∷ ys) [] = refl
⊞-assoc (x ∷ xs) (y ∷ ys) (z ∷ zs) = ap₂ ◌∷◌ (⊕-assoc x y z) (⊞-assoc xs ys zs)

pub ⊞-swap : (ws xs ys zs : List Bool) → (ws ⊞ xs) ⊞ (ys ⊞ zs) ≡ (ws ⊞ ys) ⊞ (xs ⊞ zs)
⊞-swap = interchange ◌⊞◌ ⊞-assoc ⊞-comm

-- what does not differ leaves 0s
pub ⊞-self : (xs : List Bool) → xs ⊞ xs ≡ replicate (length xs) false
unfolding ◌⊞◌
⊞-self [] = refl
⊞-self (x ∷ xs) = ap₂ ◌∷◌ (⊕-self x) (⊞-self xs)

pub length-⊞ : (xs ys : List Bool) → length ys ≤ length xs → length (xs ⊞ ys) ≡ length xs
unfolding ◌⊞◌
length-⊞ [] [] h = refl
length-⊞ [] (y ∷ ys) h = absurd (not-suc-le-zero h)
length-⊞ (x ∷ xs) [] h = refl
length-⊞ (x ∷ xs) (y ∷ ys) h = ap suc (length-⊞ xs ys (le_of_suc-le-suc h))

-- a short list reaches only into the first part
pub ⊞-front : (xs zs ys : List Bool) → length ys ≤ length xs → (xs ++ zs) ⊞ ys ≡ (xs ⊞ ys) ++ zs
unfolding ◌⊞◌
⊞-front [] zs [] h = ⊞-nil zs
⊞-front [] zs (y ∷ ys) h = absurd (not-suc-le-zero h)
⊞-front (x ∷ xs) zs [] h = refl
⊞-front (x ∷ xs) zs (y ∷ ys) h = ap (λ (l : List Bool). (x ⊕ y) ∷ l) (⊞-front xs zs ys (le_of_suc-le-suc h))

-- 0s behind a list change nothing
pub ⊞-zeros : (xs ys : List Bool) (n : ℕ) → length ys + n ≤ length xs → xs ⊞ (ys ++ replicate n false) ≡ xs ⊞ ys
unfolding ◌⊞◌
⊞-zeros xs [] zero h = refl
⊞-zeros [] [] (suc n) h = absurd (omega arith)
⊞-zeros (x ∷ xs) [] (suc n) h = ap₂ ◌∷◌ (⊕-false x) (⊞-zeros xs [] n (omega arith) ∙ ⊞-nil xs)
⊞-zeros [] (y ∷ ys) n h = absurd (omega arith)
⊞-zeros (x ∷ xs) (y ∷ ys) n h = ap (λ (l : List Bool). (x ⊕ y) ∷ l) (⊞-zeros xs ys n (omega arith))

pub ⊞-append : (ws xs ys zs : List Bool) → length ws ≡ length xs → (ws ++ ys) ⊞ (xs ++ zs) ≡ (ws ⊞ xs) ++ (ys ⊞ zs)
unfolding ◌⊞◌
⊞-append [] [] ys zs h = refl
⊞-append [] (x ∷ xs) ys zs h = absurd (omega arith)
⊞-append (w ∷ ws) [] ys zs h = absurd (omega arith)
⊞-append (w ∷ ws) (x ∷ xs) ys zs h = ap (λ (l : List Bool). (w ⊕ x) ∷ l) (⊞-append ws xs ys zs (suc_inj h))

-- the same n bits in front leave 0s
pub ⊞-still : (n : ℕ) (front xs ys : List Bool) → length front ≡ n → (front ++ xs) ⊞ (front ++ ys) ≡ replicate n false ++ (xs ⊞ ys)
⊞-still n front xs ys long =
    ⊞-append front front xs ys refl
    ∙ ap (λ (l : List Bool). l ++ (xs ⊞ ys)) (⊞-self front ∙ ap (λ (m : ℕ). replicate m false) long)

pub get_d-⊞ : (xs ys : List Bool) (k : ℕ) → get_or (xs ⊞ ys) k false ≡ get_or xs k false ⊕ get_or ys k false
unfolding ◌⊞◌
get_d-⊞ [] ys k = refl
get_d-⊞ (x ∷ xs) [] k = sym (⊕-false (get_or (x ∷ xs) k false))
get_d-⊞ (x ∷ xs) (y ∷ ys) zero = refl
get_d-⊞ (x ∷ xs) (y ∷ ys) (suc k) = get_d-⊞ xs ys k

-- ---- numbers

odd-digits : (q x y : ℕ) → x < 2 → y < 2 → eqb ((q * 2 + differ x y) % 2) 1 ≡ eqb x 1 ⊕ eqb y 1
odd-digits q zero zero hx hy = rw mul-add-mod_self_right
odd-digits q zero (suc zero) hx hy = rw mul-add-mod_self_right
odd-digits q (suc zero) zero hx hy = rw mul-add-mod_self_right
odd-digits q (suc zero) (suc zero) hx hy = rw mul-add-mod_self_right
odd-digits q zero (suc (suc y)) hx hy = absurd (not-suc-le-zero (le_of_suc-le-suc (le_of_suc-le-suc hy)))
odd-digits q (suc zero) (suc (suc y)) hx hy = absurd (not-suc-le-zero (le_of_suc-le-suc (le_of_suc-le-suc hy)))
odd-digits q (suc (suc x)) y hx hy = absurd (not-suc-le-zero (le_of_suc-le-suc (le_of_suc-le-suc hx)))

odd-xor : (a b : ℕ) → odd (bit_xor a b) ≡ odd a ⊕ odd b
unfolding odd
odd-xor a b =
    ap (λ (n : ℕ). eqb (n % 2) 1) (xor_step a b)
    ∙ odd-digits (bit_xor (a / 2) (b / 2)) (a % 2) (b % 2) (mod-lt a (zero-lt-suc 1)) (mod-lt b (zero-lt-suc 1))

pub bits-xor : (w a b : ℕ) → bits w (bit_xor a b) ≡ bits w a ⊞ bits w b
unfolding bits ◌⊞◌
bits-xor zero a b = refl
bits-xor (suc w) a b = ap₂ ◌∷◌ (ap odd (xor_shr a b w) ∙ odd-xor (a / 2 ^ w) (b / 2 ^ w)) (bits-xor w a b)
