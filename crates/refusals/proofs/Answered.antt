-- An answer that is a result: it is a value where 0 is answered, and else the refusal of the number that is.
-- Assumes nothing.
use Prim.Native.Nat.{ℕ}
use mathlib.Core.Path.{◌≡◌, refl, sym, ◌∙◌, ap, subst}
use mathlib.Core.Bool.{Bool, true, false, false≢true, ◌&&◌, cond}
use mathlib.Core.List.{List, [], ◌∷◌, ◌++◌}
use lib.Dec.{T, eqb, eqb→eq}
use lib.ListN.{get_or-map}
use mir.Facts.{and_yes}
use Rattle.std.specs.Prelude.{Result, Ok, Err, IfOk, IfErr, IsErrAnd, Option, Some, None}
use Rattle.std.specs.Option.{ok_or}
use Rattle.std.proofs.lemmas.Result.{IfErr-at_err, IfOk-at_ok}
use Rattle.std.specs.Result.{is_ok}
use Rattle.refusals.specs.declared.Refusal.{Refusal}
use Rattle.refusals.specs.declared.Refusal.TheVariants.{Field}
use Rattle.refusals.specs.Refusals.{number_of, place_in, refusals, refusal_at}
use Rattle.refusals.specs.Tests.{Test, refusal, answer_by}

-- every test has the number of a refusal
unfoldable pub named : List Test → Bool
named [] = true
named (t ∷ ts) = eqb (number_of (refusal_at t.number 0)) t.number && named ts

abbrev pub Named : List Test → Type 0
Named ts = T (named ts)

-- the number does not depend on the place
same-number : (n place : ℕ) → number_of (refusal_at n place) ≡ number_of (refusal_at n 0)
same-number n place = sym (get_or-map number_of (refusals place) n Field) ∙ get_or-map number_of (refusals 0) n Field

-- the refusal of a number, 11 with a place
abbrev pub Refuses : ℕ → ℕ → Refusal → Type 0
Refuses place n e = (number_of e ≡ n) × (n ≡ 11 → place_in e ≡ place)

module _ {A : Type 0} (place : ℕ) (value : A) where
  abbrev pub answer : List Test → Result A Refusal
  answer ts = answer_by ts place value

  -- a value is answered where no test fails
  pub ok-means : (ts : List Test) → IfOk (answer ts) (λ x. (refusal ts ≡ 0) × (x ≡ value))
  unfolding answer_by refusal
  ok-means [] = (refl, refl)
  ok-means (t ∷ ts) = go t.holds (ok-means ts)
    where
      go : (b : Bool) → IfOk (answer ts) (λ x. (refusal ts ≡ 0) × (x ≡ value))
          → IfOk (cond b (answer ts) (Err (refusal_at t.number place))) (λ x. (cond b (refusal ts) t.number ≡ 0) × (x ≡ value))
      go true rest = rest
      go false rest = tt

  -- else the refusal of the first that does
  refuses-at : (n : ℕ) → T (eqb (number_of (refusal_at n 0)) n) → Refuses place n (refusal_at n place)
  refuses-at n is = (same-number n place ∙ eqb→eq (number_of (refusal_at n 0)) n is, λ e. ap (λ m. place_in (refusal_at m place)) e)

  pub err-means : (ts : List Test) → Named ts → IfErr (answer ts) (Refuses place (refusal ts))
  unfolding answer_by refusal named
  err-means [] names = tt
  err-means (t ∷ ts) names =
      let both = and_yes (eqb (number_of (refusal_at t.number 0)) t.number) (named ts) names in
      go t.holds both.0 (err-means ts both.1)
    where
      go : (b : Bool) → T (eqb (number_of (refusal_at t.number 0)) t.number) → IfErr (answer ts) (Refuses place (refusal ts))
          → IfErr (cond b (answer ts) (Err (refusal_at t.number place))) (Refuses place (cond b (refusal ts) t.number))
      go true is rest = rest
      go false is rest = refuses-at t.number is

  -- the same of an answer that was given
  pub ok-told : (ts : List Test) (x : A) → Ok x ≡ answer ts → (refusal ts ≡ 0) × (x ≡ value)
  ok-told ts x e = subst (λ q. IfOk q (λ y. (refusal ts ≡ 0) × (y ≡ value))) (sym e) (ok-means ts)

  pub err-told : (ts : List Test) → Named ts → (e : Refusal) → Err e ≡ answer ts → Refuses place (refusal ts) e
  err-told ts names e told = subst (λ q. IfErr q (Refuses place (refusal ts))) (sym told) (err-means ts names)

  -- other tests behind those
  pub behind-value : (ts us : List Test) → answer ts ≡ Ok value → answer (ts ++ us) ≡ answer us
  unfolding answer_by
  behind-value [] us e = refl
  behind-value (t ∷ ts) us e = go t.holds e (behind-value ts us)
    where
      go : (b : Bool) → cond b (answer ts) (Err (refusal_at t.number place)) ≡ Ok value → (answer ts ≡ Ok value → answer (ts ++ us) ≡ answer us)
          → cond b (answer (ts ++ us)) (Err (refusal_at t.number place)) ≡ answer us
      go true e rest = rest e
      go false e rest = absurd (false≢true (ap is_ok e))

  pub behind-refusal : (ts us : List Test) (refusal : Refusal) → answer ts ≡ Err refusal → answer (ts ++ us) ≡ Err refusal
  unfolding answer_by
  behind-refusal [] us refusal e = absurd (false≢true (ap is_ok (sym e)))
  behind-refusal (t ∷ ts) us refusal e = go t.holds e (behind-refusal ts us refusal)
    where
      go : (b : Bool) → cond b (answer ts) (Err (refusal_at t.number place)) ≡ Err refusal → (answer ts ≡ Err refusal → answer (ts ++ us) ≡ Err refusal)
          → cond b (answer (ts ++ us)) (Err (refusal_at t.number place)) ≡ Err refusal
      go true e rest = rest e
      go false e rest = e

-- ---- what a `?` hands on is the refusal that it found

pub handed-on : {A : Type 0} (r : Result A Refusal) (e : Refusal) → IsErrAnd r (λ found. found ≡ e) → r ≡ Err e
handed-on (Ok x) e none = absurd none
handed-on (Err found) e same = ap Err same

-- ---- and that of an `ok_or` is what it was given

pub none-found : {A : Type 0} (found : Option A) (given e : Refusal) → Err e ≡ ok_or found given → (found ≡ None) × (e ≡ given)
none-found None given e same = (refl, IfErr-at_err (λ r. e ≡ r) same refl)
none-found (Some x) given e same = absurd (false≢true (ap is_ok same))

pub some-found : {A : Type 0} (found : Option A) (given : Refusal) (x : A) → Ok x ≡ ok_or found given → found ≡ Some x
some-found None given x same = absurd (false≢true (ap is_ok (sym same)))
some-found (Some y) given x same = ap Some (sym (IfOk-at_ok (λ z. x ≡ z) same refl))
