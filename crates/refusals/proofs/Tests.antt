-- Tests in an order: what the number that is answered says of them.
-- Assumes nothing.
use Prim.Native.Nat.{ℕ, zero, suc, ◌<◌}
use native.Mathlib.Nat.{le_of_suc-le-suc, not-suc-le-zero}
use native.Mathlib.Omega.{arith}
use mathlib.Core.Logic.{◌≢◌}
use mathlib.Core.Path.{◌≡◌, refl, sym, ◌∙◌, ap₂, subst}
use mathlib.Core.Bool.{Bool, true, false, false≢true, not, ◌&&◌, cond}
use mathlib.Core.List.{List, [], ◌∷◌, ◌++◌}
use mir.Facts.{and_yes}
use lib.Dec.{T, eqb, ltb, ltb→lt}
use lib.ListN.{length, get_or}
use borrow.Author.Tests.{eqb-true, eqb-false, eq-eqb}
use Rattle.refusals.specs.Tests.{Test, test, refusal, holding, same}

-- ---- one test after the other

pub stops : (k : ℕ) (h : Bool) (ts : List Test) → h ≡ false → refusal (test k h ∷ ts) ≡ k
unfolding refusal
stops k h ts e = rw e

pub goes : (k : ℕ) (h : Bool) (ts : List Test) → h ≡ true → refusal (test k h ∷ ts) ≡ refusal ts
unfolding refusal
goes k h ts e = rw e

pub none_left : refusal [] ≡ 0
unfolding refusal
none_left = refl

-- every test has a number other than 0, which is that of acceptance
unfoldable pub numbered : List Test → Bool
numbered [] = true
numbered (t ∷ ts) = ltb 0 t.number && numbered ts

abbrev pub Numbered : List Test → Type 0
Numbered ts = T (numbered ts)

-- all of them hold
abbrev AllHold : List Test → Type 0
AllHold ts = (i : ℕ) → i < length ts → (get_or ts i (test 0 true)).holds ≡ true

-- where 0 is answered, all tests hold
all_hold : (ts : List Test) → Numbered ts → refusal ts ≡ 0 → AllHold ts
unfolding refusal numbered
all_hold [] n e i h = absurd (not-suc-le-zero h)
all_hold (t ∷ ts) n e i h = go t.holds refl e i h (all_hold ts (and_yes (ltb 0 t.number) (numbered ts) n).1)
  where
    go : (b : Bool) → t.holds ≡ b → cond b (refusal ts) t.number ≡ 0 → (i : ℕ) → i < length (t ∷ ts)
        → (refusal ts ≡ 0 → AllHold ts) → (get_or (t ∷ ts) i (test 0 true)).holds ≡ true
    go true f e zero h rest = f
    go true f e (suc i) h rest = rest e i (le_of_suc-le-suc h)
    go false f e i h rest =
        absurd (omega (arith, e, ltb→lt 0 t.number (and_yes (ltb 0 t.number) (numbered ts) n).0))

-- each of them by its number
each_holds : (ts : List Test) → AllHold ts → (k : ℕ) → holding k ts ≡ true
unfolding holding
each_holds [] all k = refl
each_holds (t ∷ ts) all k = go (eqb t.number k) (each_holds ts (λ i h. all (suc i) (omega arith)) k)
  where
    go : (b : Bool) → holding k ts ≡ true → cond b t.holds (holding k ts) ≡ true
    go true rest = all 0 (omega arith)
    go false rest = rest

pub holds-numbered : (ts : List Test) → Numbered ts → refusal ts ≡ 0 → (k : ℕ) → holding k ts ≡ true
holds-numbered ts numbers none = each_holds ts (all_hold ts numbers none)

-- tests behind others count where those hold, and only there
behind-all : (ts us : List Test) → AllHold ts → refusal (ts ++ us) ≡ refusal us
unfolding refusal
behind-all [] us all = refl
behind-all (t ∷ ts) us all = rw (all 0 (omega arith)) (behind-all ts us (λ i h. all (suc i) (omega arith)))

pub behind-held : (ts us : List Test) → Numbered ts → refusal ts ≡ 0 → refusal (ts ++ us) ≡ refusal us
behind-held ts us numbers none = behind-all ts us (all_hold ts numbers none)

pub behind-failed : (ts us : List Test) → refusal ts ≢ 0 → refusal (ts ++ us) ≡ refusal ts
unfolding refusal
behind-failed [] us some = absurd (some refl)
behind-failed (t ∷ ts) us some = go t.holds some (behind-failed ts us)
  where
    go : (b : Bool) → cond b (refusal ts) t.number ≢ 0 → (refusal ts ≢ 0 → refusal (ts ++ us) ≡ refusal ts)
        → cond b (refusal (ts ++ us)) t.number ≡ cond b (refusal ts) t.number
    go true some rest = rest some
    go false some rest = refl

-- and where none fails, none of those ahead does
pub ahead-held : (ts us : List Test) → refusal (ts ++ us) ≡ 0 → refusal ts ≡ 0
ahead-held ts us e = go (eqb (refusal ts) 0) refl
  where
    go : (b : Bool) → eqb (refusal ts) 0 ≡ b → refusal ts ≡ 0
    go true f = eqb-true (refusal ts) 0 f
    go false f = sym (behind-failed ts us (eqb-false (refusal ts) 0 f)) ∙ e

-- ---- the test whose number is answered fails, where no two have one number

-- none has number k
unfoldable pub lacks : ℕ → List Test → Bool
lacks k [] = true
lacks k (t ∷ ts) = not (eqb t.number k) && lacks k ts

unfoldable pub distinct : List Test → Bool
distinct [] = true
distinct (t ∷ ts) = lacks t.number ts && distinct ts

pub not-answered : (k : ℕ) (ts : List Test) → T (lacks k ts) → k ≢ 0 → refusal ts ≢ k
unfolding refusal lacks
not-answered k [] none some e = some (sym e)
not-answered k (t ∷ ts) none some e =
    let other = and_yes (not (eqb t.number k)) (lacks k ts) none in
    go t.holds (not-answered k ts other.1 some) other.0 e
  where
    go : (b : Bool) → refusal ts ≢ k → T (not (eqb t.number k)) → cond b (refusal ts) t.number ≢ k
    go true later here e = later e
    go false later here e = subst (λ (b : Bool). T (not b)) (eq-eqb t.number k e) here

pub fails-numbered : (ts : List Test) (k : ℕ) → T (distinct ts) → refusal ts ≡ k → k ≢ 0 → holding k ts ≡ false
unfolding refusal holding distinct
fails-numbered [] k apart e some = absurd (some (sym e))
fails-numbered (t ∷ ts) k apart e some =
    let both = and_yes (lacks t.number ts) (distinct ts) apart in
    go t.holds (eqb t.number k) refl refl e both.0 (λ rest. fails-numbered ts k both.1 rest some)
  where
    go : (h b : Bool) → t.holds ≡ h → eqb t.number k ≡ b → cond h (refusal ts) t.number ≡ k → T (lacks t.number ts)
        → (refusal ts ≡ k → holding k ts ≡ false) → cond b t.holds (holding k ts) ≡ false
    go true true f g e none rest =
        absurd (not-answered k ts (subst (λ (n : ℕ). T (lacks n ts)) (eqb-true t.number k g) none) some e)
    go true false f g e none rest = rest e
    go false true f g e none rest = f
    go false false f g e none rest = absurd (eqb-false t.number k g e)

-- ---- same bytes

pub same-equal : (xs ys : List ℕ) → same xs ys ≡ true → xs ≡ ys
unfolding same
same-equal [] [] e = refl
same-equal [] (y ∷ ys) e = absurd (false≢true e)
same-equal (x ∷ xs) [] e = absurd (false≢true e)
same-equal (x ∷ xs) (y ∷ ys) e = go (eqb x y) refl e (same-equal xs ys)
  where
    go : (b : Bool) → eqb x y ≡ b → b && same xs ys ≡ true → (same xs ys ≡ true → xs ≡ ys) → (x ∷ xs) ≡ (y ∷ ys)
    go true h e rest = ap₂ ◌∷◌ (eqb-true x y h) (rest e)
    go false h e rest = absurd (false≢true e)

pub equal-same : (xs : List ℕ) → same xs xs ≡ true
unfolding same
equal-same [] = refl
equal-same (x ∷ xs) = rw (eq-eqb x x refl) (equal-same xs)
