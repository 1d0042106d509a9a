-- A test, as a boolean, and the statement that it is true of.
-- Assumes nothing.
use Prim.{⊥}
use Prim.Native.Nat.{ℕ, ◌≤◌, ◌<◌}
use mathlib.Core.Path.{◌≡◌, refl, sym, ◌∙◌, subst}
use mathlib.Core.Logic.{◌≢◌, inl, inr}
use mathlib.Core.Bool.{Bool, true, false, false≢true, not, ◌&&◌, ◌||◌, cond}
use mathlib.Core.List.{List, [], ◌∷◌, ◌++◌}
use lib.Dec.{T, eqb, ltb, leb, eqb_refl, T_not}
use borrow.Author.Tests.{eqb-true, eq-eqb, ltb-true, lt-ltb, leb-true, le-leb}
use mir.Facts.{and_yes}
use native.Mathlib.Omega.{arith}
use Rattle.refusals.specs.Tests.{Test, refusal, same, Iff, Said, says, Mean, Answered, AllSaid}
use Rattle.refusals.proofs.Tests.{same-equal, equal-same}

pub below : (a b : ℕ) → Iff (ltb a b) (a < b)
below a b = (ltb-true a b, lt-ltb a b)

pub at_most : (a b : ℕ) → Iff (leb a b) (a ≤ b)
at_most a b = (leb-true a b, le-leb a b)

pub equal : (a b : ℕ) → Iff (eqb a b) (a ≡ b)
equal a b = (eqb-true a b, eq-eqb a b)

pub same_bytes : (xs ys : List ℕ) → Iff (same xs ys) (xs ≡ ys)
same_bytes xs ys = (same-equal xs ys, λ e. rw e (equal-same ys))

pub both : {P Q : Type 0} {a b : Bool} → Iff a P → Iff b Q → Iff (a && b) (P × Q)
both {P = P} {Q = Q} {a = a} {b = b} p q = go a p
  where
    go : (a : Bool) → Iff a P → Iff (a && b) (P × Q)
    go true p = (λ e. (p.0 refl, q.0 e), λ h. q.1 h.1)
    go false p = (λ e. absurd (false≢true e), λ h. p.1 h.0)

pub only-where : {Q : Type 0} (a b : Bool) → Iff b Q → Iff (not a || b) (a ≡ true → Q)
only-where true b q = (λ e h. q.0 e, λ f. q.1 (f refl))
only-where false b q = (λ e h. absurd (false≢true h), λ f. refl)

pub itself : (b : Bool) → Iff b (b ≡ true)
itself b = (λ e. e, λ e. e)

pub always : Iff true (Unit {0})
always = (λ e. tt {0}, λ u. refl)

-- ---- the number that is answered, by the statements of its tests

pub answered : (ts : List Test) (said : List Said) → Mean ts said → Answered (refusal ts) said
unfolding refusal
answered [] [] m = refl
answered [] (more ∷ said) m = absurd m
answered (t ∷ ts) [] m = absurd m
answered (t ∷ ts) (says k statement ∷ said) m = go t.holds m.0.1 (answered ts said m.1)
  where
    go : (b : Bool) → Iff b statement → Answered (refusal ts) said → Answered (cond b (refusal ts) t.number) (says k statement ∷ said)
    go true iff rest = inl (iff.0 refl, rest)
    go false iff rest = inr (λ h. false≢true (iff.1 h), m.0.0)

-- there is one such number
pub answered-once : (said : List Said) (m n : ℕ) → Answered m said → Answered n said → m ≡ n
answered-once [] m n p q = p ∙ sym q
answered-once (says k statement ∷ said) m n (inl p) (inl q) = answered-once said m n p.1 q.1
answered-once (says k statement ∷ said) m n (inl p) (inr q) = absurd (q.0 p.0)
answered-once (says k statement ∷ said) m n (inr p) (inl q) = absurd (p.0 q.0)
answered-once (says k statement ∷ said) m n (inr p) (inr q) = p.1 ∙ sym q.1

-- where all hold, it is 0
pub all-answered : (said : List Said) → AllSaid said → Answered 0 said
all-answered [] all = refl
all-answered (says k statement ∷ said) all = inl (all.0, all-answered said all.1)

-- no test has the number n
abbrev pub others_than : ℕ → List Said → Bool
others_than n [] = true
others_than n (says k statement ∷ said) = not (eqb k n) && others_than n said

other : (n k : ℕ) (more : Bool) → T (not (eqb k n) && more) → n ≢ k
other n k more lacks e = T_not (eqb k n) (and_yes (not (eqb k n)) more lacks).0 (subst (λ m. T (eqb k m)) (sym e) (eqb_refl k))

-- and where it is 0, all hold: every test has another number
pub all_said : (said : List Said) → T (others_than 0 said) → Answered 0 said → AllSaid said
all_said [] some a = tt {0}
all_said (says k statement ∷ said) some (inl a) = (a.0, all_said said (and_yes (not (eqb k 0)) (others_than 0 said) some).1 a.1)
all_said (says k statement ∷ said) some (inr a) = absurd (other 0 k (others_than 0 said) some a.1)

-- a number that no test has, other than 0, is not answered
not-answered : (n : ℕ) (said : List Said) → 0 < n → T (others_than n said) → Answered n said → ⊥
not-answered n [] more lacks a = omega (arith, more, a)
not-answered n (says k statement ∷ said) more lacks (inl a) =
    not-answered n said more (and_yes (not (eqb k n)) (others_than n said) lacks).1 a.1
not-answered n (says k statement ∷ said) more lacks (inr a) = other n k (others_than n said) lacks a.1

-- a number that one test has is answered only where the tests ahead of that one hold, and it fails
pub answered-fails : (n : ℕ) (ahead : List Said) (statement : Type 0) (behind : List Said)
    → 0 < n → T (others_than n ahead) → T (others_than n behind) → Answered n (ahead ++ (says n statement ∷ behind))
    → AllSaid ahead × (statement → ⊥)
answered-fails n [] statement behind more lacks none (inl a) = absurd (not-answered n behind more none a.1)
answered-fails n [] statement behind more lacks none (inr a) = (tt {0}, a.0)
answered-fails n (says k first ∷ ahead) statement behind more lacks none (inl a) =
    let rest = answered-fails n ahead statement behind more (and_yes (not (eqb k n)) (others_than n ahead) lacks).1 none a.1 in
    ((a.0, rest.0), rest.1)
answered-fails n (says k first ∷ ahead) statement behind more lacks none (inr a) = absurd (other n k (others_than n ahead) lacks a.1)

-- and it is answered there
pub fails-answered : (n : ℕ) (ahead : List Said) (statement : Type 0) (behind : List Said)
    → AllSaid ahead → (statement → ⊥) → Answered n (ahead ++ (says n statement ∷ behind))
fails-answered n [] statement behind all fails = inr (fails, refl)
fails-answered n (says k first ∷ ahead) statement behind all fails = inl (all.0, fails-answered n ahead statement behind all.1 fails)

-- all of two lists hold where all of each do
pub part-said : (xs ys : List Said) → AllSaid (xs ++ ys) → AllSaid xs × AllSaid ys
part-said [] ys all = (tt {0}, all)
part-said (says k statement ∷ xs) ys all = let rest = part-said xs ys all.1 in ((all.0, rest.0), rest.1)

pub join-said : (xs ys : List Said) → AllSaid xs → AllSaid ys → AllSaid (xs ++ ys)
join-said [] ys all more = more
join-said (says k statement ∷ xs) ys all more = (all.0, join-said xs ys all.1 more)
