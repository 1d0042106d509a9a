-- A call's tests in their order (01, "What is refused, and in which order"; FORMAT 7).
use Prim.{⊥}
use Rattle.std.specs.Prelude.{ℕ, ◌≡◌, ◌⊎◌, Bool, true, false, ◌&&◌, cond, List, [], ◌∷◌, eqb, Result, Ok, Err}
use Rattle.refusals.specs.declared.Refusal.{Refusal}
use Rattle.refusals.specs.Refusals.{refusal_at}

-- a test's number, and whether it holds
pub record Test : Type 0 where
  pub number : ℕ
  pub holds : Bool

abbrev pub test : ℕ → Bool → Test
test number holds = record { number = number; holds = holds }

-- what a call answers: the number of the first test that fails, and 0, accepted, where none does
unfoldable pub refusal : List Test → ℕ
refusal [] = 0
refusal (t ∷ ts) = cond t.holds (refusal ts) t.number

-- the same as a result: the refusal of the first test that fails, with the place that 11 tells, and a value where none does
unfoldable pub answer_by : {A : Type 0} → List Test → ℕ → A → Result A Refusal
answer_by [] place value = Ok value
answer_by (t ∷ ts) place value = cond t.holds (answer_by ts place value) (Err (refusal_at t.number place))

-- whether the test of number k holds; a number that no test has fails nothing
unfoldable pub holding : ℕ → List Test → Bool
holding k [] = true
holding k (t ∷ ts) = cond (eqb t.number k) t.holds (holding k ts)

-- a test and a statement: it holds exactly where the statement does
abbrev pub Iff : Bool → Type 0 → Type 0
Iff b said = (b ≡ true → said) × (said → b ≡ true)

-- what a test says: its number, and its statement
pub data Said : Type 1 where
  says : ℕ → Type 0 → Said

-- tests say so, one after the other
abbrev pub Mean : List Test → List Said → Type 0
Mean [] [] = Unit {0}
Mean [] (more ∷ said) = ⊥
Mean (t ∷ ts) [] = ⊥
Mean (t ∷ ts) (says k statement ∷ said) = ((t.number ≡ k) × Iff t.holds statement) × Mean ts said

-- the number that is answered, by statements alone: that of the first one that fails, and 0 where all hold
abbrev pub Answered : ℕ → List Said → Type 0
Answered number [] = number ≡ 0
Answered number (says k statement ∷ said) = (statement × Answered number said) ⊎ ((statement → ⊥) × (number ≡ k))

-- all of them hold
abbrev pub AllSaid : List Said → Type 0
AllSaid [] = Unit {0}
AllSaid (says k statement ∷ said) = statement × AllSaid said

-- whether two runs of bytes are the same
unfoldable pub same : List ℕ → List ℕ → Bool
same [] [] = true
same [] (y ∷ ys) = false
same (x ∷ xs) [] = false
same (x ∷ xs) (y ∷ ys) = eqb x y && same xs ys
