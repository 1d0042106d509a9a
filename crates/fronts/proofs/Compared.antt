-- Training and sync, compared.
-- Assumes nothing.
use Prim.Native.Nat.{ℕ, suc, ◌≤◌, ◌<◌}
use native.Mathlib.Omega.{arith}
use mathlib.Core.Path.{◌≡◌, refl, sym, ◌∙◌, ap, ap₂, subst}
use mathlib.Core.Bool.{Bool, true, false, false≢true}
use mathlib.Core.List.{List, [], ◌∷◌}
use lib.Dec.{eqb}
use lib.ListN.{length, get_or, take, drop, replicate}
use lib.Pointwise.{pointwise}
use Rattle.std.specs.Prelude.{◌↔◌, IsTrue, EachIndex, slice_index}
use Rattle.std.specs.Cmp.Lexicographic.{same_text, other_text}
use Rattle.std.proofs.lemmas.List.{length-take-le, get_or-replicate}
use Rattle.satellites.specs.declared.Satellite.{Satellite}
use Rattle.satellites.specs.Satellites.{training_of}
use Rattle.refusals.specs.Tests.{same}
use Rattle.frames.specs.Frames.{sync}
use Rattle.frames.specs.Reading.{trained, synced}
use Rattle.refusals.proofs.Tests.{same-equal, equal-same}

-- what a comparison tells, as a test
abbrev Compares : Bool → List ℕ → List ℕ → Type 0
Compares b xs ys = (b ≡ true → xs ≡ ys) × (xs ≡ ys → b ≡ true)

-- a test of two runs that is true exactly when they are equal is this one
is_same : (b : Bool) (xs ys : List ℕ) → Compares b xs ys → b ≡ same xs ys
is_same true xs ys e = subst (λ l. true ≡ same xs l) (e.0 refl) (sym (equal-same xs))
is_same false xs ys e = go (same xs ys) refl
  where
    go : (s : Bool) → same xs ys ≡ s → false ≡ s
    go true h = e.1 (same-equal xs ys h)
    go false h = refl

-- training: every byte is AA
alike : (xs : List ℕ) (v : ℕ) → ((k : ℕ) → k < length xs → get_or xs k 0 ≡ v) → xs ≡ replicate (length xs) v
alike [] v each = refl
alike (x ∷ xs) v each = ap₂ ◌∷◌ (each 0 (omega arith)) (alike xs v (λ k inside. each (suc k) (omega (arith, inside))))

pub training-compared : (s : Satellite) (n : ℕ) → n ≡ training_of s → (frame : List ℕ) → n ≤ length frame → (b : Bool)
    → (IsTrue b ↔ EachIndex (take n frame) (λ k. slice_index (take n frame) k ≡ 0xAA))
    → b ≡ trained s frame
training-compared s n its frame inside b says =
    is_same b (take n frame) (replicate n 0xAA) (
      λ e. alike (take n frame) 0xAA (says.0 e) ∙ ap (λ k. replicate k 0xAA) (length-take-le n frame inside),
      λ e. says.1 (λ k there. ap (λ l. get_or l k 0) e ∙ get_or-replicate n k 0xAA 0 (omega (arith, there, length-take-le n frame inside))),
    )
    ∙ ap (λ k. same (take k frame) (replicate k 0xAA)) its

-- sync: what is behind starts with it
compares : (b : Bool) (xs ys : List ℕ) → b ≡ pointwise eqb ys xs → Compares b xs ys
compares true xs ys e = (λ _. sym (same_text ys xs e), λ _. refl)
compares false xs ys e = (λ f. absurd (false≢true f), λ q. absurd (other_text ys xs e (sym q)))

pub sync-compared : (s : Satellite) (n : ℕ) → n ≡ training_of s → (frame : List ℕ) (b : Bool)
    → b ≡ pointwise eqb sync (take 2 (drop n frame)) → b ≡ synced s frame
sync-compared s n its frame b e =
    is_same b (take 2 (drop n frame)) sync (compares b (take 2 (drop n frame)) sync e) ∙ ap (λ k. same (take 2 (drop k frame)) sync) its
