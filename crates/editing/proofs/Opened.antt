-- A part in the clear, with another body put into it and sealed.
-- Assumes nothing.
use Prim.Native.Nat.{ℕ, ◌-◌, ◌≤◌}
use native.Mathlib.Omega.{arith}
use mathlib.Core.Path.{◌≡◌, refl, sym, ◌∙◌, ap, ap₂}
use mathlib.Core.List.{List, [], ◌∷◌, ◌++◌}
use lib.ListN.{length, get_or, take, drop}
use lib.Seq.{set-get_or}
use Rattle.scrambler.specs.Scrambler.{Register}
use Rattle.frames.specs.Frames.{sealed, body_in, clear_body}
use Rattle.sealing.specs.Sealing.{opened_part, sealed_part}
use Rattle.sealing.proofs.Laws.{length-opened, body-told, first-told, seals}
use Rattle.sealing.proofs.Lent.{lent, put, length-put, body-put}

first-put : (part ys : List ℕ) → 3 ≤ length part → get_or (put part ys) 0 0 ≡ get_or part 0 0
first-put [] ys h = absurd (omega arith)
first-put (x ∷ xs) ys h = refl

module _ (r : Register) (sent : List ℕ) (h : 3 ≤ length sent) where
  abbrev opened : List ℕ
  opened = opened_part r sent

  abbrev filled : List ℕ → List ℕ → List ℕ
  filled part ys = take 1 part ++ (ys ++ drop (length sent - 2 - 1) (drop 1 part))

  -- what is lent of it is the unscrambled body, and it seals with what comes back
  pub opened-sealed : (part ys : List ℕ) (f : List ℕ → List ℕ) → part ≡ opened
      → ys ≡ f (take (length sent - 2 - 1) (drop 1 part)) → length (f (clear_body r sent)) ≡ length (clear_body r sent)
      → sealed_part r (filled part ys) ≡ sealed r (get_or sent 0 0) (f (clear_body r sent))
  opened-sealed part ys f is e keeps =
      let n = length sent - 2 - 1 in
      let lends : take n (drop 1 part) ≡ clear_body r sent =
      ap (λ (l : List ℕ). take n (drop 1 l)) is ∙ body-told r sent h in
      let new : ys ≡ f (clear_body r sent) = e ∙ ap f lends in
      let seen : filled part ys ≡ put opened ys =
      ap₂ (λ (l : List ℕ) (m : ℕ). take 1 l ++ (ys ++ drop m (drop 1 l))) is (ap (λ (m : ℕ). m - 2 - 1) (sym (length-opened r sent h))) in
      let long : 3 ≤ length opened = omega (arith, length-opened r sent h, h) in
      let fits : length ys ≡ length (lent opened) =
      ap length new ∙ keeps ∙ ap length (sym lends ∙ ap (λ (l : List ℕ). take n (drop 1 l)) is)
      ∙ ap (λ (m : ℕ). length (take (m - 2 - 1) (drop 1 opened))) (sym (length-opened r sent h)) in
      ap (sealed_part r) seen
      ∙ seals r (put opened ys) (omega (arith, length-put opened ys long fits, long))
      ∙ ap₂ (sealed r) (first-put opened ys long ∙ first-told r sent h)
      (ap body_in (sym (set-get_or (put opened ys) 0 0)) ∙ body-put opened ys (get_or (put opened ys) 0 0) long fits ∙ new)
