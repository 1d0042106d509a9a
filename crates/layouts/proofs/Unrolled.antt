-- Widths one after another, as the code fills them in.
-- Assumes nothing.
use Prim.Native.Nat.{ℕ, ◌+◌, ◌-◌, ◌≤◌, ◌<◌}
use native.Mathlib.Omega.{arith}
use mathlib.Core.Path.{◌≡◌, sym, ◌∙◌, ap}
use mathlib.Core.List.{List, [], ◌++◌, append_assoc, append-nil}
use lib.ListN.{length, get_or, take, drop, replicate, length-append, length-replicate}
use lib.Seq.{take-append_seam, drop-append-add, drop-drop}
use borrow.Rule.Slice.PartMut.{put_mid}
use Rattle.std.proofs.lemmas.List.{drop-replicate, take_more}
use Rattle.std.proofs.lemmas.List.Concat.{flat_map-append}
use Rattle.std.proofs.lemmas.List.Folds.{length-flat_map-take}
use Rattle.layouts.specs.Layouts.{most_fields, laid, ◌of◌}
use Rattle.layouts.specs.Rows.{group, unrolled}

-- one group more, behind what is there already
laid_more : (xs : List ℕ) (n w : ℕ)
    → take (length xs) (laid xs) ++ (n of w ++ drop (length xs + n) (laid xs)) ≡ laid (xs ++ n of w)
laid_more xs n w =
    let zeros : List ℕ = replicate (most_fields - length xs) 0 in
    let more : length (xs ++ n of w) ≡ length xs + n =
    length-append xs (n of w) ∙ ap (λ k. length xs + k) (length-replicate n w)
    in
    let rest : most_fields - length xs - n ≡ most_fields - (length xs + n) = omega arith in
    rw (take-append_seam xs zeros, drop-append-add xs zeros n, drop-replicate {X = ℕ} n (most_fields - length xs) 0, more, rest)
    (sym (append_assoc xs (n of w) _))

module _ (pairs : List (List ℕ)) (k : ℕ) where
  -- the fields up to a pair's, and its own, are no more than all
  pub fields_within : k < length pairs → length (unrolled (take k pairs)) + get_or (get_or pairs k []) 0 0 ≤ length (unrolled pairs)
  fields_within inside =
      let pair = get_or pairs k [] in
      omega (arith, length-flat_map-take group pairs k [] inside, length-replicate (get_or pair 0 0) (get_or pair 1 0))

  -- a pair is one group more
  unrolled-more : k < length pairs → unrolled (take (k + 1) pairs) ≡ unrolled (take k pairs) ++ group (get_or pairs k [])
  unrolled-more inside =
      ap unrolled (take_more pairs k [] inside)
      ∙ flat_map-append group (take k pairs) _
      ∙ ap (λ l. unrolled (take k pairs) ++ l) (append-nil (group (get_or pairs k [])))

  pub count-more : k < length pairs
      → length (unrolled (take (k + 1) pairs)) ≡ length (unrolled (take k pairs)) + get_or (get_or pairs k []) 0 0
  count-more inside =
      let pair = get_or pairs k [] in
      ap length (unrolled-more inside)
      ∙ length-append (unrolled (take k pairs)) (group pair)
      ∙ ap (λ n. length (unrolled (take k pairs)) + n) (length-replicate (get_or pair 0 0) (get_or pair 1 0))

  pub laid-more : k < length pairs → (widths filled : List ℕ) (at n m : ℕ) → at ≡ length (unrolled (take k pairs))
      → widths ≡ laid (unrolled (take k pairs))
      → n ≡ get_or (get_or pairs k []) 0 0 → m ≡ get_or (get_or pairs k []) 0 0 → filled ≡ replicate m (get_or (get_or pairs k []) 1 0)
      → put_mid at n widths filled ≡ laid (unrolled (take (k + 1) pairs))
  laid-more inside widths filled at n m there so-far so-many long new =
      let before = unrolled (take k pairs) in
      let count = get_or (get_or pairs k []) 0 0 in
      let width = get_or (get_or pairs k []) 1 0 in
      rw (there, so-far, new, so-many, long, drop-drop count (length before) (laid before))
      (laid_more before count width ∙ ap laid (sym (unrolled-more inside)))
