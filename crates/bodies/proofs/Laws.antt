-- Laws of bodies, over every list of widths: values and bits are two ways to write one thing where each value fits its
-- field, and what the functions answer is that wherever the fields tile the body.
-- Assumes nothing.
use Prim.Native.Nat.{ℕ, zero, suc, ◌+◌, ◌*◌, ◌^◌, ◌≤◌, ◌<◌}
use native.Mathlib.Nat.{mod-eq_of_lt, le_trans, min-le_left, not-suc-le-zero, le_of_suc-le-suc}
use native.Mathlib.Omega.{arith}
use mathlib.Core.Path.{◌≡◌, refl, sym, ◌∙◌, ap, ap₂}
use mathlib.Core.Bool.{Bool, true, false, cond}
use mathlib.Core.List.{List, [], ◌∷◌, ◌++◌, append_assoc}
use lib.Dec.{ltb}
use lib.ListN.{length, get_or, take, drop, length-append, length-take, length-drop, take-append-drop, drop_of_length-le}
use lib.Seq.{take_at, drop_at, take-append_seam, drop-drop, length-take-le}
use lib.Pow.{pow_mono}
use borrow.Author.Tests.{lt-ltb, ltb-true, ltb-false}
use Rattle.std.proofs.Common.{Some}
use Rattle.satellites.specs.declared.Satellite.{Satellite}
use Rattle.bits.specs.Bits.{bits, number, bits_of, packed, field, replaced, replaced_answer}
use Rattle.bits.proofs.Numbers.{length-bits, number-bits, number_lt, bits-of}
use Rattle.bits.proofs.Bytes.{length-bits_of}
use Rattle.bits.proofs.Fields.{is_field_lem, length-replaced, length-replaced-answer, bits-replaced}
use Rattle.layouts.specs.declared.Layout.{Layout}
use Rattle.layouts.specs.Layouts.{total, width_at, start_at, layout_of, entry_of}
use Rattle.layouts.specs.Rules.{Allowed}
use Rattle.layouts.proofs.Laid.{some-layout}
use Rattle.bodies.specs.Bodies.{told, tiled, fitting, widths_in, values_from, laid_from, filled}

-- ---- values and bits

pub length-told : (ws : List ℕ) (bs : List Bool) → length (told ws bs) ≡ length ws
unfolding told
length-told [] bs = refl
length-told (w ∷ ws) bs = ap suc (length-told ws (drop w bs))

pub length-tiled : (ws vs : List ℕ) → length (tiled ws vs) ≡ total ws
unfolding tiled total
length-tiled [] vs = refl
length-tiled (w ∷ ws) vs =
    rw (length-append (bits w (get_or vs 0 0)) (tiled ws (drop 1 vs)), length-bits w (get_or vs 0 0), length-tiled ws (drop 1 vs))

pub fitting-below : (ws vs : List ℕ) → fitting ws vs ≤ length ws
unfolding fitting
fitting-below [] vs = omega arith
fitting-below (w ∷ ws) vs = go (ltb (get_or vs 0 0) (2 ^ w)) (fitting-below ws (drop 1 vs))
  where
    go : (b : Bool) → fitting ws (drop 1 vs) ≤ length ws → cond b (suc (fitting ws (drop 1 vs))) 0 ≤ suc (length ws)
    go true h = omega arith
    go false h = omega arith

-- where all fit, the first fits and the others do
all_fit : (w : ℕ) (ws vs : List ℕ) → fitting (w ∷ ws) vs ≡ suc (length ws)
    → (get_or vs 0 0 < 2 ^ w) × (fitting ws (drop 1 vs) ≡ length ws)
unfolding fitting
all_fit w ws vs h = go (ltb (get_or vs 0 0) (2 ^ w)) refl h
  where
    go : (b : Bool) → ltb (get_or vs 0 0) (2 ^ w) ≡ b → cond b (suc (fitting ws (drop 1 vs))) 0 ≡ suc (length ws)
        → (get_or vs 0 0 < 2 ^ w) × (fitting ws (drop 1 vs) ≡ length ws)
    go true e h = (ltb-true (get_or vs 0 0) (2 ^ w) e, omega arith)
    go false e h = absurd (omega arith)

pub told-tiled : (ws vs : List ℕ) → length vs ≡ length ws → fitting ws vs ≡ length ws → told ws (tiled ws vs) ≡ vs
unfolding told tiled
told-tiled [] [] n h = refl
told-tiled [] (v ∷ vs) n h = absurd (omega arith)
told-tiled (w ∷ ws) [] n h = absurd (omega arith)
told-tiled (w ∷ ws) (v ∷ vs) n h =
    let fit = all_fit w ws (v ∷ vs) h in
    ap₂ ◌∷◌
    (ap number (take_at (bits w v) (tiled ws vs) w (length-bits w v)) ∙ number-bits w v ∙ mod-eq_of_lt fit.0)
    (ap (told ws) (drop_at (bits w v) (tiled ws vs) w (length-bits w v)) ∙ told-tiled ws vs (omega arith) fit.1)

pub tiled-told : (ws : List ℕ) (bs : List Bool) → length bs ≡ total ws → tiled ws (told ws bs) ≡ bs
unfolding told tiled total
tiled-told [] [] h = refl
tiled-told [] (b ∷ bs) h = absurd (omega arith)
tiled-told (w ∷ ws) bs h =
    ap₂ ◌++◌ (bits-of w (take w bs) (rw length-take (omega arith))) (tiled-told ws (drop w bs) (rw length-drop (omega arith)))
    ∙ take-append-drop w bs

pub fitting-told : (ws : List ℕ) (bs : List Bool) → fitting ws (told ws bs) ≡ length ws
unfolding fitting told
fitting-told [] bs = refl
fitting-told (w ∷ ws) bs = rw (lt-ltb (number (take w bs)) (2 ^ w) small) (ap suc (fitting-told ws (drop w bs)))
  where
    small : number (take w bs) < 2 ^ w
    small = le_trans (number_lt (take w bs)) (pow_mono (rw length-take (min-le_left w (length bs))))

-- the value of a field is the number in the bits where it stands
pub told_at : (ws : List ℕ) (bs : List Bool) (k : ℕ) → k < length ws
    → get_or (told ws bs) k 0 ≡ number (take (width_at ws k) (drop (start_at ws k) bs))
unfolding told total
told_at [] bs k h = absurd (not-suc-le-zero h)
told_at (w ∷ ws) bs zero h = refl
told_at (w ∷ ws) bs (suc k) h =
    told_at ws (drop w bs) k (le_of_suc-le-suc h)
    ∙ ap (λ (l : List Bool). number (take (width_at ws k) l)) (drop-drop (start_at ws k) w bs)

-- ---- what fits

next-value : (vs : List ℕ) (k : ℕ) → get_or (drop 1 vs) k 0 ≡ get_or vs (suc k) 0
next-value [] k = refl
next-value (v ∷ vs) k = refl

-- where all fit, each does
pub fits-exactly : (ws vs : List ℕ) → fitting ws vs ≡ length ws → (k : ℕ) → k < length ws → get_or vs k 0 < 2 ^ width_at ws k
fits-exactly [] vs h k inside = absurd (not-suc-le-zero inside)
fits-exactly (w ∷ ws) vs h zero inside = (all_fit w ws vs h).0
fits-exactly (w ∷ ws) vs h (suc k) inside =
    rw (sym (next-value vs k)) (fits-exactly ws (drop 1 vs) (all_fit w ws vs h).1 k (le_of_suc-le-suc inside))

-- where each fits, all do
pub all-fitting : (ws vs : List ℕ) → ((k : ℕ) → k < length ws → get_or vs k 0 < 2 ^ width_at ws k) → fitting ws vs ≡ length ws
unfolding fitting
all-fitting [] vs h = refl
all-fitting (w ∷ ws) vs h =
    rw (lt-ltb (get_or vs 0 0) (2 ^ w) (h 0 (omega arith)))
    (ap suc (all-fitting ws (drop 1 vs) (λ k inside. rw (next-value vs k) (h (suc k) (omega arith)))))

-- where not all fit, the number told is that of the lowest field that does not
pub lowest : (ws vs : List ℕ) (k : ℕ) → fitting ws vs ≡ k → k < length ws
    → (2 ^ width_at ws k ≤ get_or vs k 0) × ((j : ℕ) → j < k → get_or vs j 0 < 2 ^ width_at ws j)
unfolding fitting
lowest [] vs k e h = absurd (not-suc-le-zero h)
lowest (w ∷ ws) vs k e h = go (ltb (get_or vs 0 0) (2 ^ w)) refl k e h (lowest ws (drop 1 vs))
  where
    go : (b : Bool) → ltb (get_or vs 0 0) (2 ^ w) ≡ b → (k : ℕ) → cond b (suc (fitting ws (drop 1 vs))) 0 ≡ k → k < suc (length ws)
        → ((k : ℕ) → fitting ws (drop 1 vs) ≡ k → k < length ws
        → (2 ^ width_at ws k ≤ get_or (drop 1 vs) k 0) × ((j : ℕ) → j < k → get_or (drop 1 vs) j 0 < 2 ^ width_at ws j))
        → (2 ^ width_at (w ∷ ws) k ≤ get_or vs k 0) × ((j : ℕ) → j < k → get_or vs j 0 < 2 ^ width_at (w ∷ ws) j)
    go true e zero same h rest = absurd (omega arith)
    go true e (suc k) same h rest =
        let r = rest k (omega arith) (le_of_suc-le-suc h) in
        (rw (sym (next-value vs k)) r.0, lower r.1)
      where
        lower : ((j : ℕ) → j < k → get_or (drop 1 vs) j 0 < 2 ^ width_at ws j) → (j : ℕ) → j < suc k → get_or vs j 0 < 2 ^ width_at (w ∷ ws) j
        lower each zero i = ltb-true (get_or vs 0 0) (2 ^ w) e
        lower each (suc j) i = rw (sym (next-value vs j)) (each j (le_of_suc-le-suc i))
    go false e zero same h rest = (ltb-false (get_or vs 0 0) (2 ^ w) e, λ j i. absurd (not-suc-le-zero i))
    go false e (suc k) same h rest = absurd (omega arith)

-- ---- what the functions answer

pub filled-enough : (vs room : List ℕ) → length vs ≤ length room → filled vs room ≡ vs ++ drop (length vs) room
unfolding filled
filled-enough [] room h = refl
filled-enough (v ∷ vs) [] h = absurd (omega arith)
filled-enough (v ∷ vs) (x ∷ room) h = ap (λ (l : List ℕ). v ∷ l) (filled-enough vs room (omega arith))

-- the widths that callers are told are those of the table
pub widths-in : (s : Satellite) (t : ℕ) (l : Layout) → layout_of s t ≡ Some l → widths_in l ≡ (entry_of s t).widths
widths-in s t l told = ap widths_in (some-layout s t l told).1 ∙ take-append_seam (entry_of s t).widths _

later : (w : ℕ) (ws : List ℕ) → Allowed (w ∷ ws) → Allowed ws
later w ws a k h = a (suc k) (omega arith)

values-from : (at : ℕ) (ws body : List ℕ) → at + total ws ≤ 8 * length body → Allowed ws
    → values_from at ws body ≡ told ws (drop at (bits_of body))
unfolding values_from told total field
values-from at [] body h a = refl
values-from at (w ∷ ws) body h a =
    ap₂ ◌∷◌
    (rw (is_field_lem at w body (a 0 (omega arith)).1 (omega arith)))
    (values-from (at + w) ws body (omega arith) (later w ws a) ∙ ap (told ws) (sym (drop-drop w at (bits_of body))))

-- where the fields tile the body, its values are those that its bits hold
pub values-told : (ws body : List ℕ) → total ws ≡ 8 * length body → Allowed ws → values_from 0 ws body ≡ told ws (bits_of body)
values-told ws body h a = values-from 0 ws body (omega arith) a

module _ (at w v : ℕ) (body : List ℕ) (h : at + w ≤ 8 * length body) where
  ahead : length (take at (bits_of body) ++ bits w v) ≡ at + w
  ahead =
      rw (
        length-append (take at (bits_of body)) (bits w v),
        length-bits w v,
        length-take-le at (bits_of body) (rw length-bits_of (omega arith)),
      )

  -- what stands up to a field's end, once it is replaced
  up_to : take (at + w) (bits_of (replaced at w v body)) ≡ take at (bits_of body) ++ bits w v
  up_to =
      rw (bits-replaced at w v body h, sym (append_assoc (take at (bits_of body)) (bits w v) (drop (at + w) (bits_of body))))
      (take_at (take at (bits_of body) ++ bits w v) (drop (at + w) (bits_of body)) (at + w) ahead)

-- one field is written
one-laid : (at w : ℕ) (ws vs body : List ℕ) → w ≤ 32 → at + w ≤ 8 * length body
    → laid_from at (w ∷ ws) vs body ≡ laid_from (at + w) ws (drop 1 vs) (replaced at w (get_or vs 0 0) body)
unfolding laid_from
one-laid at w ws vs body n h = rw (is_field_lem at w body n h)

-- at least one field is left
laid_from_lem : (at w : ℕ) (ws vs body : List ℕ) → at + total (w ∷ ws) ≡ 8 * length body → Allowed (w ∷ ws)
    → laid_from at (w ∷ ws) vs body ≡ packed (length body) (take at (bits_of body) ++ tiled (w ∷ ws) vs)
unfolding laid_from tiled total replaced
laid_from_lem at w [] vs body h a =
    one-laid at w [] vs body (a 0 (omega arith)).1 (omega arith)
    ∙ rw (drop_of_length-le (bits_of body) {i = at + w} (rw length-bits_of (omega arith)))
laid_from_lem at w (u ∷ ws) vs body h a =
    let v = get_or vs 0 0 in
    one-laid at w (u ∷ ws) vs body (a 0 (omega arith)).1 (omega arith)
    ∙ laid_from_lem (at + w) u ws (drop 1 vs) (replaced at w v body) (rw (length-replaced at w v body) (omega arith)) (later w (u ∷ ws) a)
    ∙ ap₂ packed (length-replaced at w v body)
    (ap (λ (l : List Bool). l ++ tiled (u ∷ ws) (drop 1 vs)) (up_to at w v body (omega arith))
    ∙ append_assoc (take at (bits_of body)) (bits w v) (tiled (u ∷ ws) (drop 1 vs)))

-- where the fields tile the body, what is written is the bits that the values make
pub laid-tiled : (ws vs body : List ℕ) → total ws ≡ 8 * length body → Allowed ws
    → laid_from 0 ws vs body ≡ packed (length body) (tiled ws vs)
unfolding laid_from packed total
laid-tiled [] vs [] h a = refl
laid-tiled [] vs (x ∷ body) h a = absurd (omega arith)
laid-tiled (w ∷ ws) vs body h a = laid_from_lem 0 w ws vs body (omega arith) a

-- writing keeps the body's length, whatever the widths
pub length-laid : (at : ℕ) (ws vs body : List ℕ) → length (laid_from at ws vs body) ≡ length body
unfolding laid_from
length-laid at [] vs body = refl
length-laid at (w ∷ ws) vs body =
    length-laid (at + w) ws (drop 1 vs) (replaced_answer at w (get_or vs 0 0) body)
    ∙ length-replaced-answer at w (get_or vs 0 0) body
