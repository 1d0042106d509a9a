-- Laws of one field changed, over every list of widths: its own bits change, and no other.
-- Assumes nothing.
use Prim.Native.Nat.{ℕ, zero, suc, ◌+◌, ◌-◌, ◌*◌, ◌^◌, ◌≤◌, ◌<◌}
use native.Mathlib.Nat.{zero-add, add_assoc, not-suc-le-zero, le_of_suc-le-suc}
use native.Mathlib.Omega.{arith}
use mathlib.Core.Path.{◌≡◌, refl, sym, ◌∙◌, ap, ap₂}
use mathlib.Core.Bool.{Bool, true, false}
use mathlib.Core.List.{List, [], ◌∷◌, ◌++◌, append_assoc}
use lib.ListN.{length, get_or, take, drop, set, replicate, length-take, length-drop, replicate-append-replicate}
use lib.Seq.{get_or-set_same, get_or-set_other, take-append-add, drop-drop, take-add}
use lib.Dec.{eqb}
use borrow.Author.Tests.{eqb-true, eqb-false}
use Rattle.bits.specs.Bits.{◌⊞◌, bits, bits_of, packed, changed, replaced, replaced_answer}
use Rattle.bits.proofs.Numbers.{length-bits, bits-of}
use Rattle.bits.proofs.Bytes.{length-bits_of}
use Rattle.bits.proofs.Fields.{is_field_lem}
use Rattle.bits.proofs.Xor.{⊞-self, ⊞-append, ⊞-still}
use Rattle.layouts.specs.Rules.{Allowed}
use Rattle.layouts.specs.Layouts.{total, width_at, start_at}
use Rattle.layouts.proofs.Places.{ends-inside}
use Rattle.bodies.specs.Bodies.{told, tiled, fitting}
use Rattle.bodies.proofs.Laws.{length-tiled, tiled-told, fits-exactly, all-fitting}

-- the values that bits hold, one of them changed, make the same bits but for those of its field
pub tiled-set : (ws : List ℕ) (bs : List Bool) (k v : ℕ) → length bs ≡ total ws → k < length ws
    → tiled ws (set (told ws bs) k v) ≡ changed (start_at ws k) (width_at ws k) v bs
unfolding told tiled total
tiled-set [] bs k v h inside = absurd (not-suc-le-zero inside)
tiled-set (w ∷ ws) bs zero v h inside =
    rw (zero-add w) (ap (λ (l : List Bool). bits w v ++ l) (tiled-told ws (drop w bs) (rw length-drop (omega arith))))
tiled-set (w ∷ ws) bs (suc k) v h inside =
    let at = start_at ws k in
    let behind = bits (width_at ws k) v ++ drop (at + width_at ws k) (drop w bs) in
    ap₂ ◌++◌
    (bits-of w (take w bs) (rw length-take (omega arith)))
    (tiled-set ws (drop w bs) k v (rw length-drop (omega arith)) (le_of_suc-le-suc inside))
    ∙ sym (append_assoc (take w bs) (take at (drop w bs)) behind)
    ∙ ap₂ ◌++◌
    (sym (take-add w at bs))
    (ap (λ (l : List Bool). bits (width_at ws k) v ++ l)
    (drop-drop (at + width_at ws k) w bs ∙ ap (λ (n : ℕ). drop n bs) (sym (add_assoc w at (width_at ws k)))))

-- where the fields tile the body, replacing one of them gives the body of the values with that one changed
pub field-changed : (ws body : List ℕ) (k v : ℕ) → total ws ≡ 8 * length body → Allowed ws → k < length ws
    → replaced_answer (start_at ws k) (width_at ws k) v body ≡ packed (length body) (tiled ws (set (told ws (bits_of body)) k v))
unfolding replaced
field-changed ws body k v tiles a inside =
    let whole : start_at ws k + width_at ws k ≤ 8 * length body = omega (arith, ends-inside ws k inside, tiles) in
    rw (is_field_lem (start_at ws k) (width_at ws k) body (a k inside).1 whole)
    (ap (packed (length body)) (sym (tiled-set ws (bits_of body) k v (length-bits_of body ∙ sym tiles) inside)))

-- the bits ahead of a field do not depend on its value
pub tiled-ahead : (ws vs : List ℕ) (k v : ℕ) → take (start_at ws k) (tiled ws (set vs k v)) ≡ take (start_at ws k) (tiled ws vs)
unfolding tiled total
tiled-ahead [] vs k v = refl
tiled-ahead (w ∷ ws) vs zero v = refl
tiled-ahead (w ∷ ws) [] (suc k) v = refl
tiled-ahead (w ∷ ws) (x ∷ vs) (suc k) v =
    up_to (tiled ws (set vs k v)) ∙ ap (λ (l : List Bool). bits w x ++ l) (tiled-ahead ws vs k v) ∙ sym (up_to (tiled ws vs))
  where
    up_to : (l : List Bool) → take (w + start_at ws k) (bits w x ++ l) ≡ bits w x ++ take (start_at ws k) l
    up_to l =
        ap (λ (n : ℕ). take (n + start_at ws k) (bits w x ++ l)) (sym (length-bits w x)) ∙ take-append-add (bits w x) l (start_at ws k)

-- which bits flip depends on the field's own bits alone, before and after
pub tiled-flips : (ws vs : List ℕ) (k v : ℕ) → k < length ws → k < length vs
    → tiled ws vs ⊞ tiled ws (set vs k v)
    ≡ replicate (start_at ws k) false
    ++ ((bits (width_at ws k) (get_or vs k 0) ⊞ bits (width_at ws k) v)
    ++ replicate (total ws - (start_at ws k + width_at ws k)) false)
unfolding tiled total
tiled-flips [] vs k v inside has = absurd (not-suc-le-zero inside)
tiled-flips (w ∷ ws) [] k v inside has = absurd (not-suc-le-zero has)
tiled-flips (w ∷ ws) (x ∷ vs) zero v inside has =
    let rest : total ws ≡ w + total ws - (0 + w) = omega arith in
    ⊞-append (bits w x) (bits w v) (tiled ws vs) (tiled ws vs) (length-bits w x ∙ sym (length-bits w v))
    ∙ ap (λ (l : List Bool). (bits w x ⊞ bits w v) ++ l)
    (⊞-self (tiled ws vs) ∙ ap (λ (n : ℕ). replicate n false) (length-tiled ws vs ∙ rest))
tiled-flips (w ∷ ws) (x ∷ vs) (suc k) v inside has =
    let at = start_at ws k in
    let wide = width_at ws k in
    let own = bits wide (get_or vs k 0) ⊞ bits wide v in
    let rest : total ws - (at + wide) ≡ w + total ws - (w + at + wide) = omega arith in
    ⊞-still w (bits w x) (tiled ws vs) (tiled ws (set vs k v)) (length-bits w x)
    ∙ ap (λ (l : List Bool). replicate w false ++ l) (tiled-flips ws vs k v (le_of_suc-le-suc inside) (le_of_suc-le-suc has))
    ∙ sym (append_assoc (replicate w false) (replicate at false) (own ++ replicate (total ws - (at + wide)) false))
    ∙ ap₂ ◌++◌
    (replicate-append-replicate w at false)
    (ap (λ (n : ℕ). own ++ replicate n false) rest)

-- where all values fit, they do with one of them changed to another that fits
pub fitting-set : (ws vs : List ℕ) (k v : ℕ) → fitting ws vs ≡ length ws → k < length vs → v < 2 ^ width_at ws k
    → fitting ws (set vs k v) ≡ length ws
fitting-set ws vs k v all has narrow = all-fitting ws (set vs k v) each
  where
    each : (j : ℕ) → j < length ws → get_or (set vs k v) j 0 < 2 ^ width_at ws j
    each j inside = go (eqb j k) refl
      where
        go : (b : Bool) → eqb j k ≡ b → get_or (set vs k v) j 0 < 2 ^ width_at ws j
        go true e = rw (eqb-true j k e, get_or-set_same vs k v 0 has) narrow
        go false e = rw (get_or-set_other vs k j v 0 (eqb-false j k e)) (fits-exactly ws vs all j inside)
