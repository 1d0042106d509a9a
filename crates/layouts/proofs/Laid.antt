-- What callers are told of a type, against the table's entry: behind the widths stand zeros only, so that widths and start
-- bits of the fields are the entry's, and the end of the last field is the end of the body.
-- Assumes nothing.
use Prim.Native.Nat.{ℕ, zero, suc, ◌+◌, ◌-◌, ◌*◌, ◌≤◌}
use native.Mathlib.Omega.{arith}
use mathlib.Core.Path.{◌≡◌, refl, sym, ◌∙◌, ap}
use mathlib.Core.Bool.{Bool, true, false}
use mathlib.Core.List.{List, [], ◌∷◌, ◌++◌}
use lib.ListN.{length, replicate}
use lib.Seq.{take-append-le, take-length}
use Rattle.std.proofs.Common.{Some, None}
use Rattle.std.proofs.lemmas.Option.{none-some, cond_some}
use Rattle.satellites.specs.declared.Satellite.{Satellite}
use Rattle.layouts.specs.declared.Layout.{Layout}
use Rattle.layouts.specs.Layouts.{carries, entry_of, laid, laid_out, layout_of, most_fields, start_at, total, width_at}
use Rattle.layouts.proofs.Entries.{tiles-body}

width-zeros : (ws : List ℕ) (n k : ℕ) → width_at (ws ++ replicate n 0) k ≡ width_at ws k
width-zeros [] zero k = refl
width-zeros [] (suc n) zero = refl
width-zeros [] (suc n) (suc k) = width-zeros [] n k
width-zeros (w ∷ ws) n zero = refl
width-zeros (w ∷ ws) n (suc k) = width-zeros ws n k

-- the width of every field, and 0 where there is none
pub width-laid : (ws : List ℕ) (k : ℕ) → width_at (laid ws) k ≡ width_at ws k
width-laid ws k = width-zeros ws (most_fields - length ws) k

-- the start of every field, and behind the last one the end of all
pub start-laid : (ws : List ℕ) (k : ℕ) → k ≤ length ws → start_at (laid ws) k ≡ start_at ws k
start-laid ws k inside = ap total (take-append-le k ws (replicate (most_fields - length ws) 0) inside)

-- a layout is told exactly of a type that is carried, and is that of the entry
pub layout-some : (s : Satellite) (t : ℕ) → carries s t ≡ true → layout_of s t ≡ Some (laid_out s (entry_of s t))
layout-some s t carried = rw carried

pub some-layout : (s : Satellite) (t : ℕ) (l : Layout) → layout_of s t ≡ Some l → (carries s t ≡ true) × (l ≡ laid_out s (entry_of s t))
some-layout s t l told =
    let parts = cond_some (carries s t) (laid_out s (entry_of s t)) l told in
    (parts.0, sym parts.1)

pub none-layout : (s : Satellite) (t : ℕ) → layout_of s t ≡ None → carries s t ≡ false
none-layout s t none = go (carries s t) refl
  where
    go : (b : Bool) → carries s t ≡ b → b ≡ false
    go true carried = absurd (none-some (laid_out s (entry_of s t)) (sym none ∙ layout-some s t carried))
    go false other = refl

-- the fields that are told of end where the body ends
pub fields-end : (s : Satellite) (t : ℕ) (l : Layout) → layout_of s t ≡ Some l → 8 + start_at l.widths l.fields + 16 ≡ 8 * l.size
fields-end s t l told =
    let parts = some-layout s t l told in
    let ws = (entry_of s t).widths in
    rw parts.1 (
    ap (λ n. 8 + n + 16) (start-laid ws (length ws) (omega arith) ∙ ap total (take-length ws)) ∙ tiles-body s t parts.0
    )
