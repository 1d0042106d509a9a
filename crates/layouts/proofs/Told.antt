-- What is told of a row of a type that is carried.
-- Assumes nothing.
use Prim.Native.Nat.{ℕ, ◌≤◌}
use mathlib.Core.Path.{◌≡◌, sym, subst}
use mathlib.Core.Bool.{true, cond}
use lib.ListN.{length}
use Rattle.std.proofs.Common.{Some, None}
use Rattle.std.proofs.lemmas.Option.{cond_some}
use Rattle.satellites.specs.declared.Satellite.{Satellite}
use Rattle.layouts.specs.Layouts.{most_fields, entry_of, carries}
use Rattle.layouts.specs.Rows.{Row, says}
use Rattle.layouts.proofs.Entries.{fields-most}

module _ (s : Satellite) (t : ℕ) (r : Row) (row-is : Some (says r) ≡ cond (carries s t) (Some (entry_of s t)) None) where
  parts : (carries s t ≡ true) × (entry_of s t ≡ says r)
  parts = cond_some (carries s t) (entry_of s t) (says r) (sym row-is)

  -- the widths of a row have their places
  pub row-fits : length (says r).widths ≤ most_fields
  row-fits = subst (λ e. length e.widths ≤ most_fields) parts.1 (fields-most s t parts.0)
