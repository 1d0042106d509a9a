-- The test of writing on its values, and the statement that it is true of.
-- Assumes nothing.
use Prim.Native.Nat.{ℕ, ◌^◌, ◌<◌}
use mathlib.Core.List.{List}
use lib.Dec.{eqb}
use lib.ListN.{length, get_or}
use borrow.Author.Tests.{eqb-true, eq-eqb}
use Rattle.layouts.specs.Layouts.{width_at}
use Rattle.bodies.specs.Bodies.{fitting}
use Rattle.bodies.proofs.Laws.{fits-exactly, all-fitting}
use Rattle.refusals.specs.Tests.{Iff}

pub all_fit : (ws values : List ℕ)
    → Iff (eqb (fitting ws values) (length ws)) ((i : ℕ) → i < length ws → get_or values i 0 < 2 ^ width_at ws i)
all_fit ws values = (
  λ e. fits-exactly ws values (eqb-true (fitting ws values) (length ws) e),
  λ h. eq-eqb (fitting ws values) (length ws) (all-fitting ws values h),
)
