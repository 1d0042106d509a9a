-- What is there already is the widths of the pairs so far.
use Rattle.std.proofs.Common.{◌≡◌, length, take}
use Rattle.layouts.specs.Layouts.{laid}
use Rattle.layouts.specs.Rows.{unrolled}
use Rattle.layouts.proofs.widths.unroll.Given as goal

abbrev pub invariant-loop-count : goal.invariant-loop-count
invariant-loop-count l =
    record {
      so_many : l.fields ≡ length (unrolled (take l.count-index l.pairs));
      so_far : l.widths ≡ laid (unrolled (take l.count-index l.pairs));
    }
