-- The widths of a row have their places.
use Rattle.std.proofs.Common.{length, ap, arith}
use Rattle.layouts.specs.Rows.{unrolled}
use Rattle.layouts.proofs.Told.{row-fits}
use Rattle.layouts.proofs.of.Goals as goal

pub unroll-fields-requires : goal.unroll-fields-requires
unroll-fields-requires c =
    let fits = row-fits c.args.satellite c.args.ty c.in_ok-row.row.now c.in_ok-row.ensures in
    omega (arith, fits, ap (λ pairs. length (unrolled pairs)) c.pairs.ensures)
