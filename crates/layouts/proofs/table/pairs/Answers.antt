-- Sixteen numbers less two are seven pairs.
use Rattle.std.proofs.Common.{◌≡◌, ◌/◌, ◌∙◌, length, drop, arith, length-drop}
use Rattle.std.specs.Simd.{first_chunks}
use lib.Seq.{take_all}
use borrow.Rule.Slice.PartMut.{mid_of}
use Rattle.layouts.specs.Rows.{pairs_of}
use Rattle.layouts.proofs.table.pairs.Goals as goal

pub returns : goal.returns
unfolding pairs_of
returns c =
    let row = c.args.row.now in
    let long : length (drop 2 row) ≡ 14 = rw (length-drop, c.told-row) in
    let left : mid_of 2 14 row ≡ drop 2 row = take_all 14 (drop 2 row) (omega (arith, long)) in
    let front : c.as_chunks.result.0.now ≡ first_chunks 2 (length (mid_of 2 14 row) / 2) (mid_of 2 14 row) = c.as_chunks.ensures.front in
    front ∙ rw (left, long)
