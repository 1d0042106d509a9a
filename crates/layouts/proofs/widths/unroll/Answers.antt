-- Each pair is one group more.
use Rattle.std.proofs.Common.{◌≡◌, ◌+◌, ◌-◌, [], length, get_or, take, drop, arith, rules, length-take, length-drop}
use Rattle.layouts.proofs.Unrolled.{fields_within, count-more, laid-more}
use Rattle.layouts.proofs.widths.unroll.Goals as goal

pub loop-count-preserved : goal.loop-count-preserved
loop-count-preserved c =
    let pairs = c.args.pairs.now in
    let k = c.loop-count.count-index in
    let at = c.loop-count.fields in
    let widths = c.loop-count.widths in
    let inside = c.loop-count-test.true in
    let inv = c.loop-count.invariant in
    let count = get_or (get_or pairs k []) 0 0 in
    let step : at + count - at ≡ count = omega arith in
    let long : length (take (at + count - at) (drop at widths)) ≡ count =
    rw (length-take, length-drop) (omega (arith, fields_within pairs k inside)) in
    record {
      so_many = omega (arith, count-more pairs k inside);
      so_far = laid-more pairs k inside widths c.fill.new.self at _ _ inv.so_many inv.so_far step long (c.fill.ensures.after (λ y same. search rules));
    }
