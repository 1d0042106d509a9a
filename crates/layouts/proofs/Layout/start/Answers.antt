-- What the chain adds up is the widths ahead, each of which is at most 255.
use Rattle.std.proofs.Common.{◌≡◌, ℕ, ◌^◌, ◌<◌, Fits, w8, take, get_or, arith, rules, tests}
use Rattle.std.specs.List.{sum_by}
use Rattle.std.proofs.lemmas.Iterator.{YieldsList-from_slice, YieldsList-from_take, YieldsList-from_map}
use Rattle.std.proofs.lemmas.Iterator.Consumers.{sum_by_from_yields_List, fits_by_from_yields_list}
use Rattle.layouts.proofs.Places.{start-sum, start-small}
use Rattle.layouts.proofs.Layout.start.Goals as goal

pub sum-requires-clause-fits : goal.sum-requires-clause-fits
sum-requires-clause-fits c =
    let ws = c.args.self.widths in
    let ahead = take c.args.field ws in
    let small : (k : ℕ) → Fits w8 (get_or ws k 0) = search rules in
    let fits : sum_by (λ w. w) ahead < 2 ^ 64 =
    omega (arith, start-sum ws c.args.field, start-small ws c.args.field (λ k. (small k).fits)) in
    fits_by_from_yields_list (λ w. w) ahead c.map.result _ (
    YieldsList-from_map _ (λ w. w) (YieldsList-from_take c.args.field (YieldsList-from_slice ws cc) cc) c.map.ensures.closure
    (λ x r q k. search (rules, tests))
    ) fits

pub returns : goal.returns
returns c =
    let ws = c.args.self.widths in
    let ahead = take c.args.field ws in
    let added : c.sum.result ≡ sum_by (λ w. w) ahead =
    sum_by_from_yields_List (λ w. w) ahead c.map.result _ c.sum.ensures.ran (
    YieldsList-from_map _ (λ w. w) (YieldsList-from_take c.args.field (YieldsList-from_slice ws cc) cc) c.map.ensures.closure
    (λ x r q k. search (rules, tests))
    ) in
    omega (arith, start-sum ws c.args.field)
