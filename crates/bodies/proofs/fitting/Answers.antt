-- The first place where a value does not fit, or else how many fields there are.
-- Assumes nothing.
use Rattle.std.proofs.Common.{◌≡◌, length, rules, tests, ap, ◌∙◌}
use Rattle.std.specs.List.{position, zip}
use Rattle.std.specs.Option.{unwrap_or}
use Rattle.std.proofs.lemmas.Iterator.{YieldsList-from_slice, YieldsList-from_zip}
use Rattle.std.proofs.lemmas.Iterator.Search.{position_from_yields_List}
use Rattle.bodies.specs.Bodies.{fitting}
use Rattle.bodies.proofs.Walk.{exceeds, fitting-position}
use Rattle.bodies.proofs.fitting.Goals as goal

pub returns-clause-value : goal.returns-clause-value
returns-clause-value c =
    let ws = c.widths-widths.result.now in
    let vs = c.args.values.now in
    let first : c.position.result ≡ position exceeds (zip ws vs) =
    position_from_yields_List exceeds c.position.new.self _ c.position.result c.position.ensures.ran
    (YieldsList-from_zip (YieldsList-from_slice ws cc) (YieldsList-from_slice vs cc)) (λ x b q k. search (rules, tests)) in
    c.unwrap_or.ensures ∙ ap (λ r. unwrap_or r (length ws)) first
    ∙ fitting-position ws vs
    ∙ ap (λ ws. fitting ws vs) c.widths-widths.ensures
