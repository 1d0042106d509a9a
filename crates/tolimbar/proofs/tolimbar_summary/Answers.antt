-- `tolimbar::tolimbar_summary` meets its contract: a place is one of ten.
-- Assumes nothing.
use Rattle.std.proofs.Common.{ap, arith}
use Rattle.std.proofs.lemmas.Grind.{common_steps}
use Rattle.temperatures.specs.Summaries.{Day}
use Rattle.temperatures.proofs.Told.{place-small}
use Rattle.tolimbar.proofs.tolimbar_summary.Goals as goal

pub overflow_cast-result : goal.overflow_cast-result
overflow_cast-result c =
    let told = ap (λ (d : Day). d.place) c.in-Err.ensures.value in
    omega (arith, told, c.place.ensures, place-small c.args.codes.now)

pub returns-in-Ok-clause-degrees_after : goal.returns-in-Ok-clause-degrees_after
returns-in-Ok-clause-degrees_after c = grind (arith, common_steps)
