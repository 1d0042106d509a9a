-- The width of that number, and 0 where there is none. Assumes nothing.
use Rattle.std.proofs.Common.{arith}
use Rattle.std.proofs.lemmas.Grind.{common_steps}
use Rattle.std.proofs.lemmas.Option.{gets}
use Rattle.layouts.proofs.Layout.width.Goals as goal

pub returns : goal.returns
returns c = grind (arith, common_steps, gets)
