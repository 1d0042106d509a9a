-- What the library finds, or the text's end, is the place. Assumes nothing.
use Rattle.std.proofs.Common.{rules, tests, eqb, ◌∙◌}
use Rattle.std.proofs.lemmas.Iterator.{YieldsList-from_slice}
use Rattle.std.proofs.lemmas.Iterator.Search.{position_from_yields_List}
use Rattle.pages.proofs.Places.{answer_is}
use Rattle.pages.proofs.find.Goals as goal

pub returns-clause-value : goal.returns-clause-value
returns-clause-value c =
    c.unwrap_or.ensures
    ∙ answer_is c.args.letter c.args.text.now c.position.result
    (position_from_yields_List (λ y. eqb y c.args.letter) _ _ c.position.result c.position.ensures.ran
    (YieldsList-from_slice c.args.text.now c.iter.ensures.rest)
    (λ x b q k. search (rules, tests)))
