-- The letters ahead end at the first blank, or at the end. Assumes nothing.
use Rattle.std.proofs.Common.{rules, tests, arith, sym}
use Rattle.std.proofs.lemmas.Iterator.{YieldsList-from_slice}
use Rattle.std.proofs.lemmas.Iterator.Search.{position_from_yields_List}
use Rattle.std.proofs.lemmas.List.{take_rest}
use Rattle.std.proofs.Math.ListN.{drop_of_length-le}
use Rattle.words.proofs.Runs.{is_blank, letters-end, letters-only}
use Rattle.words.proofs.behind_word.Goals as goal

pub returns-in-Some : goal.returns-in-Some
returns-in-Some c =
    let text = c.args.text.now in
    let found = position_from_yields_List is_blank _ _ c.position.result c.position.ensures.ran (YieldsList-from_slice text cc) (λ x b q k. search (rules, tests)) in
    rw (letters-end text c.position.result found c.in-Some.end c.in-Some.is) (take_rest text c.in-Some.end)

pub returns-in-None : goal.returns-in-None
returns-in-None c =
    let text = c.args.text.now in
    let found = position_from_yields_List is_blank _ _ c.position.result c.position.ensures.ran (YieldsList-from_slice text cc) (λ x b q k. search (rules, tests)) in
    sym (drop_of_length-le text (omega (arith, letters-only text c.position.result found c.in-None.is)))
