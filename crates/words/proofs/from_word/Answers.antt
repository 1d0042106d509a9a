-- Blanks ahead make no word, and where there are no others, there is none. Assumes nothing.
use Rattle.std.proofs.Common.{rules, tests}
use Rattle.std.proofs.lemmas.Iterator.{YieldsList-from_slice}
use Rattle.std.proofs.lemmas.Iterator.Search.{position_from_yields_List}
use Rattle.std.proofs.lemmas.List.{take_rest}
use Rattle.words.specs.Words.{is_letter}
use Rattle.words.proofs.Runs.{no-letter, from-letter}
use Rattle.words.proofs.from_word.Goals as goal

pub returns-in_err-start-clause-cases : goal.returns-in_err-start-clause-cases
returns-in_err-start-clause-cases c =
    let line = c.args.line.now in
    let found = position_from_yields_List is_letter _ _ c.position.result c.position.ensures.ran (YieldsList-from_slice line cc) (λ x b q k. search (rules, tests)) in
    rw c.from_residual.ensures (no-letter line c.position.result found c.in_err-start.was)

pub returns-clause-cases : goal.returns-clause-cases
returns-clause-cases c =
    let line = c.args.line.now in
    let found = position_from_yields_List is_letter _ _ c.position.result c.position.ensures.ran (YieldsList-from_slice line cc) (λ x b q k. search (rules, tests)) in
    rw (take_rest line c.in_ok-start.start) (from-letter line c.position.result found c.in_ok-start.start c.in_ok-start.was)
