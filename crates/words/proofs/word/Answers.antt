-- From a word's start to what is behind it: the word passed is the first of those that were left. Assumes nothing.
use Rattle.std.proofs.Common.{take, drop, sym, ◌∙◌}
use Rattle.std.specs.List.{prefix_len}
use Rattle.words.specs.Words.{is_letter, words_of}
use Rattle.words.proofs.Runs.{word-ahead, one_fewer}
use Rattle.words.proofs.word.Goals as goal

pub returns-then-left-eq0-clause-result_value : goal.returns-then-left-eq0-clause-result_value
returns-then-left-eq0-clause-result_value c =
    let same = c.in-Some.ensures.cases in
    let here = word-ahead c.in-Some.begun.now same.1 in
    c.first_word.ensures ∙ rw (c.if-left-eq0.true, ← same.0, here) at c.loop-begun.invariant

pub loop-begun-preserved : goal.loop-begun-preserved
loop-begun-preserved c =
    let begun = c.in-Some.begun.now in
    let k = prefix_len is_letter begun in
    let same = c.in-Some.ensures.cases in
    let here = word-ahead begun same.1 in
    let fewer = one_fewer (take k begun) (words_of (drop k begun)) c.loop-begun.left c.if-left-eq0.false in
    rw c.behind_word-rest.ensures (sym fewer ∙ rw (← same.0, here) at c.loop-begun.invariant)
