-- From a word's start to what is behind it: one word more is counted, and one fewer is left. Assumes nothing.
use Rattle.std.proofs.Common.{arith, length, length-drop, ap}
use Rattle.std.proofs.lemmas.List.Sums.{prefix_len-le-length}
use Rattle.std.specs.List.{prefix_len}
use Rattle.words.specs.Words.{is_letter}
use Rattle.words.proofs.Runs.{word-ahead}
use Rattle.words.proofs.count.Goals as goal

pub loop-begun-preserved : goal.loop-begun-preserved
loop-begun-preserved c =
    let l = c.loop-begun in
    let begun = c.in-Some.begun.now in
    let same = c.in-Some.ensures.cases in
    let here = word-ahead begun same.1 in
    let on = c.behind_word-rest.ensures in
    record {
      small = rw on (omega (arith, length-drop (prefix_len is_letter begun) begun, prefix_len-le-length is_letter begun, same.1, c.in-Some.ensures.no_longer, l.invariant.small));
      all = rw on (omega (arith, ap length here, ap length same.0, l.invariant.all));
    }
