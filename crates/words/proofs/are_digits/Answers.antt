-- The library's `all` asks of each letter what the definition does. Assumes nothing.
use Rattle.std.proofs.Common.{rules, tests}
use lib.Dec.{ltb}
use Rattle.std.proofs.lemmas.Iterator.{YieldsList-from_slice}
use Rattle.std.proofs.lemmas.Iterator.Search.{all_from_yields_List}
use Rattle.words.specs.Numbers.{digit_of, are_digits}
use Rattle.words.proofs.are_digits.Goals as goal

pub returns-clause-value : goal.returns-clause-value
unfolding are_digits
returns-clause-value c =
    all_from_yields_List (λ x. ltb (digit_of x) c.args.base) _ _ c.all.result c.all.ensures.ran (YieldsList-from_slice c.args.text.now cc) (λ x b q k. search (rules, tests))
