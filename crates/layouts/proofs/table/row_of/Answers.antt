-- The row that the search finds is that of the entry.
use Rattle.std.proofs.Common.{eqb, get_or, rules}
use Rattle.std.proofs.lemmas.Iterator.{YieldsList-from_slice}
use Rattle.std.proofs.lemmas.Iterator.Search.{find_from_yields_List}
use borrow.Author.Tests.{tests}
use Rattle.layouts.specs.Layouts.{entries_of}
use Rattle.layouts.proofs.Found.{row-found}
use Rattle.layouts.proofs.table.row_of.Goals as goal

pub returns : goal.returns
returns c =
    let t = c.args.ty in
    let rows = c.rows_of.result.now in
    row-found t rows c.find.result
    (find_from_yields_List (λ row. eqb (get_or row 0 0) t) _ _ c.find.result c.find.ensures.ran (YieldsList-from_slice rows cc)
    (λ x b q k. search (rules, tests)))
    (entries_of c.args.satellite) c.rows_of.ensures
