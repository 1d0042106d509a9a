-- The first line of the satellite's type is found, and the table's lines are the documents': this is computed. Assumes nothing.
use Rattle.std.proofs.Common.{rules, tests, refl, ◌∙◌, ap}
use Rattle.std.proofs.lemmas.Iterator.{YieldsList-from_slice}
use Rattle.std.proofs.lemmas.Iterator.Search.{find_from_yields_List}
use Rattle.refusals.specs.Tests.{same}
use Rattle.layouts.specs.Layouts.{counted}
use Rattle.layouts.specs.Rules.{every}
use Rattle.words.specs.Words.{text}
use Rattle.names.specs.Names.{index, array_of, grid_of}
use Rattle.names.specs.Fields.{table, names_in, joined_names}
use Rattle.names.proofs.Kept.{keeps, is_of, row_kept}
use Rattle.names.proofs.row.Goals as goal

pub returns : goal.returns
unfolding keeps text index array_of grid_of table every same counted
returns c =
    let number = c.number-number.result in
    let ty = c.args.ty in
    let lines = c.iter.result.rest.now in
    let found = find_from_yields_List (is_of number ty) _ _ c.find.result c.find.ensures.ran (YieldsList-from_slice lines refl) (λ x b q k. search (rules, tests)) in
    let row = row_kept number ty lines c.find.result c.map_or.result.now c.iter.ensures.rest tt found c.map_or.ensures (λ e. ap (λ b. b.now) e) (λ w e. search (rules, tests)) in
    row ∙ ap (λ n. joined_names (names_in n ty table)) c.number-number.ensures
