-- A field's name in its row is the field's name. Assumes nothing.
use Rattle.names.proofs.Rows.{written-in-row}
use Rattle.names.proofs.of.Goals as goal

pub returns : goal.returns
returns c = simp (c.row.ensures, written-in-row) at c.in_row.ensures.value
