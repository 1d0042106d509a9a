-- The field tables are the paper's, line for line; and so is the printed table, computed from them: one line for each satellite and
-- type, in that order.
-- Assumes nothing.
use mathlib.Core.Path.{◌≡◌, refl}
use Rattle.satellites.specs.Satellites.{seven}
use Rattle.layouts.specs.Layouts.{among, carried_by, counted, found, table}
use Rattle.layouts.specs.Paper.{field_tables, printed_table, lines, lines_of}

pub fields-as-printed : table ≡ field_tables
unfolding table counted
fields-as-printed = refl

pub as-printed : lines seven ≡ printed_table
unfolding lines lines_of table counted among carried_by found
as-printed = refl
