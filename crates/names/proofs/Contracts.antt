-- What the contracts say, about their own text (`Post`, as the check reads it: the arguments a, the result r, and the parameters at
-- exit s): the definitions of the very satellite, type, field and row that the call was given, uncut. `written-in-row` in Rows.antt says that
-- `in_row`, asked about the row that `row` answers, answers what `of` does.
-- Assumes nothing.
use mathlib.Core.Path.{◌≡◌}
use mathlib.Core.List.{[]}
use lib.ListN.{get_or}
use Rattle.names.specs.Names.{parts_of, written}
use Rattle.names.specs.Fields.{satellite_name, names_of, name_of, joined_names}
use Rattle.names.proofs.of.Reads as name
use Rattle.names.proofs.in_row.Reads as in_row
use Rattle.names.proofs.row.Reads as row
use Rattle.names.proofs.of_satellite.Reads as satellite

pub of-says : (κs a r s : _) → name.Post κs a r s → r.now ≡ name_of a.0 a.1.0 a.1.1.0
of-says κs a r s p = p

pub in-row-says : (κs a r s : _) → in_row.Post κs a r s
    → (r.now ≡ written (get_or (parts_of 32 a.0.now) a.1.0 [])) × (s.0.now ≡ a.0.now)
in-row-says κs a r s p = p

pub row-says : (κs a r s : _) → row.Post κs a r s → r.now ≡ joined_names (names_of a.0 a.1.0)
row-says κs a r s p = p

pub of-satellite-says : (κs a r s : _) → satellite.Post κs a r s → r.now ≡ satellite_name a.0
of-satellite-says κs a r s p = p
