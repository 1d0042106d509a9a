-- What the contracts say, about their own text (`Post`, as the check reads it: the arguments a, the result r, and the parameters at
-- exit s): each part of a layout is the entry's, of the very type, and a field's place is in the very widths of the layout.
-- Assumes nothing.
use Prim.Native.Nat.{◌+◌, ◌-◌}
use mathlib.Core.Path.{◌≡◌}
use mathlib.Core.Bool.{cond}
use mathlib.Core.List.{◌++◌}
use lib.ListN.{length, get_or, take, replicate}
use Rattle.std.proofs.Common.{Some, None}
use Rattle.satellites.specs.Satellites.{type_byte_at}
use Rattle.layouts.specs.Layouts.{carries, entry_of, total}
use Rattle.layouts.proofs.of.Reads as layout
use Rattle.layouts.proofs.Layout.width.Reads as width
use Rattle.layouts.proofs.Layout.start.Reads as start
use Rattle.layouts.proofs.Layout.first_behind_clock.Reads as first-behind-clock

pub of-says : (κs a r s : _) → layout.Post κs a r s
    → r ≡ cond (carries a.0 a.1.0)
    (Some (record {
      fields = length (entry_of a.0 a.1.0).widths;
      size = (entry_of a.0 a.1.0).size;
      frame = type_byte_at a.0 + (entry_of a.0 a.1.0).size;
      clock = (entry_of a.0 a.1.0).clock;
      widths = (entry_of a.0 a.1.0).widths ++ replicate (95 - length (entry_of a.0 a.1.0).widths) 0;
    })) None
of-says κs a r s p = p

pub width-says : (κs a r s : _) → width.Post κs a r s → r ≡ get_or a.0.widths a.1.0 0
width-says κs a r s p = p

pub start-says : (κs a r s : _) → start.Post κs a r s → r ≡ total (take a.1.0 a.0.widths)
start-says κs a r s p = p

pub first-behind-clock-says : (κs a r s : _) → first-behind-clock.Post κs a r s → r ≡ cond a.0.clock 1 0
first-behind-clock-says κs a r s p = p
