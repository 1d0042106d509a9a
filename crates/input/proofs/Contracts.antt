-- What the contract says, about its own text (`Post`, as the check reads it: the reader's type, laws, ghost members and methods, then the
-- arguments a, the result r, and the parameters at exit s): the letters that are told lie inside the line, and both buffers keep their
-- lengths. Where nothing has to be read (`ready`), the answer, the place and both buffers are those of the definitions, for the part, the
-- line and the place as they were given, and the reader stays as it was.
-- Assumes nothing.
use mathlib.Core.Path.{◌≡◌}
use mathlib.Core.Bool.{true}
use Prim.Native.Nat.{◌≤◌}
use lib.ListN.{length}
use Rattle.std.proofs.Common.{IfSome, IfOk}
use Rattle.pages.specs.Pages.{put}
use Rattle.input.specs.Lines.{ready, line_of, next_place, found}
use Rattle.input.proofs.next.Reads as next

pub next-says : (R laws read dict κs a r s : _) → next.Post R laws read dict κs a r s
    → IfSome r (λ told. IfOk told (λ letters. letters ≤ length s.1.1.0.now))
    × ((length s.1.1.0.now ≡ length a.1.1.0.now)
    × ((length s.1.0.now ≡ length a.1.0.now)
    × ((ready a.1.0.now a.1.1.1.0.now ≡ true
    → (r ≡ found (length a.1.1.0.now) a.1.0.now a.1.1.1.0.now)
    × ((s.1.1.1.0.now ≡ next_place a.1.0.now a.1.1.1.0.now)
    × ((s.1.1.0.now ≡ put a.1.1.0.now 0 (line_of a.1.0.now a.1.1.1.0.now))
    × (s.1.0.now ≡ a.1.0.now))))
    × (ready a.1.0.now a.1.1.1.0.now ≡ true → s.0.now ≡ a.0.now))))
next-says R laws read dict κs a r s p = p
