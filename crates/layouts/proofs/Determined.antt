-- Any two results that a public function's contract allows for one input are equal. `Post` is the contract's own text, as
-- the check reads it.
-- And nothing is asked of a caller: `Pre`, what the contract requires, holds of all arguments.
-- Assumes nothing.
use mathlib.Core.Path.{◌≡◌, sym, ◌∙◌}
use Rattle.layouts.proofs.of.Reads as layout
use Rattle.layouts.proofs.Layout.width.Reads as width
use Rattle.layouts.proofs.Layout.start.Reads as start
use Rattle.layouts.proofs.Layout.first_behind_clock.Reads as first-behind-clock

pub of-determined : (κs a r r' s s' : _) → layout.Post κs a r s → layout.Post κs a r' s' → r ≡ r'
of-determined κs a r r' s s' p q = p ∙ sym q

pub width-determined : (κs a r r' s s' : _) → width.Post κs a r s → width.Post κs a r' s' → r ≡ r'
width-determined κs a r r' s s' p q = p ∙ sym q

pub start-determined : (κs a r r' s s' : _) → start.Post κs a r s → start.Post κs a r' s' → r ≡ r'
start-determined κs a r r' s s' p q = p ∙ sym q

pub first-behind-clock-determined : (κs a r r' s s' : _) → first-behind-clock.Post κs a r s → first-behind-clock.Post κs a r' s' → r ≡ r'
first-behind-clock-determined κs a r r' s s' p q = p ∙ sym q

pub layout-asks-nothing : (κs a : _) → layout.Pre κs a
layout-asks-nothing κs a = tt

pub width-asks-nothing : (κs a : _) → width.Pre κs a
width-asks-nothing κs a = tt

pub start-asks-nothing : (κs a : _) → start.Pre κs a
start-asks-nothing κs a = tt

pub first-behind-clock-asks-nothing : (κs a : _) → first-behind-clock.Pre κs a
first-behind-clock-asks-nothing κs a = tt
