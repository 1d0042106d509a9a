-- What is sent from type byte to checksum.
use Rattle.std.specs.Prelude.{ℕ, List}
use Rattle.scrambler.specs.Scrambler.{Register}
use Rattle.layouts.specs.declared.Layout.{Layout}
use Rattle.bodies.specs.Bodies.{laid_from, widths_in}
use Rattle.frames.specs.Frames.{sealed, body_in}

-- values laid into the body of a part, and the part sealed
abbrev pub sent : Register → ℕ → Layout → List ℕ → List ℕ → List ℕ
sent r typed layout values part = sealed r typed (laid_from 0 (widths_in layout) values (body_in part))
