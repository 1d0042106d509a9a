-- The clock: where a row starts with one, there is a first field, it is 32 bits wide, and the next field begins behind it. This is one
-- test, computed over the whole table, and a law for each entry, of a type that is not carried too.
-- Assumes nothing.
use Prim.Native.Nat.{ℕ, ◌*◌}
use native.Mathlib.Omega.{arith}
use mathlib.Core.Path.{◌≡◌, refl}
use mathlib.Core.Bool.{Bool, true, false}
use mir.Facts.{and_yes}
use lib.Dec.{T, ltb, eqb, ltb→lt, eqb→eq}
use lib.ListN.{length}
use Rattle.satellites.specs.declared.Satellite.{Satellite}
use Rattle.layouts.specs.Layouts.{carries, counted, Entry, entry_of, first_behind_clock, start_at, table, total, width_at}
use Rattle.layouts.specs.Rules.{ClockFirst, clock_first, every}
use Rattle.layouts.proofs.Entries.{rule, no-entry}
use Rattle.layouts.proofs.Places.{start-next}

-- the test
all-clocks-first : T (every (λ l. clock_first l.entry) table)
unfolding every table counted
all-clocks-first = tt

-- what it says where it passes
holds : (e : Entry) → T (clock_first e) → ClockFirst e
holds e passed clock =
    let n = length e.widths in
    let w = width_at e.widths 0 in
    let both = and_yes (ltb 0 n) (eqb w 32) (rw clock at passed) in
    (ltb→lt 0 n both.0, eqb→eq w 32 both.1)

-- a clock is a field, the first, and 32 bits wide
pub clock-first : (s : Satellite) (t : ℕ) → ClockFirst (entry_of s t)
clock-first s t = holds (entry_of s t) (go (carries s t) refl)
  where
    go : (b : Bool) → carries s t ≡ b → T (clock_first (entry_of s t))
    go true e = rule clock_first all-clocks-first s t e
    go false e = rw (no-entry s t e) tt

-- the first field behind the clock starts where the clock ends, and with no clock at the body's start
pub start-behind-clock : (s : Satellite) (t : ℕ)
    → start_at (entry_of s t).widths (first_behind_clock (entry_of s t).clock) ≡ 32 * first_behind_clock (entry_of s t).clock
unfolding total
start-behind-clock s t = go (entry_of s t) (clock-first s t) (entry_of s t).clock refl
  where
    go : (e : Entry) → ClockFirst e → (b : Bool) → e.clock ≡ b
        → start_at e.widths (first_behind_clock b) ≡ 32 * first_behind_clock b
    go e first true clock = omega (arith, start-next e.widths 0, first clock)
    go e first false clock = refl
