-- Nothing is asked of a caller: `Pre`, what the contract requires, holds of all arguments, for each reader whose type lives through the
-- call, as a type parameter always does; standard input is one. Where nothing has to be read (`ready`), any two results that the contract
-- allows are equal. Elsewhere more is read, and what comes from the reader no contract can say: there it allows more than one result.
-- Assumes nothing.
use contract.BorrowLft.{◌⊑◌}
use contract.Lifetimes.{Lfts}
use denote.RattleType.{RattleType}
use mathlib.Core.List.{not-mem-nil}
use mathlib.Core.Path.{◌≡◌, ◌∙◌, sym}
use mathlib.Core.Bool.{true}
use Rattle.std.specs.contracts.io.Stdin as stdin
use Rattle.input.specs.Lines.{ready}
use Rattle.input.proofs.next.Reads as next

pub next-asks-nothing : (R : RattleType) (laws read dict : _) (κs : Lfts 5) (a : _)
    → κs.1.1.1.1.0 ⊑ R.lives → next.Pre R laws read dict κs a
next-asks-nothing R laws read dict κs a lives = lives

pub next-asks-nothing-of-stdin : (laws read dict κs a : _) → next.Pre stdin.the_row laws read dict κs a
next-asks-nothing-of-stdin laws read dict κs a = λ k m. absurd (not-mem-nil m)

pub next-determined-when-ready : (R laws read dict κs a r s r' s' : _) → next.Post R laws read dict κs a r s
    → next.Post R laws read dict κs a r' s'
    → ready a.1.0.now a.1.1.1.0.now ≡ true
    → (r ≡ r') × ((s.0.now ≡ s'.0.now) × ((s.1.0.now ≡ s'.1.0.now) × ((s.1.1.0.now ≡ s'.1.1.0.now) × (s.1.1.1.0.now ≡ s'.1.1.1.0.now))))
next-determined-when-ready R laws read dict κs a r s r' s' p q h =
    let f = p.1.1.1.0 h in
    let g = q.1.1.1.0 h in
    (f.0 ∙ sym g.0, (p.1.1.1.1 h ∙ sym (q.1.1.1.1 h), (f.1.1.1 ∙ sym g.1.1.1, (f.1.1.0 ∙ sym g.1.1.0, f.1.0 ∙ sym g.1.0))))
