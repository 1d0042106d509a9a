-- The parts come one after the other, and the one of that number is taken, up to so many letters. Assumes nothing.
use Rattle.std.proofs.Common.{rules, tests, ℕ, List, [], length, Bor, Option, Some, None, refl, ap, ◌≡◌, ◌∙◌, ◌==◌}
use Rattle.std.proofs.lemmas.List.{take_min}
use Rattle.std.proofs.lemmas.Option.{unwrap_or-slice_get}
use Rattle.std.proofs.lemmas.Iterator.Consumers.{nth_from_yields_List}
use Rattle.std.proofs.lemmas.Iterator.Splits.{YieldsList-from_slice_split}
use Rattle.std.proofs.Math.Nat.{min_comm}
use Rattle.std.specs.List.{slice_get}
use Rattle.std.specs.Option.{option_map, unwrap_or}
use Rattle.names.specs.Names.{parts_of, written, most_letters}
use Rattle.names.proofs.in_row.Goals as goal

letters-of : (part : Option (Bor (List ℕ))) (none : Bor (List ℕ)) → none.now ≡ [] → (unwrap_or part none).now ≡ unwrap_or (option_map (λ r. r.now) part) []
letters-of None none h = h
letters-of (Some part) none h = refl

pub returns-clause-value : goal.returns-clause-value
returns-clause-value c =
    let split = c.split.ensures in
    let parts = parts_of 32 c.args.row.now in
    let part : option_map (λ (r : Bor (List ℕ)). r.now) c.nth.result ≡ slice_get parts c.args.field =
    nth_from_yields_List _ _ _ c.nth.ensures.ran
    (YieldsList-from_slice_split _ (λ (x : ℕ). x == 32) c.args.row.now split.rest split.done split.closure (λ x r q k. search (rules, tests))) in
    let name = ap (λ (r : Bor (List ℕ)). r.now) c.unwrap_or-name.ensures ∙ letters-of c.nth.result _ refl
    ∙ ap (λ (r : Option (List ℕ)). unwrap_or r []) part ∙ unwrap_or-slice_get parts c.args.field [] in
    rw (c.min.ensures ∙ min_comm (length c.unwrap_or-name.result.now) most_letters) (take_min most_letters c.unwrap_or-name.result.now ∙ ap written name)
