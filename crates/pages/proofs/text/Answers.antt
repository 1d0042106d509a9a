-- The page is what the contract says where no letter or no place is left, and where the letters that fit are put at once. Assumes nothing.
use Rattle.std.proofs.Common.{rules, tests, arith, sym, ◌≡◌, ◌+◌, ◌-◌}
use Rattle.pages.proofs.Laws.{put-empty, put_full, put-fit}
use Rattle.pages.proofs.text.Goals as goal

pub returns-then-is_empty-clause-page_after : goal.returns-then-is_empty-clause-page_after
returns-then-is_empty-clause-page_after c = sym (put-empty c.args.page.now c.args.at c.args.text.now (search (rules, tests)))

pub returns-then-page-at-clause-page_after : goal.returns-then-page-at-clause-page_after
returns-then-page-at-clause-page_after c = sym (put_full c.args.page.now c.args.at c.args.text.now (omega arith))

pub returns-clause-page_after : goal.returns-clause-page_after
returns-clause-page_after c =
    let a = c.args in
    let size : a.at + c.min-fit.result - a.at ≡ c.min-fit.result = omega arith in
    rw (size, c.copy_from_slice.ensures.after) (put-fit a.page.now a.text.now a.at c.min-fit.result (omega arith))
