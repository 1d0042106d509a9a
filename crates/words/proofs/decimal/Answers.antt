-- A digit passed keeps the number that is written; a value too great stays too great. Assumes nothing.
use Rattle.std.proofs.Common.{arith, ◌≡◌, ◌+◌, ◌*◌, get_or, sym, ◌∙◌}
use Rattle.words.specs.Numbers.{digit_of}
use Rattle.words.proofs.Numbers.{value-next, digits-next, no-digit, no-digits-left, no-value-left, too_great, empty-none, others-none, great-anyway, digits_number}
use Rattle.words.proofs.decimal.Goals as goal

pub returns-then-is_empty-clause-value : goal.returns-then-is_empty-clause-value
returns-then-is_empty-clause-value c = empty-none c.args.text.now (sym c.if-is_empty.ensures)

pub returns-then-digit-ge10-clause-value : goal.returns-then-digit-ge10-clause-value
returns-then-digit-ge10-clause-value c =
    let l = c.loop-letter in
    let text = c.args.text.now in
    let none = no-digit text l.letter-index c.loop-letter-test.true (omega (arith, c.digit-digit.ensures.value)) in
    others-none text (sym c.if-is_empty.ensures) (sym l.invariant.same_digits ∙ none)

pub returns-in_err-checked_mul-clause-value : goal.returns-in_err-checked_mul-clause-value
returns-in_err-checked_mul-clause-value c =
    let l = c.loop-letter in
    let text = c.args.text.now in
    c.from_residual.ensures ∙ great-anyway text (sym c.if-is_empty.ensures)
    (too_great text l.value l.letter-index c.loop-letter-test.true l.invariant.same_number (omega (arith, c.in_err-checked_mul.ensures)))

pub returns-in_err-value-clause-value : goal.returns-in_err-value-clause-value
returns-in_err-value-clause-value c =
    let l = c.loop-letter in
    let text = c.args.text.now in
    c.from_residual-in_err-value.ensures ∙ great-anyway text (sym c.if-is_empty.ensures)
    (too_great text l.value l.letter-index c.loop-letter-test.true l.invariant.same_number (omega (arith, c.in_ok-checked_mul.ensures, c.digit-digit.ensures.value, c.from.ensures, c.in_err-value.ensures)))

pub loop-letter-preserved : goal.loop-letter-preserved
loop-letter-preserved c =
    let l = c.loop-letter in
    let text = c.args.text.now in
    let next : c.in_ok-value.value ≡ l.value * 10 + digit_of (get_or text l.letter-index 0)
    = omega (arith, c.in_ok-checked_mul.ensures, c.digit-digit.ensures.value, c.from.ensures, c.in_ok-value.ensures) in
    record {
      small = omega (arith, c.in_ok-value.ensures);
      same_digits = digits-next text l.letter-index c.loop-letter-test.true (omega (arith, c.digit-digit.ensures.value)) ∙ l.invariant.same_digits;
      same_number = rw next (value-next text l.letter-index c.loop-letter-test.true l.value ∙ l.invariant.same_number);
    }

pub returns-clause-value : goal.returns-clause-value
returns-clause-value c =
    let l = c.loop-letter in
    let text = c.args.text.now in
    let digits = sym l.invariant.same_digits ∙ no-digits-left text l.letter-index c.loop-letter-test.false in
    let same = sym (no-value-left text l.value l.letter-index c.loop-letter-test.false) ∙ l.invariant.same_number in
    rw same (digits_number text (sym c.if-is_empty.ensures) digits (omega (arith, same)))
