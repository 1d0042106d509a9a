-- Two digits make a byte, and one byte more is put; each refusal is its cause's. Assumes nothing.
use Rattle.std.proofs.Common.{arith, tests, ◌≡◌, ◌+◌, ◌*◌, ◌/◌, ◌<◌, get_or, length, sym, ◌∙◌}
use Rattle.words.specs.Numbers.{bytes_of}
use Rattle.words.proofs.Hex.{letter-small, byte-is, put_next, all-put, not-digits, odd, too_many, they-are}
use Rattle.words.proofs.pairs.Goals as goal

pub returns-then-not-are_digits-clause-value : goal.returns-then-not-are_digits-clause-value
returns-then-not-are_digits-clause-value c = not-digits c.args.text.now c.args.out.now (sym c.if-not-are_digits.ensures.value)

pub returns-then-not-is_empty-clause-value : goal.returns-then-not-is_empty-clause-value
returns-then-not-is_empty-clause-value c =
    odd c.args.text.now c.args.out.now (sym c.if-not-are_digits.ensures.value) (omega (arith, tests))

pub returns-then-out-n-clause-value : goal.returns-then-out-n-clause-value
returns-then-out-n-clause-value c =
    too_many c.args.text.now c.args.out.now (sym c.if-not-are_digits.ensures.value) (omega (arith, tests)) (omega arith)

pub returns-clause-value : goal.returns-clause-value
returns-clause-value c =
    rw c.as_chunks.ensures.front_len
    (they-are c.args.text.now c.args.out.now (sym c.if-not-are_digits.ensures.value) (omega (arith, tests)) (omega arith))

pub overflow_mul-out : goal.overflow_mul-out
overflow_mul-out c =
    let pairs = c.as_chunks.ensures.front in
    let inside : c.loop-i.i < length c.args.text.now / 2 = omega arith in
    let high = letter-small c.args.text.now _ pairs c.loop-i.i inside 16 0 (sym c.if-not-are_digits.ensures.value) (omega arith) in
    omega (arith, c.digit.ensures.value, high)

pub overflow_add-out : goal.overflow_add-out
overflow_add-out c =
    let pairs = c.as_chunks.ensures.front in
    let digits = sym c.if-not-are_digits.ensures.value in
    let inside : c.loop-i.i < length c.args.text.now / 2 = omega arith in
    let high = letter-small c.args.text.now _ pairs c.loop-i.i inside 16 0 digits (omega arith) in
    let low = letter-small c.args.text.now _ pairs c.loop-i.i inside 16 1 digits (omega arith) in
    omega (arith, c.digit.ensures.value, high, c.digit-in-loop-i.ensures.value, low)

pub loop-i-preserved : goal.loop-i-preserved
loop-i-preserved c =
    let text = c.args.text.now in
    let i = c.loop-i.i in
    let byte = c.digit.result * 16 + c.digit-in-loop-i.result in
    let inside : i < length text / 2 = omega arith in
    let is : byte ≡ get_or (bytes_of text) i 0
    = rw (byte-is text _ c.as_chunks.ensures.front i inside, c.digit.ensures.value, c.digit-in-loop-i.ensures.value) in
    rw c.loop-i.invariant (put_next text c.args.out.now i byte inside (omega arith) is)

pub returns-clause-out_after : goal.returns-clause-out_after
returns-clause-out_after c =
    c.loop-i.invariant ∙ rw c.as_chunks.ensures.front_len (all-put c.args.text.now c.args.out.now c.loop-i.i (omega arith))
