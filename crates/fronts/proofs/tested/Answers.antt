-- The refusal of the first test that fails, and what is told of the type where none does.
use Rattle.std.proofs.Common.{◌≡◌, ℕ, List, ◌-◌, ◌%◌, ◌≤◌, ◌<◌, length, get_or, true, false, sym, ◌∙◌, ap, ap₂, arith, Bool, Option, None, Ok, Err}
use borrow.Author.Tests.{lt-ltb, le-ltb, eq-eqb, ne_eqb}
use Rattle.satellites.specs.declared.Satellite.{Satellite}
use Rattle.satellites.specs.Satellites.{address_of, type_byte_at}
use Rattle.layouts.specs.declared.Layout.{Layout}
use Rattle.layouts.specs.Layouts.{layout_of, laid_out}
use Rattle.refusals.specs.declared.Refusal.TheVariants.{NotCarried}
use Rattle.refusals.proofs.Answered.{handed-on, none-found, some-found}
use Rattle.std.specs.Option.{ok_or}
use Rattle.layouts.proofs.Laid.{some-layout, none-layout}
use Rattle.frames.specs.Frames.{size_in, from_type_byte, address_in, type_of, entry_in}
use Rattle.frames.proofs.Fronts.{first-at, long, preamble, addressed, carried, sized}
use Rattle.fronts.proofs.Fails.{size-differs, size-agrees, no-size-byte, fails-2, fails-3, fails-4, fails-5, fails-6, Addressed, passes}
use Rattle.fronts.proofs.tested.Goals as goal
use Rattle.fronts.proofs.tested.Goals.{else-has_size_byte-via-then-has_size_byte+else-frame-at-3, else-has_size_byte-via-else-has_size_byte}

-- what the call is given, and where the type byte stands
module _ (s : Satellite) (frame : List ℕ) (at : ℕ) (place : at ≡ type_byte_at s) where
  -- the address that came
  sent : address_in (from_type_byte s frame) ≡ get_or frame at 0 % 16
  sent = ap (λ (b : ℕ). b % 16) (first-at (type_byte_at s) frame) ∙ ap (λ (k : ℕ). get_or frame k 0 % 16) (sym place)

  -- the byte ahead of the type byte
  size-byte : get_or frame (at - 1) 0 ≡ size_in s frame
  size-byte = ap (λ (k : ℕ). get_or frame (k - 1) 0) place

  is-short : length frame ≤ at → long s frame ≡ false
  is-short past = le-ltb (type_byte_at s) (length frame) (omega (arith, past, place))

  is-long : at < length frame → long s frame ≡ true
  is-long past = lt-ltb (type_byte_at s) (length frame) (omega (arith, past, place))

  is-another : (own : ℕ) → own ≡ address_of s → (get_or frame at 0 % 16 ≡ own → ⊥) → addressed s frame ≡ false
  is-another own its other =
      ne_eqb (address_in (from_type_byte s frame)) (address_of s) (λ e. other (sym sent ∙ e ∙ sym its))

  is-addressed : at < length frame → (right : Bool) → right ≡ preamble s frame → right ≡ true
      → (own : ℕ) → own ≡ address_of s → get_or frame at 0 % 16 ≡ own → Addressed s frame
  is-addressed past right is holds own its same =
      (is-long past, (sym is ∙ holds, eq-eqb (address_in (from_type_byte s frame)) (address_of s) (sent ∙ same ∙ its)))

  -- the type that came, and what is told of it
  is-told : (ty : ℕ) → ty ≡ type_of s frame → (told : Option Layout) → told ≡ layout_of s ty → (l : Layout) → Ok l ≡ ok_or told NotCarried
      → (carried s frame ≡ true) × (l ≡ laid_out s (entry_in s frame))
  is-told ty typed told is l found =
      some-layout s (type_of s frame) l (ap (layout_of s) (sym typed) ∙ sym is ∙ some-found told NotCarried l found)

  is-untold : (ty : ℕ) → ty ≡ type_of s frame → (told : Option Layout) → told ≡ layout_of s ty → told ≡ None → carried s frame ≡ false
  is-untold ty typed told is none = none-layout s (type_of s frame) (ap (layout_of s) (sym typed) ∙ sym is ∙ none)

pub returns-then-frame-at-clause-value : goal.returns-then-frame-at-clause-value
returns-then-frame-at-clause-value c =
    let a = c.args in
    let at = c.type_byte_at-at in
    fails-2 a.satellite a.frame.now (is-short a.satellite a.frame.now at.result at.ensures c.if-frame-at.true)

pub returns-then-not-is_right-clause-value : goal.returns-then-not-is_right-clause-value
returns-then-not-is_right-clause-value c =
    let a = c.args in
    let at = c.type_byte_at-at in
    fails-3 a.satellite a.frame.now (is-long a.satellite a.frame.now at.result at.ensures c.if-frame-at.false)
    (sym c.is_right.ensures ∙ c.if-not-is_right.true)

pub returns-then-frame-at-2-clause-value : goal.returns-then-frame-at-2-clause-value
returns-then-frame-at-2-clause-value c =
    let a = c.args in
    let at = c.type_byte_at-at in
    fails-4 a.satellite a.frame.now (is-long a.satellite a.frame.now at.result at.ensures c.if-frame-at.false)
    (sym c.is_right.ensures ∙ c.if-not-is_right.false)
    (is-another a.satellite a.frame.now at.result at.ensures c.address.result c.address.ensures c.if-frame-at-2.true)

pub returns-in_err-layout-clause-value : goal.returns-in_err-layout-clause-value
returns-in_err-layout-clause-value c =
    let a = c.args in
    let at = c.type_byte_at-at in
    let ty = c.type_sent-ty in
    let found = c.in_err-layout.field-0.0 in
    let none = none-found c.of.result NotCarried found c.in_err-layout.ensures.value in
    handed-on c.from_residual.result found c.from_residual.ensures.1
    ∙ ap Err none.1
    ∙ fails-5 a.satellite a.frame.now
    (is-addressed a.satellite a.frame.now at.result at.ensures c.if-frame-at.false c.is_right.result c.is_right.ensures
    c.if-not-is_right.false c.address.result c.address.ensures c.if-frame-at-2.false)
    (is-untold a.satellite a.frame.now at.result at.ensures ty.result ty.ensures.value c.of.result c.of.ensures none.0)

pub returns-then-frame-at-3-clause-value : goal.returns-then-frame-at-3-clause-value
returns-then-frame-at-3-clause-value c =
    let a = c.args in
    let at = c.type_byte_at-at in
    let ty = c.type_sent-ty in
    let ahead = is-addressed a.satellite a.frame.now at.result at.ensures c.if-frame-at.false c.is_right.result c.is_right.ensures
    c.if-not-is_right.false c.address.result c.address.ensures c.if-frame-at-2.false in
    let its = is-told a.satellite a.frame.now at.result at.ensures ty.result ty.ensures.value c.of.result c.of.ensures
    c.in_ok-layout.layout c.in_ok-layout.ensures.value in
    let has = sym c.has_size_byte.ensures ∙ c.if-has_size_byte.true in
    let here = size-byte a.satellite a.frame.now at.result at.ensures in
    fails-6 a.satellite a.frame.now ahead its.0
    (size-differs a.satellite a.frame.now has (λ e. c.if-frame-at-3.true (here ∙ e ∙ sym (ap (λ l. l.size) its.1))))

pub returns-clause-value : goal.returns-clause-value
returns-clause-value c =
    let a = c.args in
    let at = c.type_byte_at-at in
    let ty = c.type_sent-ty in
    let ahead = is-addressed a.satellite a.frame.now at.result at.ensures c.if-frame-at.false c.is_right.result c.is_right.ensures
    c.if-not-is_right.false c.address.result c.address.ensures c.if-frame-at-2.false in
    let its = is-told a.satellite a.frame.now at.result at.ensures ty.result ty.ensures.value c.of.result c.of.ensures
    c.in_ok-layout.layout c.in_ok-layout.ensures.value in
    let here = size-byte a.satellite a.frame.now at.result at.ensures in
    let is-sized : sized a.satellite a.frame.now ≡ true = elim c.else-has_size_byte.branch [
      | else-has_size_byte-via-then-has_size_byte+else-frame-at-3 w ↦
          size-agrees a.satellite a.frame.now (sym here ∙ w.if-frame-at-3.false ∙ ap (λ l. l.size) its.1)
      | else-has_size_byte-via-else-has_size_byte w ↦
          no-size-byte a.satellite a.frame.now (sym c.has_size_byte.ensures ∙ w.if-has_size_byte.false)
    ] in
    ap₂ (λ t l. Ok (record { ty = t; layout = l })) ty.ensures.value its.1 ∙ passes a.satellite a.frame.now ahead its.0 is-sized
