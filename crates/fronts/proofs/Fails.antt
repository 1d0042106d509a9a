-- Tests 2 to 7: what is answered where one of them fails first, and where none does.
-- Assumes nothing.
use Prim.{⊥}
use Prim.Native.Nat.{ℕ}
use mathlib.Core.Path.{◌≡◌, refl, sym, ◌∙◌, ap, ap₂}
use mathlib.Core.Bool.{Bool, true, false, not, ◌||◌}
use mathlib.Core.List.{List}
use lib.Dec.{eqb}
use lib.ListN.{length}
use borrow.Author.Tests.{eq-eqb, ne_eqb}
use Rattle.std.specs.Prelude.{Result, Ok, Err}
use Rattle.satellites.specs.declared.Satellite.{Satellite}
use Rattle.satellites.specs.Satellites.{size_byte_of}
use Rattle.refusals.specs.declared.Refusal.{Refusal}
use Rattle.refusals.specs.declared.Refusal.TheVariants.{Short, Preamble, Address, NotCarried, Size, Length}
use Rattle.refusals.specs.Tests.{answer_by}
use Rattle.refusals.proofs.Answered.{ok-told, behind-value, behind-refusal}
use Rattle.frames.specs.Frames.{frame_length, size_in, type_of, entry_in}
use Rattle.frames.specs.Reading.{front_tests, whole_tests}
use Rattle.frames.proofs.Fronts.{long, preamble, addressed, carried, sized}
use Rattle.fronts.specs.declared.Front.{Front}
use Rattle.fronts.specs.Fronts.{front_in, tested_by}

module _ (s : Satellite) (frame : List ℕ) where
  -- test 6, by whether there is a size byte
  pub size-differs : size_byte_of s ≡ true → (size_in s frame ≡ (entry_in s frame).size → ⊥) → sized s frame ≡ false
  size-differs has other =
      ap₂ (λ (b d : Bool). not b || d) has (ne_eqb (size_in s frame) (entry_in s frame).size other)

  pub size-agrees : size_in s frame ≡ (entry_in s frame).size → sized s frame ≡ true
  size-agrees same_size =
      ap (λ (d : Bool). not (size_byte_of s) || d) (eq-eqb (size_in s frame) (entry_in s frame).size same_size) ∙ either (size_byte_of s)
    where
      either : (b : Bool) → not b || true ≡ true
      either true = refl
      either false = refl

  pub no-size-byte : size_byte_of s ≡ false → sized s frame ≡ true
  no-size-byte none = ap (λ (b : Bool). not b || eqb (size_in s frame) (entry_in s frame).size) none

  abbrev pub answered : Result Front Refusal → Type 0
  answered result = result ≡ tested_by (front_tests s frame) s frame

  -- each that fails first
  pub fails-2 : long s frame ≡ false → answered (Err Short)
  unfolding front_tests answer_by
  fails-2 e = rw e

  pub fails-3 : long s frame ≡ true → preamble s frame ≡ false → answered (Err Preamble)
  unfolding front_tests answer_by
  fails-3 a e = rw (a, e)

  pub fails-4 : long s frame ≡ true → preamble s frame ≡ true → addressed s frame ≡ false → answered (Err Address)
  unfolding front_tests answer_by
  fails-4 a b e = rw (a, b, e)

  -- tests 2 to 4 hold
  abbrev pub Addressed : Type 0
  Addressed = (long s frame ≡ true) × ((preamble s frame ≡ true) × (addressed s frame ≡ true))

  pub fails-5 : Addressed → carried s frame ≡ false → answered (Err NotCarried)
  unfolding front_tests answer_by
  fails-5 a e = rw (a.0, a.1.0, a.1.1, e)

  pub fails-6 : Addressed → carried s frame ≡ true → sized s frame ≡ false → answered (Err Size)
  unfolding front_tests answer_by
  fails-6 a d e = rw (a.0, a.1.0, a.1.1, d, e)

  -- and where none fails
  pub passes : Addressed → carried s frame ≡ true → sized s frame ≡ true → answered (Ok (front_in s frame))
  unfolding front_tests answer_by
  passes a d e = rw (a.0, a.1.0, a.1.1, d, e)

  -- what is told of an accepted front
  pub is-front : (front : Front) → answered (Ok front) → (front ≡ front_in s frame) × answered (Ok (front_in s frame))
  is-front front e =
      let its = (ok-told 0 (front_in s frame) (front_tests s frame) front e).1 in (its, ap Ok (sym its) ∙ e)

  -- test 7, behind them
  abbrev pub answered-whole : Result Front Refusal → Type 0
  answered-whole result = result ≡ tested_by (whole_tests s frame) s frame

  pub front-refused : (refusal : Refusal) → answered (Err refusal) → answered-whole (Err refusal)
  unfolding whole_tests
  front-refused refusal e = sym (behind-refusal 0 (front_in s frame) (front_tests s frame) _ refusal (sym e))

  module _ (front : answered (Ok (front_in s frame))) where
    pub fails-7 : (length frame ≡ frame_length s (type_of s frame) → ⊥) → answered-whole (Err Length)
    unfolding whole_tests answer_by
    fails-7 other =
        sym (behind-value 0 (front_in s frame) (front_tests s frame) _ (sym front)
        ∙ rw (ne_eqb (length frame) (frame_length s (type_of s frame)) other))

    pub whole-passes : length frame ≡ frame_length s (type_of s frame) → answered-whole (Ok (front_in s frame))
    unfolding whole_tests answer_by
    whole-passes long =
        sym (behind-value 0 (front_in s frame) (front_tests s frame) _ (sym front)
        ∙ rw (eq-eqb (length frame) (frame_length s (type_of s frame)) long))
