-- What is lent of a whole frame from the type byte's place on: what lies from type byte to checksum, three bytes at least and 255 at most.
-- Assumes nothing.
use Prim.Native.Nat.{ℕ, ◌-◌, ◌≤◌}
use native.Mathlib.Omega.{arith}
use mathlib.Core.Path.{◌≡◌, sym, ◌∙◌, ap, subst}
use mathlib.Core.List.{List}
use lib.ListN.{length, take, drop, length-drop}
use lib.Seq.{take_all}
use Rattle.satellites.specs.declared.Satellite.{Satellite}
use Rattle.satellites.specs.Satellites.{type_byte_at}
use Rattle.layouts.proofs.Entries.{size-most}
use Rattle.refusals.specs.Tests.{refusal}
use Rattle.frames.specs.Frames.{from_type_byte, type_of}
use Rattle.frames.specs.Reading.{whole_tests}
use Rattle.frames.proofs.Fronts.{is-long, is_carried, part_length, part-least}

module _ (s : Satellite) (frame : List ℕ) (whole : refusal (whole_tests s frame) ≡ 0) (n : ℕ) (place : n ≡ type_byte_at s) where
  pub lies-inside : n ≤ length frame
  lies-inside = omega (arith, place, is-long s frame whole)

  abbrev lent : List ℕ
  lent = take (length frame - n) (drop n frame)

  pub lent-part : lent ≡ from_type_byte s frame
  lent-part =
      take_all (length frame - n) (drop n frame) (omega (arith, length-drop n frame)) ∙ ap (λ (m : ℕ). drop m frame) place

  pub lent-least : 3 ≤ length lent
  lent-least = subst (λ (l : List ℕ). 3 ≤ length l) (sym lent-part) (part-least s frame whole)

  pub lent-most : length lent ≤ 255
  lent-most =
      let most : length (from_type_byte s frame) ≤ 255 =
      omega (arith, part_length s frame whole, size-most s (type_of s frame) (is_carried s frame whole)) in
      subst (λ (l : List ℕ). length l ≤ 255) (sym lent-part) most
