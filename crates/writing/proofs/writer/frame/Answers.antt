-- `writing::writer::frame` meets its contract: what stands ahead of the type byte is written first, the rest behind it.
-- Assumes nothing.
use Rattle.std.proofs.Common.{◌≡◌, ◌∙◌, ap, ℕ, true, List, Some, arith}
use Rattle.scrambler.specs.Scrambler.{Register, from, NEAR, FAR, START}
use Rattle.satellites.specs.declared.Satellite.{Satellite}
use Rattle.satellites.proofs.Laws.{address-most}
use Rattle.layouts.specs.declared.Layout.{Layout}
use Rattle.layouts.specs.Layouts.{carries, entry_of, layout_of}
use Rattle.layouts.proofs.Laid.{some-layout}
use Rattle.layouts.proofs.Entries.{size-most, type-most}
use Rattle.bodies.proofs.Laws.{widths-in}
use Rattle.frames.specs.Frames.{frame_of}
use Rattle.frames.proofs.Registers.{handed}
use Rattle.fronts.specs.Fronts.{front_after}
use Rattle.writing.proofs.Assembled.{rest-least, assembled}
use Rattle.writing.proofs.writer.frame.Goals as goal

-- what is told of a type that is carried
module _ (s : Satellite) (ty : ℕ) (layout : Layout) (told : layout_of s ty ≡ Some layout) where
  its-carried : carries s ty ≡ true
  its-carried = (some-layout s ty layout told).0

  its-size : layout.size ≡ (entry_of s ty).size
  its-size = ap (λ (l : Layout). l.size) (some-layout s ty layout told).1

  -- what was written ahead of the type byte
  written : (front lent : List ℕ) → front ≡ front_after s layout.size lent → front ≡ front_after s (entry_of s ty).size lent
  written front lent e = e ∙ ap (λ (n : ℕ). front_after s n lent) its-size

pub overflow_cast-layout : goal.overflow_cast-layout
overflow_cast-layout c =
    let a = c.args in
    omega (
      arith,
      its-size a.satellite a.ty a.layout c.requires.layout_value,
      size-most a.satellite a.ty (its-carried c.args.satellite c.args.ty c.args.layout c.requires.layout_value),
    )

pub overflow_cast-typed : goal.overflow_cast-typed
overflow_cast-typed c = omega (arith, type-most c.args.satellite c.args.ty (its-carried c.args.satellite c.args.ty c.args.layout c.requires.layout_value))

pub overflow_mul-typed : goal.overflow_mul-typed
overflow_mul-typed c = omega (arith, type-most c.args.satellite c.args.ty (its-carried c.args.satellite c.args.ty c.args.layout c.requires.layout_value))

pub overflow_add-typed : goal.overflow_add-typed
overflow_add-typed c =
    let a = c.args in
    omega (arith, type-most a.satellite a.ty (its-carried c.args.satellite c.args.ty c.args.layout c.requires.layout_value), address-most a.satellite, c.address.ensures)

pub send-requires : goal.send-requires
send-requires c =
    let a = c.args in
    let given = c.requires in
    let at = c.type_byte_at-at in
    rest-least a.satellite a.ty (its-carried a.satellite a.ty a.layout given.layout_value) at.result a.part.now c.write.new.part at.ensures given.part_len
    (written a.satellite a.ty a.layout given.layout_value c.write.new.part _ c.write.ensures)

pub returns : goal.returns
returns c =
    let a = c.args in
    let given = c.requires in
    let at = c.type_byte_at-at in
    assembled a.satellite a.ty (its-carried a.satellite a.ty a.layout given.layout_value) at.result a.part.now c.write.new.part at.ensures given.part_len
    (written a.satellite a.ty a.layout given.layout_value c.write.new.part _ c.write.ensures)
    (from NEAR FAR START) a.values.now c.send.new.part c.address.ensures
    (widths-in a.satellite a.ty a.layout given.layout_value) c.send.ensures
    ∙ ap (λ (r : Register). frame_of r a.satellite a.ty a.values.now) (handed a.satellite)
