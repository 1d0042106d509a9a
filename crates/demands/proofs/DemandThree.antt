-- Demand 3 holds.
-- Assumes nothing.
use Prim.Native.Nat.{ℕ, ◌+◌, ◌*◌, ◌^◌, ◌≤◌, ◌<◌}
use native.Mathlib.Omega.{arith}
use mathlib.Core.Path.{◌≡◌, sym, ◌∙◌, ap, subst}
use mathlib.Core.List.{List, ◌++◌}
use lib.ListN.{length, get_or, take, drop, set}
use Rattle.bits.specs.Bits.{◌⊞◌, bits, bits_of}
use Rattle.layouts.specs.Layouts.{width_at, start_at}
use Rattle.satellites.specs.declared.Satellite.{Satellite}
use Rattle.std.specs.Prelude.{Some}
use Rattle.frames.specs.Answers.{Reading, Writing}
use Rattle.frames.specs.Registers.{register_of}
use Rattle.frames.specs.Frames.{entry_in}
use Rattle.frames.specs.Reading.{reading_by}
use Rattle.frames.specs.Writing.{writing, output_after_by}
use Rattle.frames.specs.Editing.{editing_by, frame_after_by}
use Rattle.frames.proofs.DemandThree as three
use Rattle.frames.specs.Paper.{printed_of, Printed, widths, type_byte_at}
use Rattle.demands.specs.Demands.{printed, Read, Write, Edit, DemandThree}
use Rattle.demands.proofs.Named.{Named}
use Rattle.demands.proofs.Calls.{read-gives, read_named, read_answer, read_left}
use Rattle.demands.proofs.Calls.{write-gives}
use Rattle.demands.proofs.Calls.{edit-named, edit-answer, edit-left}

-- "Take an accepted frame, one of its fields and a new value that fits", and edit it
module _ {n k v : ℕ} {frame room frame' room' edited' : List ℕ} {r : Reading} {e : Writing} (c : Read n frame room r frame' room')
    (accepted : r.refusal ≡ 0) (inside : k < r.count) (fits : v < 2 ^ width_at (widths (printed n) r.ty) k)
    (d : Edit n frame k v e edited') where
  abbrev name : Named n
  name = read_named c accepted

  abbrev s : Satellite
  s = name.satellite

  abbrev answer : reading_by register_of (Some s) frame room ≡ record { refusal = 0; ty = r.ty; count = r.count }
  answer = read_answer c name accepted

  fits-its : v < 2 ^ width_at (widths (printed_of register_of s) r.ty) k
  fits-its = subst (λ p. v < 2 ^ width_at (widths p r.ty) k) (sym name.as-printed) fits

  abbrev is-edited : edited' ≡ frame_after_by register_of (Some s) frame k v
  is-edited = edit-left d name

  edited : (e ≡ record { refusal = 0; answer = length frame }) × (length edited' ≡ length frame)
  edited = (
    sym (edit-answer d name) ∙ three.edit-accepted register_of s r.ty r.count frame room answer k inside v fits-its,
    ap length is-edited ∙ three.edited-length register_of s r.ty r.count frame room answer k inside v fits-its,
  )

  edited-afresh : {output values' output' : List ℕ} {w : Writing}
      → Write n r.ty (set (take r.count room') k v) output w values' output' → length frame ≤ length output
      → (w ≡ record { refusal = 0; answer = length frame }) × (output' ≡ edited' ++ drop (length frame) output)
  edited-afresh {output = output} written fills =
      let afresh = three.edited-afresh register_of s r.ty r.count frame room answer k inside v fits-its output fills in
      let left = read_left c name in (
        (write-gives written).0
            ∙ (λ i. writing (name.is_known i) r.ty (set (take r.count (left i)) k v) output)
            ∙ afresh.0,
        (write-gives written).1.0
            ∙ (λ i. output_after_by register_of (name.is_known i) r.ty (set (take r.count (left i)) k v) output)
            ∙ afresh.1
            ∙ ap (λ (f : List ℕ). f ++ drop (length frame) output) (sym is-edited),
      )

  abbrev ahead_of : Printed → ℕ
  ahead_of p = 8 * (type_byte_at p + 1) + start_at (widths p r.ty) k

  ahead-stays : take (ahead_of (printed n)) (bits_of edited') ≡ take (ahead_of (printed n)) (bits_of frame)
  ahead-stays =
      subst (λ p. take (ahead_of p) (bits_of edited') ≡ take (ahead_of p) (bits_of frame)) name.as-printed
      (ap (λ (f : List ℕ). take (ahead_of (printed_of register_of s)) (bits_of f)) is-edited
      ∙ three.ahead-stays register_of s r.ty r.count frame room answer k inside v fits-its)

-- "If two accepted frames of one satellite and type have the same field edited ..": a frame g and a frame h
module _ {n k : ℕ} {g room g' room' h hall h' hall' : List ℕ} {r q : Reading}
    (c : Read n g room r g' room') (accepted : r.refusal ≡ 0) (d : Read n h hall q h' hall') (accepted' : q.refusal ≡ 0)
    (same : r.ty ≡ q.ty) (inside : k < r.count) where
  abbrev w : Named n
  w = read_named c accepted

  abbrev width : Printed → ℕ
  width p = width_at (widths p r.ty) k

  -- a statement about the width, by the satellite
  by_width : (P : ℕ → Type 0) → P (width (printed n)) → P (width (printed_of register_of w.satellite))
  by_width P = subst (λ p. P (width p)) (sym w.as-printed)

  same-bits-flip : {v u : ℕ} {edited' changed' : List ℕ} {e f : Writing}
      → v < 2 ^ width (printed n) → u < 2 ^ width (printed n)
      → bits (width (printed n)) (get_or room' k 0) ⊞ bits (width (printed n)) v
      ≡ bits (width (printed n)) (get_or hall' k 0) ⊞ bits (width (printed n)) u
      → Edit n g k v e edited' → Edit n h k u f changed'
      → bits_of g ⊞ bits_of edited' ≡ bits_of h ⊞ bits_of changed'
  same-bits-flip {v = v} {u = u} fits fits' alike x y =
      let m = width (printed_of register_of w.satellite) in
      let typed : reading_by register_of (Some w.satellite) h hall ≡ record { refusal = 0; ty = r.ty; count = q.count } =
      read_answer d w accepted' ∙ (λ i. record { refusal = 0; ty = sym same i; count = q.count }) in
      ap (λ (l : List ℕ). bits_of g ⊞ bits_of l) (edit-left x w)
      ∙ three.same-bits-flip register_of w.satellite r.ty k r.count q.count g h room hall (read_answer c w accepted) typed inside
      v u (by_width (λ m. v < 2 ^ m) fits) (by_width (λ m. u < 2 ^ m) fits')
      (ap (λ (l : List ℕ). bits m (get_or l k 0) ⊞ bits m v) (sym (read_left c w))
      ∙ by_width (λ m. bits m (get_or room' k 0) ⊞ bits m v ≡ bits m (get_or hall' k 0) ⊞ bits m u) alike
      ∙ ap (λ (l : List ℕ). bits m (get_or l k 0) ⊞ bits m u) (read_left d w))
      ∙ ap (λ (l : List ℕ). bits_of h ⊞ bits_of l) (sym (edit-left y w))

edited-same : {n k : ℕ} {frame room frame' room' edited' : List ℕ} {r : Reading} {e : Writing}
    → Read n frame room r frame' room' → r.refusal ≡ 0 → k < r.count → Edit n frame k (get_or room' k 0) e edited'
    → (e ≡ record { refusal = 0; answer = length frame }) × (edited' ≡ frame)
edited-same {k = k} {frame = frame} {room = room} {r = r} c accepted inside d =
    let w = read_named c accepted in
    let s = w.satellite in
    let left = read_left c w in
    let same = three.edited-same register_of s r.ty r.count frame room (read_answer c w accepted) k inside (read-gives c).1.1.1 in (
      sym (edit-answer d w) ∙ (λ i. editing_by register_of (Some s) frame k (get_or (left i) k 0)) ∙ same.0,
      edit-left d w ∙ (λ i. frame_after_by register_of (Some s) frame k (get_or (left i) k 0)) ∙ same.1,
    )

-- every edit that is accepted, with a room as long as the frame's values
edited-length : {n k v : ℕ} {frame edited' : List ℕ} {e : Writing} → Edit n frame k v e edited' → e.refusal ≡ 0
    → (e.answer ≡ length frame) × (length edited' ≡ length frame)
edited-length {k = k} {v = v} {frame = frame} d accepted =
    let w = edit-named d (λ one. omega (arith, accepted, one)) in
    let s = w.satellite in
    let room = (entry_in s frame).widths in
    let r = reading_by register_of (Some s) frame room in
    let only = three.accepted-only register_of s frame k v (ap (λ (a : Writing). a.refusal) (edit-answer d w) ∙ accepted) room (omega arith) in
    let read : r ≡ record { refusal = 0; ty = r.ty; count = r.count } = λ i. record { refusal = only.0 i; ty = r.ty; count = r.count } in (
      ap (λ (a : Writing). a.answer) (sym (edit-answer d w)
          ∙ three.edit-accepted register_of s r.ty r.count frame room read k only.1.0 v only.1.1),
      ap length (edit-left d w) ∙ three.edited-length register_of s r.ty r.count frame room read k only.1.0 v only.1.1,
    )

pub demand-three : DemandThree
demand-three =
    record {
      edited = λ c accepted inside fits d. edited c accepted inside fits d;
      edited-length = λ d accepted. edited-length d accepted;
      edited-afresh = λ c accepted inside fits d written fills. edited-afresh c accepted inside fits d written fills;
      ahead-stays = λ c accepted inside fits d. ahead-stays c accepted inside fits d;
      same-bits-flip = λ c accepted d accepted' same inside fits fits' alike x y.
          same-bits-flip c accepted d accepted' same inside fits fits' alike x y;
      edited-same = λ c accepted inside d. edited-same c accepted inside d;
    }
