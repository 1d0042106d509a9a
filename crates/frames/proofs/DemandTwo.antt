-- Demand 2, on reading and writing, as laws of the definitions that the contracts cite. The head of DemandOne.antt explains the words.
-- Field i starts at bit `start_at widths i` of the body; `field` is the unsigned number there.
-- Assumes nothing.
use Prim.Native.Nat.{ℕ, ◌+◌, ◌-◌, ◌*◌, ◌/◌, ◌%◌, ◌≤◌, ◌<◌}
use native.Mathlib.Omega.{arith}
use mathlib.Core.Path.{◌≡◌, refl, sym, ◌∙◌, ap, subst}
use borrow.Author.Tests.{eqb-true}
use mathlib.Core.Bool.{true}
use mathlib.Core.List.{List, [], ◌∷◌, ◌++◌}
use lib.ListN.{length, get_or, take, drop, replicate, length-drop}
use Rattle.bits.specs.Bits.{field, Bytes}
use Rattle.checksum.specs.Checksum.{checksum}
use Rattle.satellites.specs.declared.Satellite.{Satellite}
use Rattle.std.specs.Prelude.{Some}
use Rattle.satellites.specs.Satellites as satellites
use Rattle.satellites.specs.Satellites.{address_of}
use Rattle.satellites.proofs.Laws.{address-most}
use Rattle.layouts.specs.Layouts.{carries, entry_of, width_at, start_at}
use Rattle.refusals.specs.Tests.{Iff}
use Rattle.frames.specs.Registers.{Registers}
use Rattle.frames.specs.Paper.{Printed, printed_of, carried, size, type_byte_at, part, type_byte, type_in, checksum_in, body}
use Rattle.frames.specs.Answers.{Reading}
use Rattle.frames.specs.Frames.{frame_of, clear_body, type_of}
use Rattle.frames.specs.Reading.{accepted_by, reading_by, room_after_by}
use Rattle.frames.specs.Writing.{writing, output_after_by}
use Rattle.frames.proofs.Fronts as fronts
use Rattle.frames.proofs.Wholes.{its-length, its-training, its-sync, its-type-byte, its-size-byte, its-checksum}
use Rattle.frames.proofs.Acceptance.{whole-right, was-whole, was-right, parts-right}
use Rattle.frames.proofs.Readings as readings
use Rattle.frames.proofs.Readings.{read_as}
use Rattle.frames.proofs.Answers as answers
use Rattle.frames.proofs.Exact as exact

-- ---- 2. "a frame is accepted exactly when preamble, address, type, size byte where there is one, length and checksum are
-- those of the published tables": those of type t are

pub record Published (p : Printed) (t : ℕ) (frame : List ℕ) : Type 0 where
  pub training-right : take p.training frame ≡ replicate p.training 0xAA
  pub sync-right : take 2 (drop p.training frame) ≡ 0xBF ∷ 0x35 ∷ []
  pub address-right : type_byte p frame % 16 ≡ p.address
  pub type-right : type_in p frame ≡ t
  pub is_carried : carried p t ≡ true
  pub size-right : p.size_byte ≡ true → get_or frame (type_byte_at p - 1) 0 ≡ size p t
  pub length-right : length frame ≡ type_byte_at p + size p t
  -- the checksum covers type and address, one byte, and the unscrambled body
  pub checksum-right : checksum_in p frame ≡ checksum (type_byte p frame ∷ body p frame)

-- "one size byte, the number of bytes that follow it"
pub size-follows : (p : Printed) (t : ℕ) (frame : List ℕ) → Published p t frame → p.size_byte ≡ true
    → get_or frame (type_byte_at p - 1) 0 ≡ length (part p frame)
size-follows p t frame right has = right.size-right has ∙ omega (arith, right.length-right, length-drop (type_byte_at p) frame)

-- the frame of any values is right
frame-published : (r : Registers) (s : Satellite) (t : ℕ) (values : List ℕ) → carries s t ≡ true
    → Published (printed_of r s) t (frame_of (r s) s t values)
unfolding clear_body
frame-published r s t values is_carried =
    let frame = frame_of (r s) s t values in
    let byte = fronts.first-at (satellites.type_byte_at s) frame ∙ its-type-byte (r s) s t is_carried values in
    let high : (t * 16 + address_of s) / 16 ≡ t = omega (arith, address-most s) in
    let low : (t * 16 + address_of s) % 16 ≡ address_of s = omega (arith, address-most s) in
    record {
      training-right = its-training (r s) s t is_carried values;
      sync-right = its-sync (r s) s t is_carried values;
      address-right = ap (λ (x : ℕ). x % 16) byte ∙ low;
      type-right = ap (λ (x : ℕ). x / 16) byte ∙ high;
      is_carried = is_carried;
      size-right = its-size-byte (r s) s t is_carried values;
      length-right = its-length (r s) s t is_carried values;
      checksum-right = its-checksum (r s) s t is_carried values;
    }

-- `accepted_by` is that test, on the frame alone: it is true of a frame that is right, of the type in its type byte, and of no other
pub accepted-exactly : (r : Registers) (s : Satellite) (frame : List ℕ)
    → Iff (accepted_by (r s) s frame) (Published (printed_of r s) (type_of s frame) frame)
unfolding clear_body
accepted-exactly r s frame = (right, is-accepted)
  where
    right : accepted_by (r s) s frame ≡ true → Published (printed_of r s) (type_of s frame) frame
    right accepted =
        let whole = was-whole (r s) s frame accepted in
        let p = printed_of r s in
        record {
          training-right = fronts.is-trained s frame whole;
          sync-right = fronts.is-synced s frame whole;
          address-right = fronts.is-addressed s frame whole;
          type-right = refl;
          is_carried = fronts.is_carried s frame whole;
          size-right = fronts.is-sized s frame whole;
          length-right = fronts.is_whole s frame whole;
          checksum-right =
              eqb-true (checksum_in p frame) (checksum (type_byte p frame ∷ body p frame)) (was-right (r s) s frame accepted);
        }

    is-accepted : Published (printed_of r s) (type_of s frame) frame → accepted_by (r s) s frame ≡ true
    is-accepted p =
        let byte = fronts.first-at (satellites.type_byte_at s) frame in
        parts-right (r s) s frame (type_of s frame) p.is_carried p.training-right p.sync-right
        (ap (λ (x : ℕ). x % 16) (sym byte) ∙ p.address-right) (ap (λ (x : ℕ). x / 16) (sym byte)) p.size-right p.length-right
        p.checksum-right

module _ (r : Registers) (s : Satellite) (frame room : List ℕ) where
  -- "Given room for its values", reading accepts such a frame, and answers its type and how many fields that has
  pub given-room : accepted_by (r s) s frame ≡ true
      → let t = type_in (printed_of r s) frame in
      length (entry_of s t).widths ≤ length room
      → reading_by r (Some s) frame room ≡ record { refusal = 0; ty = t; count = length (entry_of s t).widths }
  given-room = readings.given-room r s frame room

  -- and reading accepts no other
  pub read-accepted : (reading_by r (Some s) frame room).refusal ≡ 0 → accepted_by (r s) s frame ≡ true
  read-accepted e =
      let a = reading_by r (Some s) frame room in
      let answer : a ≡ read_as a.ty a.count = λ i. record { refusal = e i; ty = a.ty; count = a.count } in
      whole-right (r s) s frame (answers.was-whole r s frame room a.ty a.count answer)
      (answers.was-right r s frame room a.ty a.count answer)

  -- so whatever is right is accepted, given room
  pub published-accepted : (t : ℕ) → Published (printed_of r s) t frame → length (entry_of s t).widths ≤ length room
      → reading_by r (Some s) frame room ≡ record { refusal = 0; ty = t; count = length (entry_of s t).widths }
  published-accepted t p roomy =
      let its = p.type-right in
      let count = ap (λ (u : ℕ). length (entry_of s u).widths) its in
      given-room ((accepted-exactly r s frame).1 (subst (λ u. Published (printed_of r s) u frame) (sym its) p)) (omega (arith, count, roomy))
      ∙ ap (λ (u : ℕ). read_as u (length (entry_of s u).widths)) its

  module _ (t n : ℕ) (answer : reading_by r (Some s) frame room ≡ record { refusal = 0; ty = t; count = n }) where
    -- and whatever is accepted is right
    pub accepted-published : Published (printed_of r s) t frame
    accepted-published =
        subst (λ u. Published (printed_of r s) u frame) (answers.its-type r s frame room t n answer)
        ((accepted-exactly r s frame).0 (read-accepted (ap (λ (a : Reading). a.refusal) answer)))

    -- "Its values are the table's fields", as many as the table has; "later places stay"
    pub accepted-values : (n ≡ length (entry_of s t).widths)
        × (((i : ℕ) → i < n
        → get_or (room_after_by r (Some s) frame room) i 0
        ≡ field (start_at (entry_of s t).widths i) (width_at (entry_of s t).widths i) (body (printed_of r s) frame))
        × ((length (room_after_by r (Some s) frame room) ≡ length room) × (drop n (room_after_by r (Some s) frame room) ≡ drop n room)))
    unfolding clear_body
    accepted-values = (sym (answers.its-count r s frame room t n answer), exact.room-told r s frame room t n answer)

    -- "Writing an accepted frame's values gives that frame again"; a lent frame holds bytes and nothing else
    pub accepted-rewritten : Bytes frame → (output : List ℕ) → length frame ≤ length output
        → let values = take n (room_after_by r (Some s) frame room) in
        (writing (Some s) t values output ≡ record { refusal = 0; answer = length frame })
        × (output_after_by r (Some s) t values output ≡ frame ++ drop (length frame) output)
    accepted-rewritten b output fills =
        let values = take n (room_after_by r (Some s) frame room) in
        let made = exact.written-alike r s frame room t n answer values output (exact.as_many r s frame room t n answer)
        (exact.all_fit r s frame room t n answer) fills in
        (made.0, made.1 ∙ ap (λ (l : List ℕ). l ++ drop (length frame) output) (exact.frame-of-values r s frame room t n answer b))

  -- so a number of 0 says that the frame is right, of the type that is answered
  pub accepted-right : (reading_by r (Some s) frame room).refusal ≡ 0 → Published (printed_of r s) (reading_by r (Some s) frame room).ty frame
  accepted-right e =
      let a = reading_by r (Some s) frame room in
      accepted-published a.ty a.count (λ i. record { refusal = e i; ty = a.ty; count = a.count })

module _ (r : Registers) (s : Satellite) (t n : ℕ) (values output : List ℕ)
    (answer : writing (Some s) t values output ≡ record { refusal = 0; answer = n }) where
  -- "It answers the length and fills that many bytes; bytes past the frame's end stay"
  pub written : (n ≡ type_byte_at (printed_of r s) + size (printed_of r s) t)
      × (Published (printed_of r s) t (take n (output_after_by r (Some s) t values output))
      × ((length (output_after_by r (Some s) t values output) ≡ length output) × (drop n (output_after_by r (Some s) t values output) ≡ drop n output)))
  written = (
    sym (answers.its-frame r s t values output n answer),
    (
      subst (Published (printed_of r s) t) (sym (exact.output-front r s t n values output answer))
          (frame-published r s t values (exact.was-carried r s t n values output answer)),
      (exact.output-length r s t n values output answer, exact.output-behind r s t n values output answer),
    ),
  )

  -- "and reading a written frame gives the values back"
  pub written-reread : (room : List ℕ) → length values ≤ length room
      → let frame = take n (output_after_by r (Some s) t values output) in
      (reading_by r (Some s) frame room ≡ record { refusal = 0; ty = t; count = length values })
      × (room_after_by r (Some s) frame room ≡ values ++ drop (length values) room)
  written-reread room enough =
      exact.reread r s t n values output answer room enough
      (published-accepted r s (frame_of (r s) s t values) room t (frame-published r s t values (exact.was-carried r s t n values output answer)))
