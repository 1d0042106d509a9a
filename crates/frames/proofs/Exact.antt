-- What follows from an answer that accepts, for a frame and its values; and values there and back.
-- Assumes nothing.
use Prim.Native.Nat.{ℕ, ◌≤◌, ◌<◌}
use native.Mathlib.Omega.{arith}
use mathlib.Core.Path.{◌≡◌, sym, ◌∙◌, ap, ap₂}
use mathlib.Core.Bool.{true}
use mathlib.Core.List.{List, ◌++◌}
use lib.ListN.{length, get_or, take, drop, length-append, length-drop, get_or-append}
use lib.Seq.{take_at, drop_at}
use borrow.Author.Tests.{leb-true, eqb-true}
use Rattle.bits.specs.Bits.{bits_of, field, Bytes}
use Rattle.frames.specs.Registers.{Registers}
use Rattle.satellites.specs.declared.Satellite.{Satellite}
use Rattle.std.specs.Prelude.{Some}
use Rattle.layouts.specs.Layouts.{carries, entry_of, width_at, start_at}
use Rattle.bodies.specs.Bodies.{told, fitting}
use Rattle.bodies.proofs.Laws.{length-told, told_at, fitting-told}
use Rattle.refusals.specs.Tests.{refusal, holding}
use Rattle.frames.specs.Frames.{frame_of, frame_length}
use Rattle.frames.specs.Frames.{from_type_byte, clear_body, type_of, entry_in, values_of}
use Rattle.frames.specs.Reading.{front_tests, whole_tests, reading_tests, reading_by, room_after_by}
use Rattle.frames.specs.Writing.{writing_tests, writing, output_after_by}
use Rattle.frames.proofs.Fronts as fronts
use Rattle.frames.proofs.Readings.{read_as}
use Rattle.frames.proofs.Writings as writings
use Rattle.frames.proofs.Writings.{wrote_as}
use Rattle.frames.proofs.Wholes.{bits-again, frame-again, values-again}
use Rattle.frames.proofs.Wholes as wholes
use Rattle.frames.proofs.Answers as answers

module _ (r : Registers) (s : Satellite) (frame room : List ℕ) where
  abbrev part : List ℕ
  part = from_type_byte s frame

  -- ---- what an accepting answer tells

  module _ (t n : ℕ) (answer : reading_by r (Some s) frame room ≡ read_as t n) where
    typed : type_of s frame ≡ t
    typed = answers.its-type r s frame room t n answer

    count : length (entry_in s frame).widths ≡ n
    count = ap (λ (u : ℕ). length (entry_of s u).widths) typed ∙ answers.its-count r s frame room t n answer

    values_length : length (values_of (r s) s frame) ≡ n
    unfolding values_of
    values_length = length-told (entry_in s frame).widths (bits_of (clear_body (r s) part)) ∙ count

    enough : n ≤ length room
    unfolding reading_tests whole_tests front_tests holding
    enough =
        omega (
          arith,
          count,
          leb-true (length (entry_in s frame).widths) (length room) (answers.held r s frame room t n answer 8),
        )

    -- the table's field, in the unscrambled body
    abbrev field_at : ℕ → ℕ
    field_at i = field (start_at (entry_of s t).widths i) (width_at (entry_of s t).widths i) (clear_body (r s) part)

    value-at : (i : ℕ) → i < n → get_or (room_after_by r (Some s) frame room) i 0 ≡ field_at i
    unfolding field values_of
    value-at i h =
        ap (λ (l : List ℕ). get_or l i 0) (answers.its-room r s frame room t n answer)
        ∙ get_or-append (values_of (r s) s frame) (drop n room) 0 i (omega (arith, h, values_length))
        ∙ told_at (entry_in s frame).widths (bits_of (clear_body (r s) part)) i (omega (arith, h, count))
        ∙ ap (λ (u : ℕ). field (start_at (entry_of s u).widths i) (width_at (entry_of s u).widths i) (clear_body (r s) part)) typed

    room-length : length (room_after_by r (Some s) frame room) ≡ length room
    room-length =
        ap length (answers.its-room r s frame room t n answer)
        ∙ length-append (values_of (r s) s frame) (drop n room) ∙ omega (arith, values_length, enough, length-drop n room)

    room-behind : drop n (room_after_by r (Some s) frame room) ≡ drop n room
    room-behind = ap (drop n) (answers.its-room r s frame room t n answer) ∙ drop_at (values_of (r s) s frame) (drop n room) n values_length

    pub room-told : ((i : ℕ) → i < n → get_or (room_after_by r (Some s) frame room) i 0 ≡ field_at i)
        × ((length (room_after_by r (Some s) frame room) ≡ length room) × (drop n (room_after_by r (Some s) frame room) ≡ drop n room))
    room-told = (value-at, (room-length, room-behind))

    pub values-read : take n (room_after_by r (Some s) frame room) ≡ told (entry_of s t).widths (bits_of (clear_body (r s) part))
    unfolding values_of
    values-read =
        ap (take n) (answers.its-room r s frame room t n answer)
        ∙ take_at (values_of (r s) s frame) (drop n room) n values_length
        ∙ ap (λ (u : ℕ). told (entry_of s u).widths (bits_of (clear_body (r s) part))) typed

    abbrev values : List ℕ
    values = take n (room_after_by r (Some s) frame room)

    -- its type and its values make it again
    of_values : frame_of (r s) s t values ≡ frame_of (r s) s (type_of s frame) (values_of (r s) s frame)
    unfolding values_of
    of_values =
        ap₂ (frame_of (r s) s) (sym typed)
        (values-read ∙ ap (λ (u : ℕ). told (entry_of s u).widths (bits_of (clear_body (r s) part))) (sym typed))

    pub bits-of-values : bits_of (frame_of (r s) s t values) ≡ bits_of frame
    bits-of-values =
        ap bits_of of_values
        ∙ bits-again (r s) s frame (answers.was-whole r s frame room t n answer) (answers.was-right r s frame room t n answer)

    pub frame-of-values : Bytes frame → frame_of (r s) s t values ≡ frame
    frame-of-values b =
        of_values
        ∙ frame-again (r s) s frame (answers.was-whole r s frame room t n answer) (answers.was-right r s frame room t n answer) b

    whole : refusal (whole_tests s frame) ≡ 0
    whole = answers.was-whole r s frame room t n answer

    pub its-carried : carries s t ≡ true
    its-carried = ap (carries s) (sym typed) ∙ fronts.is_carried s frame whole

    pub its-length : length frame ≡ frame_length s t
    its-length = fronts.is_whole s frame whole ∙ ap (frame_length s) typed

    pub as_many : length (take n (room_after_by r (Some s) frame room)) ≡ length (entry_of s t).widths
    as_many = ap length values-read ∙ length-told (entry_of s t).widths (bits_of (clear_body (r s) part))

    pub all_fit : fitting (entry_of s t).widths (take n (room_after_by r (Some s) frame room)) ≡ length (entry_of s t).widths
    all_fit = ap (fitting (entry_of s t).widths) values-read ∙ fitting-told (entry_of s t).widths (bits_of (clear_body (r s) part))

    -- values that fit its type, written into an output that it fits
    pub written-alike : (values output : List ℕ) → length values ≡ length (entry_of s t).widths
        → fitting (entry_of s t).widths values ≡ length (entry_of s t).widths → length frame ≤ length output
        → (writing (Some s) t values output ≡ wrote_as (length frame))
        × (output_after_by r (Some s) t values output ≡ frame_of (r s) s t values ++ drop (length frame) output)
    written-alike values output many fit fills =
        let none = writings.none-fails r s t values output its-carried many fit (omega (arith, fills, its-length)) in
        let made = writings.accepted-with r s t values output none in (
          sym made.0 ∙ ap wrote_as (sym its-length),
          sym made.1 ∙ ap (λ (m : ℕ). frame_of (r s) s t values ++ drop m output) (sym its-length),
        )

-- ---- a frame that was written

module _ (r : Registers) (s : Satellite) (t n : ℕ) (values output : List ℕ)
    (answer : writing (Some s) t values output ≡ wrote_as n) where
  abbrev written : List ℕ
  written = frame_of (r s) s t values

  abbrev ws : List ℕ
  ws = (entry_of s t).widths

  pub was-carried : carries s t ≡ true
  unfolding writing_tests holding
  was-carried = answers.kept r s t values output n answer 5

  were-as-many : length values ≡ length ws
  unfolding writing_tests holding
  were-as-many = eqb-true (length values) (length ws) (answers.kept r s t values output n answer 10)

  did-fit : fitting ws values ≡ length ws
  unfolding writing_tests holding
  did-fit = eqb-true (fitting ws values) (length ws) (answers.kept r s t values output n answer 11)

  fills : frame_length s t ≤ length output
  unfolding writing_tests holding
  fills = leb-true (frame_length s t) (length output) (answers.kept r s t values output n answer 12)

  written-length : length written ≡ n
  written-length = wholes.its-length (r s) s t was-carried values ∙ answers.its-frame r s t values output n answer

  pub output-front : take n (output_after_by r (Some s) t values output) ≡ written
  output-front = ap (take n) (answers.its-output r s t values output n answer) ∙ take_at written (drop n output) n written-length

  pub output-behind : drop n (output_after_by r (Some s) t values output) ≡ drop n output
  output-behind = ap (drop n) (answers.its-output r s t values output n answer) ∙ drop_at written (drop n output) n written-length

  pub output-length : length (output_after_by r (Some s) t values output) ≡ length output
  output-length =
      ap length (answers.its-output r s t values output n answer)
      ∙ length-append written (drop n output)
      ∙ omega (arith, written-length, answers.its-frame r s t values output n answer, fills, length-drop n output)

  -- read again, where reading accepts it
  pub reread : (room : List ℕ) → length values ≤ length room
      → (length ws ≤ length room → reading_by r (Some s) written room ≡ read_as t (length ws))
      → let frame = take n (output_after_by r (Some s) t values output) in
      (reading_by r (Some s) frame room ≡ read_as t (length values))
      × (room_after_by r (Some s) frame room ≡ values ++ drop (length values) room)
  unfolding values_of
  reread room roomy accepts =
      let read = accepts (omega (arith, were-as-many, roomy)) in
      let its = answers.its-type r s written room t (length ws) read in (
        ap (λ (f : List ℕ). reading_by r (Some s) f room) output-front ∙ read ∙ ap (read_as t) (sym were-as-many),
        ap (λ (f : List ℕ). room_after_by r (Some s) f room) output-front
            ∙ answers.its-room r s written room t (length ws) read
            ∙ ap₂ (λ (l : List ℕ) (m : ℕ). l ++ drop m room)
            (ap (λ (u : ℕ). told (entry_of s u).widths (bits_of (clear_body (r s) (from_type_byte s written)))) its
            ∙ values-again (r s) s t was-carried values were-as-many did-fit)
            (sym were-as-many),
      )
