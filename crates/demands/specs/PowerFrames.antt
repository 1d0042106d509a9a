-- Request One of 02, "Power frames", in quotes, as statements about the tables, the names and the calls. proofs/PowerFrames.antt proves them.
--
-- `printed`, `Read`, `Write` and `Edit` are those of Demands.antt; the documents' tables of type 1, and how a damaged line of them is read,
-- are in Documents.antt of `names`.
use Rattle.std.specs.Prelude.{ℕ, ◌+◌, ◌*◌, ◌^◌, ◌≤◌, ◌<◌, ◌≡◌, cond, List, [], ◌∷◌, ◌++◌, length, get_or, take, drop, eqb}
use Rattle.bits.specs.Bits.{bits, number, bits_of}
use Rattle.bits.proofs.read_field.Reads as read-field
use Rattle.bits.proofs.replace_field.Reads as replace-field
use Rattle.satellites.specs.declared.Satellite.{Satellite}
use Rattle.satellites.specs.Satellites.{number_of, seven}
use Rattle.layouts.specs.Layouts.{total, width_at}
use Rattle.layouts.specs.Paper.{PrintedLine, printed_line, printed_table, lines}
use Rattle.refusals.specs.Tests.{AllSaid}
use Rattle.names.specs.Fields.{names_of}
use Rattle.names.specs.Documents.{document-000, document-002, document-004, document_of, widths_in, names_printed}
use Rattle.frames.specs.Answers.{Reading, Writing}
use Rattle.frames.specs.Paper.{type_in, widths, size, type_byte_at, whole}
use Rattle.demands.specs.Demands.{printed, Read, Write, Edit}

-- called for these bytes, a start bit and a width, `bits::read_field` answers r; called for a value too, `bits::replace_field` leaves bytes'
abbrev pub ReadField : List ℕ → ℕ → ℕ → ℕ → Type 0
ReadField bytes start width r =
    (κs : _) × ((a : _) × ((s : _) × (read-field.Post κs a r s
    × ((a.0.now ≡ bytes) × ((a.1.0 ≡ start) × (a.1.1.0 ≡ width))))))

abbrev pub ReplaceField : List ℕ → ℕ → ℕ → ℕ → List ℕ → Type 0
ReplaceField bytes start width v bytes' =
    (κs : _) × ((a : _) × ((r : _) × ((s : _) × (replace-field.Post κs a r s
    × ((a.0.now ≡ bytes) × ((a.1.0 ≡ start) × ((a.1.1.0 ≡ width) × ((a.1.1.1.0 ≡ v) × (s.0.now ≡ bytes')))))))))

-- the bits "from type byte to checksum" of a table with these widths
abbrev pub sum : List ℕ → ℕ
sum ws = 8 + total ws + 16

-- the lines of one type
unfoldable pub of_type : ℕ → List PrintedLine → List PrintedLine
of_type t [] = []
of_type t (l ∷ ls) = cond (eqb l.frame_type t) (l ∷ of_type t ls) (of_type t ls)

-- tests 2 to 4, those between the satellite's number and the type, hold
abbrev pub UpToFour : ℕ → List ℕ → Type 0
UpToFour n frame = AllSaid (take 3 (whole (printed n) frame))

pub record PowerFrames : Type 0 where
  -- "Add it for satellites 1 to 6 from the tables of documents 000, 002 and 004": their widths, and their names, in the tables' order. HADES-D
  -- has none of these three, and no fields
  pub its-widths : (s : Satellite) → widths (printed (number_of s)) 1 ≡ widths_in (document_of s)
  pub its-names : (s : Satellite) → names_of s 1 ≡ names_printed (document_of s)
  -- "Check each table's sum: 248 bits from type byte to checksum". "A width that cannot be read in 000 is that of the field of the same name in
  -- 002, and the sum must still hold": `widths_in` reads such a width so
  pub sum-of-000 : sum (widths_in document-000) ≡ 248
  pub sum-of-002 : sum (widths_in document-002) ≡ 248
  pub sum-of-004 : sum (widths_in document-004) ≡ 248
  -- "so 49 bytes with preamble, and 50 for HADES-SA"
  pub bytes : (n : ℕ) → 1 ≤ n → n ≤ 5 → type_byte_at (printed n) + size (printed n) 1 ≡ 49
  pub bytes-of-6 : type_byte_at (printed 6) + size (printed 6) 1 ≡ 50
  -- "reading and writing a field must hold for any start bit and any width from 1 to 32, shown once over both": the answer is the number in
  -- the field's bits; the field's bits become the value's, and every other bit stays. A width of 0 is a field of no bits
  pub any-field-read : {bytes : List ℕ} {start width r : ℕ} → ReadField bytes start width r
      → width ≤ 32 → start + width ≤ 8 * length bytes → r ≡ number (take width (drop start (bits_of bytes)))
  pub any-field-written : {bytes bytes' : List ℕ} {start width v : ℕ} → ReplaceField bytes start width v bytes'
      → width ≤ 32 → start + width ≤ 8 * length bytes
      → bits_of bytes' ≡ take start (bits_of bytes) ++ (bits width v ++ drop (start + width) (bits_of bytes))
  pub any-field-read-back : {bytes bytes' : List ℕ} {start width v r : ℕ} → ReplaceField bytes start width v bytes' → ReadField bytes' start width r
      → width ≤ 32 → start + width ≤ 8 * length bytes → v < 2 ^ width → r ≡ v
  -- "The printed table gains six lines in their places": these six, among the lines that the layouts give, satellite by satellite and type by
  -- type
  pub six-lines : of_type 1 (lines seven)
      ≡ printed_line 1 1 19 49 ∷ printed_line 2 1 19 49 ∷ printed_line 3 1 19 49
      ∷ printed_line 4 1 19 49 ∷ printed_line 5 1 19 49 ∷ printed_line 6 1 19 50 ∷ []
  pub in-their-places : lines seven ≡ printed_table
  -- "Demands 2 and 3 cover the type from then on": they speak of every type that is carried, and this one is; what fits is written
  pub is-written : {n : ℕ} {values output values' output' : List ℕ} {w : Writing} → 1 ≤ n → n ≤ 6 → Write n 1 values output w values' output'
      → length values ≡ 19 → ((i : ℕ) → i < 19 → get_or values i 0 < 2 ^ width_at (widths (printed n) 1) i)
      → type_byte_at (printed n) + size (printed n) 1 ≤ length output
      → w.refusal ≡ 0
  -- "and 5 is given for it to HADES-D only": to no other; and to HADES-D where no test ahead of 5 fails
  pub five-in-reading : {n : ℕ} {frame room frame' room' : List ℕ} {r : Reading} → Read n frame room r frame' room'
      → type_in (printed n) frame ≡ 1 → (r.refusal ≡ 5 → n ≡ 0) × (n ≡ 0 → UpToFour n frame → r.refusal ≡ 5)
  pub five-in-writing : {n : ℕ} {values output values' output' : List ℕ} {w : Writing} → Write n 1 values output w values' output'
      → (w.refusal ≡ 5 → n ≡ 0) × (n ≡ 0 → w.refusal ≡ 5)
  pub five-in-editing : {n k v : ℕ} {frame frame' : List ℕ} {e : Writing} → Edit n frame k v e frame'
      → type_in (printed n) frame ≡ 1 → (e.refusal ≡ 5 → n ≡ 0) × (n ≡ 0 → UpToFour n frame → e.refusal ≡ 5)
