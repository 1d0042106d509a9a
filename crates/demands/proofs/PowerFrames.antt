-- Request One holds.
-- Assumes nothing.
use Prim.{⊥}
use Prim.Native.Nat.{ℕ, zero, suc, ◌+◌, ◌*◌, ◌^◌, ◌≤◌, ◌<◌}
use native.Mathlib.Nat.{mod-eq_of_lt}
use native.Mathlib.Omega.{arith}
use mathlib.Core.Path.{◌≡◌, refl, sym, ◌∙◌, ap, subst}
use mathlib.Core.Bool.{true, false, false≢true, cond}
use mathlib.Core.List.{List, [], ◌∷◌, ◌++◌}
use borrow.Author.Tests.{ne_eqb}
use lib.Dec.{T, eqb}
use lib.ListN.{length, get_or, take, drop}
use Rattle.bits.specs.Bits.{bits, number, bits_of, changed, field, field_answer, replaced_answer}
use Rattle.bits.proofs.Contracts.{read-field-says, read-inside, replace-field-says, replaced-inside}
use Rattle.bits.proofs.Fields.{read-replaced}
use Rattle.layouts.specs.Layouts.{among, carried_by, counted, found, table, total, width_at}
use Rattle.layouts.specs.Paper.{lines, lines_of}
use Rattle.layouts.proofs.Paper.{as-printed}
use Rattle.names.specs.Documents.{document-000, document-002, document-004, width_named}
use Rattle.names.proofs.Documents.{widths-printed, names-printed}
use Rattle.refusals.specs.Tests.{Said, says, same, Answered, AllSaid}
use Rattle.refusals.proofs.Says.{others_than, answered-once, all-answered, answered-fails, fails-answered}
use Rattle.words.specs.Words.{text}
use Rattle.frames.specs.Answers.{Reading, Writing}
use Rattle.frames.specs.Paper.{carried, widths, size, type_byte_at, type_in, roomy, summed, fielded}
use Rattle.demands.specs.Demands.{printed, named, writing_said, Read, Write, Edit}
use Rattle.demands.specs.PowerFrames.{ReadField, ReplaceField, of_type, UpToFour, PowerFrames}
use Rattle.demands.proofs.Calls.{read_number, write-number, edit-number}

-- ---- the satellites that send it

one-to-six : (P : ℕ → Type 0) → P 1 → P 2 → P 3 → P 4 → P 5 → P 6 → (n : ℕ) → 1 ≤ n → n ≤ 6 → P n
one-to-six P a b c d e f zero low high = absurd (omega (arith, low))
one-to-six P a b c d e f (suc zero) low high = a
one-to-six P a b c d e f (suc (suc zero)) low high = b
one-to-six P a b c d e f (suc (suc (suc zero))) low high = c
one-to-six P a b c d e f (suc (suc (suc (suc zero)))) low high = d
one-to-six P a b c d e f (suc (suc (suc (suc (suc zero))))) low high = e
one-to-six P a b c d e f (suc (suc (suc (suc (suc (suc zero)))))) low high = f
one-to-six P a b c d e f (suc (suc (suc (suc (suc (suc (suc n))))))) low high = absurd (omega (arith, high))

-- each of them carries the type, with 19 fields, and has 49 bytes or 50
abbrev Sends : ℕ → Type 0
Sends n =
    (carried (printed n) 1 ≡ true)
    × ((length (widths (printed n) 1) ≡ 19) × (type_byte_at (printed n) + size (printed n) 1 ≡ cond (eqb n 6) 50 49))

sends : (n : ℕ) → 1 ≤ n → n ≤ 6 → Sends n
unfolding table counted among carried_by found
sends =
    one-to-six
    Sends
    (refl, (refl, refl))
    (refl, (refl, refl))
    (refl, (refl, refl))
    (refl, (refl, refl))
    (refl, (refl, refl))
    (refl, (refl, refl))

-- HADES-D does not carry it
hades-d-carries : carried (printed 0) 1 ≡ false
unfolding table counted among carried_by
hades-d-carries = refl

hades-d-not : {n t : ℕ} → n ≡ 0 → t ≡ 1 → carried (printed n) t ≡ true → ⊥
hades-d-not none is_one carries = false≢true (sym hades-d-carries ∙ (λ i. carried (printed (sym none i)) (sym is_one i)) ∙ carries)

bytes : (n : ℕ) → 1 ≤ n → n ≤ 5 → type_byte_at (printed n) + size (printed n) 1 ≡ 49
bytes n low high = (sends n low (omega (arith, high))).1.1 ∙ rw (ne_eqb n 6 (λ e. omega (arith, high, e)))

-- ---- any field

any-field-read : {bytes : List ℕ} {start width r : ℕ} → ReadField bytes start width r
    → width ≤ 32 → start + width ≤ 8 * length bytes → r ≡ number (take width (drop start (bits_of bytes)))
unfolding field
any-field-read {r = r} call narrow inside =
    let a = call.1.0 in
    let given = call.1.1.1.1 in
    read-inside call.0 a r call.1.1.0 call.1.1.1.0
    (omega (arith, given, narrow))
    (omega (arith, given, ap length given.0, inside))
    ∙ (λ i. field (given.1.0 i) (given.1.1 i) (given.0 i))

any-field-written : {bytes bytes' : List ℕ} {start width v : ℕ} → ReplaceField bytes start width v bytes'
    → width ≤ 32 → start + width ≤ 8 * length bytes
    → bits_of bytes' ≡ take start (bits_of bytes) ++ (bits width v ++ drop (start + width) (bits_of bytes))
any-field-written call narrow inside =
    let a = call.1.0 in
    let given = call.1.1.1.1.1 in
    ap bits_of (sym given.1.1.1.1)
    ∙ replaced-inside call.0 a call.1.1.0 call.1.1.1.0 call.1.1.1.1.0
    (omega (arith, given.1.1.0, narrow))
    (omega (arith, given.1.0, given.1.1.0, ap length given.0, inside))
    ∙ (λ i. changed (given.1.0 i) (given.1.1.0 i) (given.1.1.1.0 i) (bits_of (given.0 i)))

any-field-read-back : {bytes bytes' : List ℕ} {start width v r : ℕ} → ReplaceField bytes start width v bytes' → ReadField bytes' start width r
    → width ≤ 32 → start + width ≤ 8 * length bytes → v < 2 ^ width → r ≡ v
any-field-read-back {bytes = bytes} {bytes' = bytes'} {start = start} {width = width} {v = v} {r = r} put call narrow inside fits =
    let given = call.1.1.1.1 in
    let placed = put.1.1.1.1.1 in
    let left : bytes' ≡ replaced_answer start width v bytes =
    sym placed.1.1.1.1
    ∙ replace-field-says put.0 put.1.0 put.1.1.0 put.1.1.1.0 put.1.1.1.1.0
    ∙ (λ i. replaced_answer (placed.1.0 i) (placed.1.1.0 i) (placed.1.1.1.0 i) (placed.0 i)) in
    (read-field-says call.0 call.1.0 r call.1.1.0 call.1.1.1.0).0
    ∙ (λ i. field_answer (given.1.0 i) (given.1.1 i) (given.0 i))
    ∙ ap (field_answer start width) left
    ∙ read-replaced start width v bytes narrow inside
    ∙ mod-eq_of_lt fits

-- ---- refusal 5

-- a satellite that does not carry it is HADES-D
not_carried : (n : ℕ) → n ≤ 6 → (carried (printed n) 1 ≡ true → ⊥) → n ≡ 0
not_carried zero small lacks = refl
not_carried (suc n) small lacks = absurd (lacks (sends (suc n) (omega arith) small).0)

-- the number that is answered for type t, by the tests ahead of test 5 and behind it, none of which has its number
module _ (n t m : ℕ) (ahead behind : List Said) (is_one : t ≡ 1) (lacks : T (others_than 5 ahead)) (none : T (others_than 5 behind)) where
  abbrev said : List Said
  said = named n ∷ (ahead ++ (says 5 (carried (printed n) t ≡ true) ∷ behind))

  only-hades-d : Answered m said → (m ≡ 5 → n ≡ 0) × (n ≡ 0 → AllSaid ahead → m ≡ 5)
  only-hades-d answered =
      let test = carried (printed n) t ≡ true in (
        λ five. let fails = answered-fails 5 (named n ∷ ahead) test behind (omega arith) lacks none
            (subst (λ (k : ℕ). Answered k said) five answered) in
            not_carried n fails.0.0 (λ carries. fails.1 (ap (carried (printed n)) is_one ∙ carries)),
        λ zeroth held. answered-once said m 5 answered
            (fails-answered 5 (named n ∷ ahead) test behind (omega (arith, zeroth), held) (λ carries. hades-d-not zeroth is_one carries)),
      )

five-in-reading : {n : ℕ} {frame room frame' room' : List ℕ} {r : Reading} → Read n frame room r frame' room'
    → type_in (printed n) frame ≡ 1 → (r.refusal ≡ 5 → n ≡ 0) × (n ≡ 0 → UpToFour n frame → r.refusal ≡ 5)
five-in-reading {n = n} {frame = frame} {room = room} {r = r} call is_one =
    only-hades-d n (type_in (printed n) frame) r.refusal (says 2 _ ∷ says 3 _ ∷ says 4 _ ∷ [])
    (says 6 _ ∷ says 7 _ ∷ roomy (printed n) frame room ∷ summed (printed n) frame ∷ []) is_one tt tt (read_number call)

five-in-editing : {n k v : ℕ} {frame frame' : List ℕ} {e : Writing} → Edit n frame k v e frame'
    → type_in (printed n) frame ≡ 1 → (e.refusal ≡ 5 → n ≡ 0) × (n ≡ 0 → UpToFour n frame → e.refusal ≡ 5)
five-in-editing {n = n} {k = k} {v = v} {frame = frame} {e = e} call is_one =
    only-hades-d n (type_in (printed n) frame) e.refusal (says 2 _ ∷ says 3 _ ∷ says 4 _ ∷ [])
    (says 6 _ ∷ says 7 _ ∷ summed (printed n) frame ∷ fielded (printed n) frame k v) is_one tt tt (edit-number call)

five-in-writing : {n : ℕ} {values output values' output' : List ℕ} {w : Writing} → Write n 1 values output w values' output'
    → (w.refusal ≡ 5 → n ≡ 0) × (n ≡ 0 → w.refusal ≡ 5)
five-in-writing {n = n} {w = w} call =
    let both = only-hades-d n 1 w.refusal [] (says 10 _ ∷ says 11 _ ∷ says 12 _ ∷ []) refl tt tt (write-number call) in
    (both.0, λ zeroth. both.1 zeroth (tt {0}))

-- ---- writing

is-written : {n : ℕ} {values output values' output' : List ℕ} {w : Writing} → 1 ≤ n → n ≤ 6 → Write n 1 values output w values' output'
    → length values ≡ 19 → ((i : ℕ) → i < 19 → get_or values i 0 < 2 ^ width_at (widths (printed n) 1) i)
    → type_byte_at (printed n) + size (printed n) 1 ≤ length output
    → w.refusal ≡ 0
is-written {n = n} {values = values} {output = output} {w = w} low high call count fit long =
    let said = writing_said n 1 values output in
    let facts = sends n low high in
    answered-once said w.refusal 0 (write-number call)
    (all-answered said (high, (facts.0, (count ∙ sym facts.1.0, (λ i h. fit i (rw facts.1.0 at h), (long, tt {0}))))))

pub power-frames : PowerFrames
unfolding document-000 document-002 document-004 width_named text same total lines lines_of of_type table counted among carried_by found
power-frames =
    record {
      its-widths = widths-printed;
      its-names = names-printed;
      sum-of-000 = refl;
      sum-of-002 = refl;
      sum-of-004 = refl;
      bytes = bytes;
      bytes-of-6 = (sends 6 (omega arith) (omega arith)).1.1;
      any-field-read = λ c. any-field-read c;
      any-field-written = λ c. any-field-written c;
      any-field-read-back = λ c d. any-field-read-back c d;
      six-lines = refl;
      in-their-places = as-printed;
      is-written = λ low high c. is-written low high c;
      five-in-reading = λ c is_one. five-in-reading c is_one;
      five-in-writing = λ c. five-in-writing c;
      five-in-editing = λ c is_one. five-in-editing c is_one;
    }
