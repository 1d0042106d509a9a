-- Demand 1 holds.
-- Assumes nothing.
use Prim.Native.Nat.{ℕ}
use native.Mathlib.Omega.{arith}
use mathlib.Core.Path.{◌≡◌, sym, ◌∙◌, ap, subst}
use mathlib.Core.List.{List}
use mathlib.Core.Logic.{◌≢◌}
use Rattle.satellites.specs.Satellites.{known}
use Rattle.frames.specs.Answers.{Reading, Writing}
use Rattle.frames.specs.Registers.{register_of}
use Rattle.frames.proofs.DemandOne as one
use Rattle.reading.proofs.Determined.{read-asks-nothing}
use Rattle.writing.proofs.Determined.{write-asks-nothing}
use Rattle.editing.proofs.Determined.{edit-asks-nothing}
use Rattle.frames.specs.Paper.{widths}
use Rattle.demands.specs.Demands.{printed, Read, Write, Edit, Lowest, DemandOne}
use Rattle.demands.proofs.Calls.{read-gives, read_number}
use Rattle.demands.proofs.Calls.{write-gives, write-number, write-named, write-answer}
use Rattle.demands.proofs.Calls.{edit-gives, edit-number}

read-refused : {n : ℕ} {frame room frame' room' : List ℕ} {r : Reading} → Read n frame room r frame' room' → r.refusal ≢ 0
    → ((frame' ≡ frame) × (room' ≡ room)) × ((r.ty ≡ 0) × (r.count ≡ 0))
read-refused {n = n} {frame = frame} {room = room} {r = r} c some =
    let gives = read-gives c in
    let refused = one.reading-refused register_of (known n) frame room r.refusal (sym (ap (λ (a : Reading). a.refusal) gives.0)) some in
    let answer = gives.0 ∙ refused.0 in
    ((gives.1.1.0, gives.1.0 ∙ refused.1), (ap (λ (a : Reading). a.ty) answer, ap (λ (a : Reading). a.count) answer))

write-refused : {n t : ℕ} {values output values' output' : List ℕ} {w : Writing} → Write n t values output w values' output'
    → w.refusal ≢ 0 → ((values' ≡ values) × (output' ≡ output)) × (w.refusal ≢ 11 → w.answer ≡ 0)
write-refused {n = n} {t = t} {values = values} {output = output} {w = w} c some =
    let gives = write-gives c in
    let number = sym (ap (λ (a : Writing). a.refusal) gives.0) in
    let refused = one.writing-refused register_of (known n) t values output w.refusal number some in
    ((gives.1.1, gives.1.0 ∙ refused.1), λ other. ap (λ (a : Writing). a.answer) (gives.0 ∙ refused.0 other))

write-lowest : {n t : ℕ} {values output values' output' : List ℕ} {w : Writing} → Write n t values output w values' output'
    → w.refusal ≡ 11 → Lowest (widths (printed n) t) values w.answer
write-lowest {n = n} {t = t} {values = values} {output = output} {w = w} c e =
    let other : w.refusal ≢ 1 = λ one. omega (arith, e, one) in
    let named = write-named c other in
    let answer = sym (write-answer c other) ∙ (λ i. record { refusal = e i; answer = w.answer }) in
    subst (λ p. Lowest (widths p t) values w.answer) named.as-printed
    (one.writing-lowest named.satellite t w.answer values output answer)

edit-refused : {n k v : ℕ} {frame frame' : List ℕ} {e : Writing} → Edit n frame k v e frame' → e.refusal ≢ 0
    → (frame' ≡ frame) × ((e.refusal ≢ 11 → e.answer ≡ 0) × (e.refusal ≡ 11 → e.answer ≡ k))
edit-refused {n = n} {k = k} {v = v} {frame = frame} {e = e} c some =
    let gives = edit-gives c in
    let number = sym (ap (λ (a : Writing). a.refusal) gives.0) in
    let refused = one.editing-refused register_of (known n) frame k v e.refusal number some in (
      gives.1 ∙ refused.1.1,
      (
        λ other. ap (λ (a : Writing). a.answer) (gives.0 ∙ refused.0 other),
        λ eleven. ap (λ (a : Writing). a.answer) (gives.0 ∙ refused.1.0 eleven),
      ),
    )

pub demand-one : DemandOne
demand-one =
    record {
      read-for-all = read-asks-nothing;
      write-for-all = write-asks-nothing;
      edit-for-all = edit-asks-nothing;
      read-alone = λ c d. let p = read-gives c in let q = read-gives d in
          (p.0 ∙ sym q.0, (p.1.1.0 ∙ sym q.1.1.0, p.1.0 ∙ sym q.1.0));
      write_alone = λ c d. let p = write-gives c in let q = write-gives d in
          (p.0 ∙ sym q.0, (p.1.1 ∙ sym q.1.1, p.1.0 ∙ sym q.1.0));
      edit-alone = λ c d. let p = edit-gives c in let q = edit-gives d in (p.0 ∙ sym q.0, p.1 ∙ sym q.1);
      read_number = λ c. read_number c;
      write-number = λ c. write-number c;
      edit-number = λ c. edit-number c;
      read-lent = λ c. (read-gives c).1.1.0;
      write-lent = λ c. (write-gives c).1.1;
      read-refused = λ c some. read-refused c some;
      write-refused = λ c some. write-refused c some;
      write-lowest = λ c e. write-lowest c e;
      edit-refused = λ c some. edit-refused c some;
    }
