-- A call from C answers and leaves what the call that it stands for can: with the same parameters, and an answer of the same numbers.
-- Assumes nothing.
use Prim.Native.Nat.{ℕ}
use mathlib.Core.Path.{sym, ◌∙◌, ap}
use mathlib.Core.List.{List}
use Rattle.satellites.specs.Satellites.{known}
use Rattle.frames.specs.Answers.{Reading, Writing}
use Rattle.frames.specs.Registers.{register_of}
use Rattle.frames.proofs.Given.{result-read, result-written, result-edited}
use Rattle.tolimbar.specs.declared.Reading as in_c
use Rattle.tolimbar.specs.declared.Writing as written_in_c
use Rattle.tolimbar.proofs.Contracts.{read-says, write-says, edit-says}
use Rattle.tolimbar.proofs.Determined.{read-asks-nothing, write-asks-nothing, edit-asks-nothing}
use Rattle.demands.specs.Demands.{Read, Write, Edit, ReadFromC, WriteFromC, EditFromC, FromC}

abbrev reading : in_c.Reading → Reading
reading c = record { refusal = c.refusal; ty = c.ty; count = c.count }

abbrev writing : written_in_c.Writing → Writing
writing c = record { refusal = c.refusal; answer = c.answer }

read-from-c : {n : ℕ} {frame room frame' room' : List ℕ} {c : in_c.Reading} → ReadFromC n frame room c frame' room'
    → Read n frame room (reading c) frame' room'
read-from-c {c = c} (κs, (a, (s, (post, given)))) =
    let says = read-says κs a c s post in
    let made = result-read register_of (known a.0) a.1.0.now a.1.1.0.now in (κs, (a, (s, (made.0, (made.1 ∙ sym (ap reading says.0), ((made.1, says.1), given))))))

write-from-c : {n t : ℕ} {values output values' output' : List ℕ} {c : written_in_c.Writing}
    → WriteFromC n t values output c values' output' → Write n t values output (writing c) values' output'
write-from-c {c = c} (κs, (a, (s, (post, given)))) =
    let says = write-says κs a c s post in
    let made = result-written (known a.0) a.1.0 a.1.1.0.now a.1.1.1.0.now in (κs, (a, (s, (made.0, (made.1 ∙ sym (ap writing says.0), ((made.1, says.1), given))))))

edit-from-c : {n k v : ℕ} {frame frame' : List ℕ} {c : written_in_c.Writing} → EditFromC n frame k v c frame'
    → Edit n frame k v (writing c) frame'
edit-from-c {c = c} (κs, (a, (s, (post, given)))) =
    let says = edit-says κs a c s post in
    let made = result-edited register_of (known a.0) a.1.0.now a.1.1.0 a.1.1.1.0 in (κs, (a, (s, (made.0, (made.1 ∙ sym (ap writing says.0), ((made.1, says.1), given))))))

pub from-c : FromC
from-c =
    record {
      read-from-c-for-all = read-asks-nothing;
      write-from-c-for-all = write-asks-nothing;
      edit-from-c-for-all = edit-asks-nothing;
      read-from-c = λ d. read-from-c d;
      write-from-c = λ d. write-from-c d;
      edit-from-c = λ d. edit-from-c d;
    }
