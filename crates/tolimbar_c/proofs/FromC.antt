-- The last part of the demands (Demands.antt of the crate `demands`, "from C"), about the functions themselves that C links: each call of
-- this crate's `tolimbar_read`, `tolimbar_write` and `tolimbar_edit` is one of the desk's calls. The record `FromC` states it, and `from-c` at
-- the end proves it: each call promises what that of its name in the crate tolimbar does (Contracts.antt), and of those the demands say it.
-- It stands here and not in specs/, since a file there may not speak of the contracts of its own crate.
-- Assumes nothing.
--
-- `Read`, `Write` and `Edit` are the desk's calls, as Demands.antt has them, and so are the words for what a call is given and leaves.
use Prim.Native.Nat.{ℕ}
use mathlib.Core.Path.{◌≡◌}
use mathlib.Core.List.{List}
use Rattle.tolimbar.specs.declared.Reading.{Reading}
use Rattle.tolimbar.specs.declared.Writing.{Writing}
use Rattle.demands.specs.Demands.{Read, Write, Edit}
use Rattle.demands.proofs.FromC as demands
use Rattle.tolimbar_c.proofs.tolimbar_read.Reads as read
use Rattle.tolimbar_c.proofs.tolimbar_write.Reads as write
use Rattle.tolimbar_c.proofs.tolimbar_edit.Reads as edit
use Rattle.tolimbar_c.proofs.Contracts.{read-as-called, write-as-called, edit-as-called}
use Rattle.tolimbar_c.proofs.Determined.{read-asks-nothing, write-asks-nothing, edit-asks-nothing}

-- called for satellite n with this frame and this room, `tolimbar_read` answers c and leaves frame' and room'
abbrev pub ReadFromC : ℕ → List ℕ → List ℕ → Reading → List ℕ → List ℕ → Type 0
ReadFromC n frame room c frame' room' =
    (κs : _) × ((a : _) × ((s : _) × (read.Post κs a c s
    × ((a.0 ≡ n) × ((a.1.0.now ≡ frame) × ((a.1.1.0.now ≡ room)
    × ((s.1.0.now ≡ frame') × (s.1.1.0.now ≡ room'))))))))

-- called for satellite n, type t, these values and this output, `tolimbar_write` answers c and leaves values' and output'
abbrev pub WriteFromC : ℕ → ℕ → List ℕ → List ℕ → Writing → List ℕ → List ℕ → Type 0
WriteFromC n t values output c values' output' =
    (κs : _) × ((a : _) × ((s : _) × (write.Post κs a c s
    × ((a.0 ≡ n) × ((a.1.0 ≡ t) × ((a.1.1.0.now ≡ values) × ((a.1.1.1.0.now ≡ output)
    × ((s.1.1.0.now ≡ values') × (s.1.1.1.0.now ≡ output')))))))))

-- called for satellite n, this frame, field k and value v, `tolimbar_edit` answers c and leaves frame'
abbrev pub EditFromC : ℕ → List ℕ → ℕ → ℕ → Writing → List ℕ → Type 0
EditFromC n frame k v c frame' =
    (κs : _) × ((a : _) × ((s : _) × (edit.Post κs a c s
    × ((a.0 ≡ n) × ((a.1.0.now ≡ frame) × ((a.1.1.0 ≡ k) × ((a.1.1.1.0 ≡ v) × (s.1.0.now ≡ frame'))))))))

-- a call from C is one of the desk's, so that each clause of the three demands holds of it too, also where calls of both kinds meet
pub record FromC : Type 0 where
  -- "for all input": a call asks nothing. What C lends is what include/tolimbar.h says of it
  pub read-from-c-for-all : (κs a : _) → read.Pre κs a
  pub write-from-c-for-all : (κs a : _) → write.Pre κs a
  pub edit-from-c-for-all : (κs a : _) → edit.Pre κs a
  -- the numbers that it answers, in a struct of C's, are those of a call of the desk's that was given the same and left the same
  pub read-from-c : {n : ℕ} {frame room frame' room' : List ℕ} {c : Reading} → ReadFromC n frame room c frame' room'
      → Read n frame room (record { refusal = c.refusal; ty = c.ty; count = c.count }) frame' room'
  pub write-from-c : {n t : ℕ} {values output values' output' : List ℕ} {c : Writing}
      → WriteFromC n t values output c values' output'
      → Write n t values output (record { refusal = c.refusal; answer = c.answer }) values' output'
  pub edit-from-c : {n k v : ℕ} {frame frame' : List ℕ} {c : Writing} → EditFromC n frame k v c frame'
      → Edit n frame k v (record { refusal = c.refusal; answer = c.answer }) frame'

-- ---- the proof

pub from-c : FromC
from-c =
    record {
      read-from-c-for-all = read-asks-nothing;
      write-from-c-for-all = write-asks-nothing;
      edit-from-c-for-all = edit-asks-nothing;
      read-from-c = λ (κs, (a, (s, (post, given)))). demands.from-c.read-from-c (κs, (a, (s, (read-as-called κs a _ s post, given))));
      write-from-c = λ (κs, (a, (s, (post, given)))). demands.from-c.write-from-c (κs, (a, (s, (write-as-called κs a _ s post, given))));
      edit-from-c = λ (κs, (a, (s, (post, given)))). demands.from-c.edit-from-c (κs, (a, (s, (edit-as-called κs a _ s post, given))));
    }
