-- What stands ahead of the type byte.
-- Assumes nothing.
use Prim.Native.Nat.{ℕ, ◌+◌, ◌-◌, ◌≤◌}
use native.Mathlib.Omega.{arith}
use mathlib.Core.Path.{◌≡◌, refl, sym, ◌∙◌, ap, ap₂}
use mathlib.Core.Bool.{Bool, true, false, cond}
use mathlib.Core.List.{List, [], ◌∷◌, ◌++◌, append_assoc}
use lib.ListN.{length, length-append, get_or, take, drop, length-replicate}
use lib.Seq.{take-add, drop-cons}
use Rattle.satellites.specs.declared.Satellite.{Satellite}
use Rattle.satellites.specs.Satellites.{training_of, size_byte_of, type_byte_at}
use Rattle.frames.specs.Frames.{training, sync, size_byte, ahead, size_in}

pub length-ahead : (s : Satellite) (size : ℕ) → length (ahead s size) ≡ type_byte_at s
length-ahead s size =
    length-append (training s) (sync ++ cond (size_byte_of s) (size ∷ []) [])
    ∙ rw (length-replicate {A = ℕ} (training_of s) 0xAA) (by (size_byte_of s))
  where
    by : (has : Bool) → training_of s + length (sync ++ cond has (size ∷ []) []) ≡ training_of s + 2 + cond has 1 0
    by true = omega arith
    by false = omega arith

-- ---- a frame whose front is right

module _ (s : Satellite) (size : ℕ) (frame : List ℕ)
    (trained : take (training_of s) frame ≡ training s)
    (synced : take 2 (drop (training_of s) frame) ≡ sync)
    (sized : size_byte_of s ≡ true → size_in s frame ≡ size)
    (long : type_byte_at s ≤ length frame) where
  size-byte : (has : Bool) → size_byte_of s ≡ has
      → take (cond has 1 0) (drop (training_of s + 2) frame) ≡ cond has (size ∷ []) []
  size-byte false none = refl
  size-byte true has =
      let at : type_byte_at s ≡ training_of s + 2 + 1 = ap (λ (b : Bool). training_of s + 2 + cond b 1 0) has in
      let ahead_of : type_byte_at s - 1 ≡ training_of s + 2 = omega (arith, at) in
      ap (take 1) (drop-cons frame (training_of s + 2) 0 (omega (arith, long, at)))
      ∙ ap (λ (x : ℕ). x ∷ []) (ap (λ (k : ℕ). get_or frame k 0) (sym ahead_of) ∙ sized has)

  -- so is all that stands ahead of the type byte
  pub is-ahead : take (type_byte_at s) frame ≡ ahead s size
  is-ahead =
      take-add (training_of s + 2) (cond (size_byte_of s) 1 0) frame
      ∙ ap₂ ◌++◌ (take-add (training_of s) 2 frame ∙ ap₂ ◌++◌ trained synced) (size-byte (size_byte_of s) refl)
      ∙ append_assoc (training s) sync (size_byte s size)
