-- Good training put before some bytes, `training s ++ rest`: what the tests of a frame ask is asked of `rest`, which starts with sync.
-- Assumes nothing.
use Prim.Native.Nat.{ℕ, ◌+◌, ◌-◌}
use native.Mathlib.Omega.{arith}
use mathlib.Core.Path.{◌≡◌, refl, ◌∙◌, ap, ap₂}
use mathlib.Core.Bool.{Bool, true, false, not, ◌&&◌, ◌||◌, cond}
use mathlib.Core.List.{List, [], ◌∷◌, ◌++◌}
use lib.Dec.{eqb, ltb}
use lib.ListN.{length, get_or, take, drop, length-append, length-replicate}
use lib.Seq.{take_at, drop_at, drop-append-add, get_or-append-add}
use borrow.Author.Tests.{ltb-true, lt-ltb, ltb-false, le-ltb, eqb-true, eq-eqb, eqb-false, ne_eqb}
use Rattle.scrambler.specs.Scrambler.{Register}
use Rattle.satellites.specs.declared.Satellite.{Satellite}
use Rattle.satellites.specs.Satellites.{address_of, training_of, size_byte_of, type_byte_at}
use Rattle.layouts.specs.Layouts.{carries, entry_of}
use Rattle.refusals.specs.Tests.{Test, test, same}
use Rattle.refusals.proofs.Tests.{equal-same}
use Rattle.frames.specs.Frames.{training, sync, size_in, from_type_byte, type_in, address_in, type_of, frame_length}
use Rattle.frames.specs.Reading.{trained, synced, front_tests, whole_tests, frame_tests, checksum_right}

-- the place of the type byte, counted from sync
abbrev pub behind_sync : Satellite → ℕ
behind_sync s = 2 + cond (size_byte_of s) 1 0

-- a bound that both sides are moved by
moved : (n a b : ℕ) → ltb (n + a) (n + b) ≡ ltb a b
moved n a b = go (ltb a b) refl
  where
    go : (below : Bool) → ltb a b ≡ below → ltb (n + a) (n + b) ≡ below
    go true e = lt-ltb (n + a) (n + b) (omega (arith, ltb-true a b e))
    go false e = le-ltb (n + a) (n + b) (omega (arith, ltb-false a b e))

moved-equal : (n a b : ℕ) → eqb (n + a) (n + b) ≡ eqb a b
moved-equal n a b = go (eqb a b) refl
  where
    go : (equal : Bool) → eqb a b ≡ equal → eqb (n + a) (n + b) ≡ equal
    go true e = eq-eqb (n + a) (n + b) (omega (arith, eqb-true a b e))
    go false e = ne_eqb (n + a) (n + b) (λ same. eqb-false a b e (omega (arith, same)))

module _ (s : Satellite) (rest : List ℕ) where
  abbrev frame : List ℕ
  frame = training s ++ rest

  -- what lies from the type byte on
  abbrev part : List ℕ
  part = drop (behind_sync s) rest

  long : length (training s) ≡ training_of s
  long = length-replicate (training_of s) 0xAA

  type-byte : type_byte_at s ≡ length (training s) + behind_sync s
  type-byte = omega (arith, long)

  -- the training is good
  pub is-trained : trained s frame ≡ true
  is-trained = ap (λ (l : List ℕ). same l (training s)) (take_at (training s) rest (training_of s) long) ∙ equal-same (training s)

  -- sync is the first of the rest
  pub sync-first : synced s frame ≡ same (take 2 rest) sync
  sync-first = ap (λ (l : List ℕ). same (take 2 l) sync) (drop_at (training s) rest (training_of s) long)

  pub part-behind : from_type_byte s frame ≡ part
  part-behind = ap (λ (n : ℕ). drop n frame) type-byte ∙ drop-append-add (training s) rest (behind_sync s)

  long-enough : ltb (type_byte_at s) (length frame) ≡ ltb (behind_sync s) (length rest)
  long-enough = ap₂ ltb type-byte (length-append (training s) rest) ∙ moved (length (training s)) (behind_sync s) (length rest)

  sized : (has : Bool) → size_byte_of s ≡ has → (size : ℕ) → not has || eqb (size_in s frame) size ≡ not has || eqb (get_or rest 2 0) size
  sized false none size = refl
  sized true has size =
      let at : type_byte_at s ≡ training_of s + 2 + 1 = ap (λ (b : Bool). training_of s + 2 + cond b 1 0) has in
      let place : type_byte_at s - 1 ≡ length (training s) + 2 = omega (arith, at, long) in
      ap (λ (byte : ℕ). eqb byte size) (ap (λ (k : ℕ). get_or frame k 0) place ∙ get_or-append-add (training s) rest 2 0)

  -- tests 2 to 6, asked of the rest
  abbrev pub rest_tests : List Test
  rest_tests =
      test 2 (ltb (behind_sync s) (length rest))
      ∷ test 3 (same (take 2 rest) sync)
      ∷ test 4 (eqb (address_in part) (address_of s))
      ∷ test 5 (carries s (type_in part))
      ∷ test 6 (not (size_byte_of s) || eqb (get_or rest 2 0) (entry_of s (type_in part)).size)
      ∷ []

  pub front-of-rest : front_tests s frame ≡ rest_tests
  unfolding front_tests
  front-of-rest =
      let behind : Bool → Bool → List ℕ → Bool → List Test = λ two three p six.
      test 2 two ∷ test 3 three ∷ test 4 (eqb (address_in p) (address_of s)) ∷ test 5 (carries s (type_in p)) ∷ test 6 six ∷ [] in
      let size : List ℕ → Bool = λ p. not (size_byte_of s) || eqb (size_in s frame) (entry_of s (type_in p)).size in
      ap₂ (λ (two three : Bool). behind two three (from_type_byte s frame) (size (from_type_byte s frame))) long-enough
      (ap (λ (b : Bool). b && synced s frame) is-trained ∙ sync-first)
      ∙ ap (λ (p : List ℕ). behind (ltb (behind_sync s) (length rest)) (same (take 2 rest) sync) p (size p)) part-behind
      ∙ ap (behind (ltb (behind_sync s) (length rest)) (same (take 2 rest) sync) part)
      (sized (size_byte_of s) refl (entry_of s (type_in part)).size)

  as_long : eqb (length frame) (frame_length s (type_of s frame)) ≡ eqb (length rest) (behind_sync s + (entry_of s (type_in part)).size)
  as_long =
      let size = (entry_of s (type_in part)).size in
      let whole : type_byte_at s + size ≡ length (training s) + (behind_sync s + size) = omega (arith, type-byte) in
      ap₂ eqb (length-append (training s) rest) (ap (λ (p : List ℕ). frame_length s (type_in p)) part-behind ∙ whole)
      ∙ moved-equal (length (training s)) (length rest) (behind_sync s + size)

  -- and with 7 and 9, all of a frame that is accepted whatever its room
  pub frame-of-rest : (r : Register)
      → frame_tests r s frame
      ≡ (rest_tests ++ (test 7 (eqb (length rest) (behind_sync s + (entry_of s (type_in part)).size)) ∷ []))
      ++ (test 9 (checksum_right r part) ∷ [])
  unfolding frame_tests whole_tests
  frame-of-rest r =
      ap₂ ◌++◌ (ap₂ (λ (ts : List Test) (seven : Bool). ts ++ (test 7 seven ∷ [])) front-of-rest as_long)
      (ap (λ (p : List ℕ). test 9 (checksum_right r p) ∷ []) part-behind)
