-- The code's table is the documents': one test that compares their lines, and the law that leads from the test to the row of every
-- satellite and type. Assumes nothing.
use Prim.Native.Nat.{ℕ}
use mathlib.Core.Path.{◌≡◌, refl, sym, ◌∙◌, ap, subst}
use mathlib.Core.Bool.{Bool, true, false, cond, ◌&&◌}
use mathlib.Core.List.{List, [], ◌∷◌}
use denote.Ref.{Bor}
use lib.Dec.{T, eqb, eqb→eq}
use mir.Facts.{and_yes}
use Rattle.std.specs.Prelude.{Option, Some, None, option_map, unwrap_or, MatchOption}
use Rattle.std.specs.List.{find, list_any}
use Rattle.refusals.specs.Tests.{same}
use Rattle.refusals.proofs.Tests.{same-equal}
use Rattle.layouts.specs.Layouts.{among}
use Rattle.names.specs.declared.table.Line.{Line as Kept}
use Rattle.names.specs.Fields.{Line, table, names_in, joined_names}
use Rattle.names.proofs.Everywhere.{true-is}

-- a line of the code's table and one of the documents' have the same type, the same satellites and the same names
abbrev same_line : Kept → Line → Bool
same_line w l = eqb w.ty l.frame_type && (same w.sent_by.now l.sent_by && same w.names.now (joined_names l.names))

unfoldable pub keeps : List Kept → List Line → Bool
keeps [] [] = true
keeps [] (l ∷ ls) = false
keeps (w ∷ ws) [] = false
keeps (w ∷ ws) (l ∷ ls) = same_line w l && keeps ws ls

-- whether a line is that of a satellite's type, as the code tests it
abbrev pub is_of : ℕ → ℕ → Kept → Bool
is_of number ty w = list_any (λ n. eqb n number) w.sent_by.now && eqb w.ty ty

among-is : (n : ℕ) (ns : List ℕ) → list_any (λ m. eqb m n) ns ≡ among n ns
unfolding among
among-is n [] = refl
among-is n (m ∷ ms) = rw (among-is n ms)

module _ (number ty : ℕ) where
  -- the row that is found is the table's
  pub same_rows : (ws : List Kept) (ls : List Line) → T (keeps ws ls)
      → unwrap_or (option_map (λ (w : Kept). w.names.now) (find (is_of number ty) ws)) [] ≡ joined_names (names_in number ty ls)
  unfolding keeps names_in
  same_rows [] [] t = refl
  same_rows [] (l ∷ ls) t = absurd t
  same_rows (w ∷ ws) [] t = absurd t
  same_rows (w ∷ ws) (l ∷ ls) t =
      let line = and_yes (same_line w l) (keeps ws ls) t in
      let first = and_yes (eqb w.ty l.frame_type) (same w.sent_by.now l.sent_by && same w.names.now (joined_names l.names)) line.0 in
      let second = and_yes (same w.sent_by.now l.sent_by) (same w.names.now (joined_names l.names)) first.1 in
      let type = eqb→eq w.ty l.frame_type first.0 in
      let sent = same-equal w.sent_by.now l.sent_by (true-is (same w.sent_by.now l.sent_by) second.0) in
      let names = same-equal w.names.now (joined_names l.names) (true-is (same w.names.now (joined_names l.names)) second.1) in
      let test : is_of number ty w ≡ among number l.sent_by && eqb l.frame_type ty = rw (sent, among-is number l.sent_by, type) in
      rw test
      (go (among number l.sent_by && eqb l.frame_type ty) names (same_rows ws ls line.1))
    where
      go : (b : Bool) → w.names.now ≡ joined_names l.names
          → unwrap_or (option_map (λ (w : Kept). w.names.now) (find (is_of number ty) ws)) [] ≡ joined_names (names_in number ty ls)
          → unwrap_or (option_map (λ (w : Kept). w.names.now) (cond b (Some w) (find (is_of number ty) ws))) []
          ≡ joined_names (cond b l.names (names_in number ty ls))
      go true this rest = this
      go false this rest = rest

  -- what the code answers: the names of the line that it finds, and none where it finds none
  pub row_kept : {P : Type 0} {Q : Bor Kept → Type 0} (lines : List Kept) {ws : List Kept} (r : Option (Bor Kept)) (row : List ℕ)
      → lines ≡ ws → T (keeps ws table) → option_map (λ (w : Bor Kept). w.now) r ≡ find (is_of number ty) lines → MatchOption r P Q → (P → row ≡ [])
      → ((w : Bor Kept) → Q w → row ≡ w.now.names.now) → row ≡ joined_names (names_in number ty table)
  row_kept {P} {Q} lines {ws} r row e t found m none some =
      given r m ∙ ap (λ o. unwrap_or (option_map (λ (w : Kept). w.names.now) o) []) found
      ∙ same_rows lines table (subst (λ (ws : List Kept). T (keeps ws table)) (sym e) t)
    where
      given : (r : Option (Bor Kept)) → MatchOption r P Q
          → row ≡ unwrap_or (option_map (λ (w : Kept). w.names.now) (option_map (λ (w : Bor Kept). w.now) r)) []
      given None p = none p
      given (Some w) q = some w q
