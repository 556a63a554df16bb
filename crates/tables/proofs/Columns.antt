-- Laws of columns: their length, their entries, and a row that is put in.
-- Assumes nothing.
use mathlib.Core.Path.{◌≡◌, refl, sym, ap, ◌∙◌}
use mathlib.Core.List.{List, [], ◌∷◌}
use Prim.Native.Nat.{ℕ, zero, suc, ◌/◌}
use native.Mathlib.Omega.{arith}
use lib.Dec.{ltb, eqb}
use lib.ListN.{length, get_or, set}
use lib.Seq.{set-get_or}
use borrow.Author.Tests.{ltb-true, lt-ltb, eqb-true, eq-eqb}
use Rattle.plain.proofs.Tests.{same_test}
use Rattle.tables.specs.Rows.{Row, column, field, place_in, many_in, out_column, out_in, opened_action, opened_variable_lem, OpensAction, OpensVariable}

module _ (f : Row → ℕ) where
  pub column_length : (rows : List Row) → length (column f rows) ≡ length rows
  unfolding column
  column_length [] = refl
  column_length (row ∷ rows) = ap suc (column_length rows)

  pub column_at : f [] ≡ 0 → (rows : List Row) (i : ℕ) → get_or (column f rows) i 0 ≡ f (get_or rows i [])
  unfolding column
  column_at e [] i = sym e
  column_at e (row ∷ rows) zero = refl
  column_at e (row ∷ rows) (suc i) = column_at e rows i

  pub column_set : (rows : List Row) (i : ℕ) (row : Row) → column f (set rows i row) ≡ set (column f rows) i (f row)
  unfolding column
  column_set [] i row = refl
  column_set (r ∷ rows) zero row = refl
  column_set (r ∷ rows) (suc i) row = ap (λ (l : List ℕ). f r ∷ l) (column_set rows i row)

-- a row that is opened holds what the columns hold
pub opens : (acts : List Row) (i : ℕ) → OpensAction acts i (opened_action (get_or acts i []))
opens acts i = record {
  var = sym (column_at (field 0) refl acts i);
  pre = sym (column_at (field 1) refl acts i);
  post = sym (column_at (field 2) refl acts i);
  many = sym (column_at many_in refl acts i);
  place = sym (column_at place_in refl acts i);
}

pub opens_variable : (vars : List Row) (v : ℕ) → OpensVariable vars v (opened_variable_lem (get_or vars v []))
opens_variable vars v = record {
  count = sym (column_at (field 0) refl vars v);
  start = sym (column_at (field 1) refl vars v);
  goal = sym (column_at (field 2) refl vars v);
}

-- a row that is put in with the same number in its field leaves the column as it was
pub column_kept :
    (f : Row → ℕ) → f [] ≡ 0 → (rows : List Row) (i : ℕ) (row : Row) → f row ≡ f (get_or rows i []) → column f (set rows i row) ≡ column f rows
column_kept f e rows i row same =
    column_set f rows i row ∙ (ap (λ (x : ℕ). set (column f rows) i x) (same ∙ sym (column_at f e rows i)) ∙ set-get_or (column f rows) i 0)

-- an action is in force where its row has no 64 more
no_more : (x : ℕ) → ltb x 64 ≡ eqb (x / 64) 0
no_more x = same_test _ _ (λ e. eq-eqb (x / 64) 0 (omega (arith, ltb-true x 64 e))) (λ e. lt-ltb x 64 (omega (arith, eqb-true (x / 64) 0 e)))

pub in_force_row : (acts : List Row) (i : ℕ) → ltb (field 3 (get_or acts i [])) 64 ≡ eqb (get_or (out_column acts) i 0) 0
in_force_row acts i = no_more (field 3 (get_or acts i [])) ∙ ap (λ (x : ℕ). eqb x 0) (sym (column_at out_in refl acts i))
