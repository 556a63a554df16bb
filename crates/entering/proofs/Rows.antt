-- A row that is stored: what it does to each column.
-- Assumes nothing.
use mathlib.Core.Path.{◌≡◌, refl}
use mathlib.Core.List.{List, [], ◌∷◌}
use Prim.Native.Nat.{ℕ, ◌+◌, ◌*◌, ◌<◌, ◌/◌, ◌%◌}
use native.Mathlib.Omega.{arith}
use lib.ListN.{get_or, set}
use Rattle.tables.specs.Tables.{action_tables}
use Rattle.tables.specs.Rows.{Row, field, place_in, many_in, out_in, count_column, start_column, goal_column, seen}
use Rattle.tables.proofs.Columns.{column_set, column_kept}
use Rattle.advancing.specs.Steps.{with_many}

-- a place in two bytes
two_bytes : (n : ℕ) → n < 65536 → n % 256 + 256 * (n / 256 % 256) ≡ n
two_bytes n h = omega arith

module _ (rows : List Row) (i : ℕ) where
  pub count_stored :
      (n : ℕ) {rows' : List Row}
      → rows' ≡ set rows i (n ∷ field 1 (get_or rows i []) ∷ field 2 (get_or rows i []) ∷ [])
      → (count_column rows' ≡ set (count_column rows) i n) × (start_column rows' ≡ start_column rows) × (goal_column rows' ≡ goal_column rows)
  count_stored n e = rw e (column_set (field 0) rows i _, column_kept (field 1) refl rows i _ refl, column_kept (field 2) refl rows i _ refl)

  pub task_stored :
      (start goal : ℕ) {rows' : List Row}
      → rows' ≡ set rows i (field 0 (get_or rows i []) ∷ start ∷ goal ∷ [])
      → (count_column rows' ≡ count_column rows) × (start_column rows' ≡ set (start_column rows) i start) × (goal_column rows' ≡ set (goal_column rows) i goal)
  task_stored start goal e = rw e (column_kept (field 0) refl rows i _ refl, column_set (field 1) rows i _, column_set (field 2) rows i _)

  pub many_stored :
      (many : ℕ) {rows' : List Row}
      → rows' ≡ set rows i (field 0 (get_or rows i []) ∷ field 1 (get_or rows i []) ∷ field 2 (get_or rows i []) ∷ many ∷ field 4 (get_or rows i []) ∷ field 5 (get_or rows i []) ∷ [])
      → (setters : List ℕ) → seen setters rows' ≡ with_many (seen setters rows) i many
  many_stored many e setters =
      rw (
        e,
        column_kept (field 0) refl rows i _ refl,
        column_kept (field 1) refl rows i _ refl,
        column_kept (field 2) refl rows i _ refl,
        column_kept place_in refl rows i _ refl,
        column_set many_in rows i _,
        column_set out_in rows i _,
      )

  pub action_stored :
      (v pre post next : ℕ) → next < 65536 → {rows' : List Row}
      → rows' ≡ set rows i (v ∷ pre ∷ post ∷ 0 ∷ (next % 256) ∷ (next / 256 % 256) ∷ [])
      → (setters : List ℕ)
      → seen setters rows'
      ≡ action_tables setters (set (seen setters rows).vars i v) (set (seen setters rows).pres i pre) (set (seen setters rows).posts i post)
      (set (seen setters rows).places i next) (set (seen setters rows).manys i 0) (set (seen setters rows).outs i 0)
  action_stored v pre post next small e setters =
      rw (
        e,
        column_set (field 0) rows i _,
        column_set (field 1) rows i _,
        column_set (field 2) rows i _,
        column_set place_in rows i _,
        column_set many_in rows i _,
        column_set out_in rows i _,
        two_bytes next small,
      )
