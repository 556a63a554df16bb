-- The faults 4 to 6 of a record, as the tables tell them.
-- Assumes nothing.
use Rattle.std.specs.Prelude.{ℕ, Bool, not, ◌&&◌, List, leb, ltb, eqb, get_or}
use Rattle.plain.specs.Choose.{pick}
use Rattle.study.specs.Study.{always}

-- there is such a variable, and the value is one of its values
unfoldable pub in_table : List ℕ → ℕ → ℕ → ℕ → Bool
in_table counts vars v q = ltb v vars && ltb q (get_or counts v 0)

unfoldable pub variable_fault_lem : ℕ → ℕ → ℕ
variable_fault_lem vars n = pick (leb 32 vars) 4 (pick (leb 2 n && leb n 16) 0 5)

unfoldable pub action_fault_lem : List ℕ → (vars actions v p q : ℕ) → ℕ
action_fault_lem counts vars actions v p q =
    pick (leb 256 actions) 4
    (pick (not (in_table counts vars v p && in_table counts vars v q)) 5
    (pick (eqb p q) 6 0))

unfoldable pub condition_fault_lem : List ℕ → (vars own above v q : ℕ) → ℕ
condition_fault_lem counts vars own above v q =
    pick (not (in_table counts vars v q)) 5
    (pick (eqb v own) 6
    (pick (leb above v) 0 6))

unfoldable pub task_fault_lem : List ℕ → (vars tasks v p q : ℕ) → ℕ
task_fault_lem counts vars tasks v p q = pick (eqb v tasks && (in_table counts vars v p && in_table counts vars v q)) 0 5

unfoldable pub seed_fault_lem : ℕ → ℕ
seed_fault_lem n = pick (leb 1 n && leb n 2147483646) 0 5

unfoldable pub times_fault_lem : ℕ → ℕ
times_fault_lem n = pick (eqb n always) 6 0

unfoldable pub present_fault_lem : ℕ → ℕ
present_fault_lem n = pick (leb n 7) (pick (eqb n 0) 6 0) 5

-- a ninth crew
unfoldable pub crew_fault_lem : ℕ → ℕ
crew_fault_lem crews = pick (leb 8 crews) 4 0
