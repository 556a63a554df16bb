-- What a record without fault tells of its numbers.
-- Assumes nothing.
use mathlib.Core.Path.{◌≡◌}
use mathlib.Core.Bool.{Bool, true, not, ◌&&◌, and-eq-true_iff}
use mathlib.Core.List.{List}
use Prim.Native.Nat.{ℕ, ◌<◌, ◌≤◌}
use native.Mathlib.Omega.{arith}
use lib.Dec.{leb, eqb}
use lib.ListN.{get_or}
use borrow.Author.Tests.{leb-true, leb-false, eqb-true, eqb-false, not-false}
use Rattle.plain.proofs.Tests.{picked, not_refused, not_missed}
use Rattle.judging.specs.Faults.{in_table, variable_fault_lem, action_fault_lem, condition_fault_lem, task_fault_lem, present_fault_lem, crew_fault_lem}
use Rattle.judging.proofs.Tests.{in_table_lem}

both : (a b : Bool) → (a && b) ≡ true → (a ≡ true) × (b ≡ true)
both a b e = (and-eq-true_iff a b).0 e

pub variable_bounds : {vars n : ℕ} → variable_fault_lem vars n ≡ 0 → (vars < 32) × (2 ≤ n) × (n ≤ 16)
unfolding variable_fault_lem
variable_bounds {vars} {n} e =
    let a = not_refused (leb 32 vars) 3 _ e in
    let b = both (leb 2 n) (leb n 16) (not_missed _ 4 a.1) in
    (leb-false 32 vars a.0, leb-true 2 n b.0, leb-true n 16 b.1)

pub condition_bounds :
    (counts : List ℕ) {vars own above v q : ℕ} → condition_fault_lem counts vars own above v q ≡ 0
    → (v < vars) × (q < get_or counts v 0) × (v ≡ own → ⊥) × (above ≤ v)
unfolding condition_fault_lem
condition_bounds counts {vars} {own} {above} {v} {q} e =
    let a = not_refused (not (in_table counts vars v q)) 4 _ e in
    let b = not_refused (eqb v own) 5 _ a.1 in
    let t = in_table_lem counts vars v q (not-false _ a.0) in
    (t.0, t.1, eqb-false v own b.0, leb-true above v (not_missed _ 5 b.1))

pub task_bounds :
    (counts : List ℕ) {vars tasks v p q : ℕ} → task_fault_lem counts vars tasks v p q ≡ 0
    → (v ≡ tasks) × (v < vars) × (p < get_or counts v 0) × (q < get_or counts v 0)
unfolding task_fault_lem
task_bounds counts {vars} {tasks} {v} {p} {q} e =
    let a = both (eqb v tasks) _ (not_missed _ 4 e) in
    let b = both (in_table counts vars v p) (in_table counts vars v q) a.1 in
    let s = in_table_lem counts vars v p b.0 in
    (eqb-true v tasks a.0, s.0, s.1, (in_table_lem counts vars v q b.1).1)

pub action_bounds :
    (counts : List ℕ) {vars actions v p q : ℕ} → action_fault_lem counts vars actions v p q ≡ 0
    → (actions < 256) × (v < vars) × (p < get_or counts v 0) × (q < get_or counts v 0)
unfolding action_fault_lem
action_bounds counts {vars} {actions} {v} {p} {q} e =
    let a = not_refused (leb 256 actions) 3 _ e in
    let b = not_refused (not (in_table counts vars v p && in_table counts vars v q)) 4 _ a.1 in
    let t = both (in_table counts vars v p) (in_table counts vars v q) (not-false _ b.0) in
    let s = in_table_lem counts vars v p t.0 in
    (leb-false 256 actions a.0, s.0, s.1, (in_table_lem counts vars v q t.1).1)

pub present_bounds : {n : ℕ} → present_fault_lem n ≡ 0 → n ≤ 7
unfolding present_fault_lem
present_bounds {n} e = picked (λ (m : ℕ). m ≡ 0 → n ≤ 7) (leb n 7) (λ low _. leb-true n 7 low) (λ _ m. absurd (omega arith)) e

pub crew_bounds : {crews : ℕ} → crew_fault_lem crews ≡ 0 → crews < 8
unfolding crew_fault_lem
crew_bounds {crews} e = leb-false 8 crews (not_refused (leb 8 crews) 3 _ e).0
