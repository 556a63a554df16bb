-- What a record without fault tells, by its kind.
-- Assumes nothing.
use mathlib.Core.Path.{◌≡◌}
use mathlib.Core.Logic.{◌≢◌}
use mathlib.Core.Bool.{true, not, ◌&&◌, and-eq-true_iff}
use mathlib.Core.List.{List, [], ◌∷◌}
use Prim.Native.Nat.{ℕ, zero, suc, ◌≤◌, ◌<◌}
use native.Mathlib.Omega.{arith}
use lib.Dec.{leb, ltb, eqb}
use lib.ListN.{length, get_or}
use borrow.Author.Tests.{ltb-true, leb-true, leb-false, eqb-true, eqb-false, not-false}
use Rattle.plain.proofs.Tests.{picked, not_refused, not_missed}
use Rattle.study.specs.Study.{Condition, Study, always, condition_at}
use Rattle.study.specs.Reading.{Record, variable, action, condition, task, seed, end, times, present, crew, Draft, in_range, above, last_action, fault, fault_in}
use Rattle.lawful.specs.Lawful.{Has}

pub in_range_has : (s : Study) (v q : ℕ) → in_range s v q ≡ true → Has s.counts v q
in_range_has s v q e =
    let t = (and-eq-true_iff (ltb v (length s.counts)) (ltb q (get_or s.counts v 0))).0 e in
    record { there = ltb-true v (length s.counts) t.0; small = ltb-true q (get_or s.counts v 0) t.1 }

-- the last condition's variable is below
pub above_last : (cs : List Condition) (v : ℕ) → above cs v ≡ true → (k : ℕ) → suc k ≡ length cs → (condition_at cs k).var < v
unfolding above
above_last [] v e k h = absurd (omega arith)
above_last (c ∷ []) v e zero h = ltb-true c.var v e
above_last (c ∷ []) v e (suc k) h = absurd (omega arith)
above_last (c ∷ (d ∷ rest)) v e zero h = absurd (omega arith)
above_last (c ∷ (d ∷ rest)) v e (suc k) h = above_last (d ∷ rest) v e k (omega arith)

abbrev pub Faultless : Study → Record → Type 0
Faultless s (variable n) = (length s.counts < 32) × (2 ≤ n) × (n ≤ 16)
Faultless s (action v p q) = (length s.actions < 256) × Has s.counts v p × Has s.counts v q × (p ≢ q)
Faultless s (condition v q) = Has s.counts v q × (v ≢ (last_action s).var) × (above (last_action s).conditions v ≡ true)
Faultless s (task v p q) = (v ≡ length s.tasks) × Has s.counts v p × Has s.counts v q
Faultless s (seed n) = (1 ≤ n) × (n ≤ 2147483646)
Faultless s end = Unit
Faultless s (times n) = n ≢ always
Faultless s (present n) = (n ≤ 7) × (n ≢ 0)
Faultless s crew = Unit

pub faultless : (s : Study) (r : Record) → fault s r ≡ 0 → Faultless s r
unfolding fault
faultless s (variable n) e =
    let a = not_refused (leb 32 (length s.counts)) 3 _ e in
    let b = (and-eq-true_iff (leb 2 n) (leb n 16)).0 (not_missed _ 4 a.1) in
    (leb-false 32 (length s.counts) a.0, leb-true 2 n b.0, leb-true n 16 b.1)
faultless s (action v p q) e =
    let a = not_refused (leb 256 (length s.actions)) 3 _ e in
    let b = not_refused (not (in_range s v p && in_range s v q)) 4 _ a.1 in
    let c = not_refused (eqb p q) 5 _ b.1 in
    let r = (and-eq-true_iff (in_range s v p) (in_range s v q)).0 (not-false _ b.0) in
    (leb-false 256 (length s.actions) a.0, in_range_has s v p r.0, in_range_has s v q r.1, eqb-false p q c.0)
faultless s (condition v q) e =
    let a = not_refused (not (in_range s v q)) 4 _ e in
    let b = not_refused (eqb v (last_action s).var) 5 _ a.1 in
    (in_range_has s v q (not-false _ a.0), eqb-false v (last_action s).var b.0, not_missed _ 5 b.1)
faultless s (task v p q) e =
    let a = (and-eq-true_iff (eqb v (length s.tasks)) (in_range s v p && in_range s v q)).0 (not_missed _ 4 e) in
    let b = (and-eq-true_iff (in_range s v p) (in_range s v q)).0 a.1 in
    (eqb-true v (length s.tasks) a.0, in_range_has s v p b.0, in_range_has s v q b.1)
faultless s (seed n) e =
    let a = (and-eq-true_iff (leb 1 n) (leb n 2147483646)).0 (not_missed _ 4 e) in
    (leb-true 1 n a.0, leb-true n 2147483646 a.1)
faultless s end e = tt
faultless s (times n) e = eqb-false n always (not_refused (eqb n always) 5 _ e).0
faultless s (present n) e =
    picked (λ (m : ℕ). m ≡ 0 → (n ≤ 7) × (n ≢ 0)) (leb n 7)
    (λ low m. (leb-true n 7 low, eqb-false n 0 (not_refused (eqb n 0) 5 _ m).0))
    (λ _ m. absurd (omega arith)) e
faultless s crew e = tt

-- .. and where a ninth crew is a fault too
abbrev pub FaultlessIn : Draft → Record → Type 0
FaultlessIn d (variable n) = Faultless d.study (variable n)
FaultlessIn d (action v p q) = Faultless d.study (action v p q)
FaultlessIn d (condition v q) = Faultless d.study (condition v q)
FaultlessIn d (task v p q) = Faultless d.study (task v p q)
FaultlessIn d (seed n) = Faultless d.study (seed n)
FaultlessIn d end = Faultless d.study end
FaultlessIn d (times n) = Faultless d.study (times n)
FaultlessIn d (present n) = Faultless d.study (present n)
FaultlessIn d crew = length d.crews < 8

pub faultless_in : (d : Draft) (r : Record) → fault_in d r ≡ 0 → FaultlessIn d r
unfolding fault_in
faultless_in d (variable n) e = faultless d.study (variable n) e
faultless_in d (action v p q) e = faultless d.study (action v p q) e
faultless_in d (condition v q) e = faultless d.study (condition v q) e
faultless_in d (task v p q) e = faultless d.study (task v p q) e
faultless_in d (seed n) e = faultless d.study (seed n) e
faultless_in d end e = faultless d.study end e
faultless_in d (times n) e = faultless d.study (times n) e
faultless_in d (present n) e = faultless d.study (present n) e
faultless_in d crew e = leb-false 8 (length d.crews) (not_refused (leb 8 (length d.crews)) 3 _ e).0
