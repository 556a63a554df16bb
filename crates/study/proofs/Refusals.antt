-- A file that is refused is refused with a number from 1 to 8, or with 21.
-- Assumes nothing.
use mathlib.Core.Path.{◌≡◌}
use mathlib.Core.Logic.{◌⊎◌, inl, inr, ◌≢◌}
use mathlib.Core.Bool.{Bool, true, false, not, ◌&&◌}
use mathlib.Core.Option.{Option, none, some}
use mathlib.Core.List.{List}
use Prim.Native.Nat.{ℕ, zero, suc, ◌≤◌}
use native.Mathlib.Omega.{arith}
use lib.Dec.{leb, ltb, eqb}
use lib.ListN.{length}
use Rattle.plain.specs.Choose.{pick}
use Rattle.plain.proofs.Tests.{picked}
use Rattle.records.specs.Records.{record_at_lem}
use Rattle.records.specs.declared.Found.{Found}
use Rattle.records.specs.declared.Found.TheVariants.{There, Unknown, Cut, Ended}
use Rattle.study.specs.Study.{Study, Roster, always}
use Rattle.study.specs.Reading.{Said, says, refused, Record, variable, action, condition, task, seed, end, times, present, crew, record_from, Draft, allowed, in_range, above, last_action, fault, fault_in}
use Rattle.study.specs.Uses.{first_unused}
use Rattle.study.specs.Reading.{Verdict, first_repeat, unrepeated, ended, taken, unless, judged, verdict_at, reading, heard_by, reading_for}
use Rattle.study.proofs.Readings.{VerdictHas, reading_has}

-- the numbers by which a file is refused
abbrev pub Numbered : ℕ → Type 0
Numbered number = ((1 ≤ number) × (number ≤ 8)) ⊎ (number ≡ 21)

abbrev pub NumberedIfRefused : Said Roster → Type 0
NumberedIfRefused (says t) = Unit {0}
NumberedIfRefused (refused number place) = Numbered number

pub numbered_some : {number : ℕ} → Numbered number → 1 ≤ number
numbered_some (inl h) = h.0
numbered_some (inr e) = omega arith

-- 9 to 20 are no file's
pub numbered_outside : {number : ℕ} → Numbered number → (other : ℕ) → 9 ≤ other → other ≤ 20 → number ≢ other
numbered_outside (inl h) other low high e = omega arith
numbered_outside (inr h) other low high e = omega arith

abbrev NumberedVerdict : Verdict → Type 0
NumberedVerdict = VerdictHas NumberedIfRefused (λ at d. Unit {0})

small : (b : Bool) {x y : ℕ} → (b ≡ true → x ≤ 6) → (b ≡ false → y ≤ 6) → pick b x y ≤ 6
small = picked (λ (n : ℕ). n ≤ 6)

-- 7 is no record's fault: the end record decides it
pub fault_small : (s : Study) (r : Record) → fault s r ≤ 6
unfolding fault
fault_small s (variable n) = small (leb 32 (length s.counts)) (λ _. omega arith) (λ _. small (leb 2 n && leb n 16) (λ _. omega arith) (λ _. omega arith))
fault_small s (action v p q) =
    small (leb 256 (length s.actions)) (λ _. omega arith)
    λ _. small (not (in_range s v p && in_range s v q)) (λ _. omega arith)
    λ _. small (eqb p q) (λ _. omega arith) (λ _. omega arith)
fault_small s (condition v q) =
    small (not (in_range s v q)) (λ _. omega arith)
    λ _. small (eqb v (last_action s).var) (λ _. omega arith)
    λ _. small (above (last_action s).conditions v) (λ _. omega arith) (λ _. omega arith)
fault_small s (task v p q) = small (eqb v (length s.tasks) && (in_range s v p && in_range s v q)) (λ _. omega arith) (λ _. omega arith)
fault_small s (seed n) = small (leb 1 n && leb n 2147483646) (λ _. omega arith) (λ _. omega arith)
fault_small s end = omega arith
fault_small s (times n) = small (eqb n always) (λ _. omega arith) (λ _. omega arith)
fault_small s (present n) = small (leb n 7) (λ _. small (eqb n 0) (λ _. omega arith) (λ _. omega arith)) (λ _. omega arith)
fault_small s crew = omega arith

pub fault_in_small : (d : Draft) (r : Record) → fault_in d r ≤ 6
unfolding fault_in
fault_in_small d (variable n) = fault_small d.study (variable n)
fault_in_small d (action v p q) = fault_small d.study (action v p q)
fault_in_small d (condition v q) = fault_small d.study (condition v q)
fault_in_small d (task v p q) = fault_small d.study (task v p q)
fault_in_small d (seed n) = fault_small d.study (seed n)
fault_in_small d end = fault_small d.study end
fault_in_small d (times n) = fault_small d.study (times n)
fault_in_small d (present n) = fault_small d.study (present n)
fault_in_small d crew = small (leb 8 (length d.crews)) (λ _. omega arith) (λ _. omega arith)

unrepeated_numbered : (file : List ℕ) (next : ℕ) (d : Draft) (unused : Option ℕ) → NumberedIfRefused (unrepeated file next d unused)
unrepeated_numbered file next d (some v) = inr (omega arith)
unrepeated_numbered file next d none = picked NumberedIfRefused (ltb next (length file)) (λ _. inl (omega arith)) (λ _. tt)

ended_numbered : (file : List ℕ) (next : ℕ) (d : Draft) (repeat : Option ℕ) → NumberedIfRefused (ended file next d repeat)
ended_numbered file next d (some i) = inl (omega arith)
ended_numbered file next d none = unrepeated_numbered file next d (first_unused d.study)

taken_numbered : (file : List ℕ) (at : ℕ) (d : Draft) (kind next : ℕ) (r : Record) → NumberedVerdict (taken file at d kind next r)
unfolding taken
taken_numbered file at d kind next (variable n) = tt
taken_numbered file at d kind next (action v p q) = tt
taken_numbered file at d kind next (condition v q) = tt
taken_numbered file at d kind next (task v p q) = tt
taken_numbered file at d kind next (seed n) = tt
taken_numbered file at d kind next end = ended_numbered file next d (first_repeat d.study)
taken_numbered file at d kind next (times n) = tt
taken_numbered file at d kind next (present n) = tt
taken_numbered file at d kind next crew = tt

unless_numbered : (n at : ℕ) (v : Verdict) → n ≤ 6 → NumberedVerdict v → NumberedVerdict (unless n at v)
unfolding unless
unless_numbered zero at v small h = h
unless_numbered (suc n) at v small h = inl (omega arith)

judged_numbered : (file : List ℕ) (at : ℕ) (d : Draft) (f : Found) → NumberedVerdict (judged file at d f)
unfolding judged
judged_numbered file at d (There kind start next) =
    picked NumberedVerdict (allowed d kind)
    (λ _. unless_numbered (fault_in d (record_from file start kind)) at _ (fault_in_small d (record_from file start kind)) (taken_numbered file at d kind next (record_from file start kind)))
    (λ _. inl (omega arith))
judged_numbered file at d (Unknown place) = inl (omega arith)
judged_numbered file at d (Cut kind place) = inl (picked (λ (n : ℕ). (1 ≤ n) × (n ≤ 8)) (allowed d kind) (λ _. omega arith) (λ _. omega arith))
judged_numbered file at d (Ended place) = inl (omega arith)

verdict_numbered : (file : List ℕ) (at : ℕ) (d : Draft) → NumberedVerdict (verdict_at file at d)
unfolding verdict_at
verdict_numbered file at d = judged_numbered file at d (record_at_lem file at)

pub refusals_numbered : (file : List ℕ) → NumberedIfRefused (reading file)
refusals_numbered file = reading_has NumberedIfRefused (λ at d. Unit {0}) file (inl (omega arith)) (λ at d _. verdict_numbered file at d) tt

-- ---- what is said to a crew

-- .. and 22
abbrev pub NumberedTo : ℕ → Type 0
NumberedTo number = Numbered number ⊎ (number ≡ 22)

abbrev pub NumberedIfHeard : Said Study → Type 0
NumberedIfHeard (says t) = Unit {0}
NumberedIfHeard (refused number place) = NumberedTo number

pub heard_some : {number : ℕ} → NumberedTo number → 1 ≤ number
heard_some (inl h) = numbered_some h
heard_some (inr e) = omega arith

pub heard_outside : {number : ℕ} → NumberedTo number → (other : ℕ) → 9 ≤ other → other ≤ 20 → number ≢ other
heard_outside (inl h) other low high e = numbered_outside h other low high e
heard_outside (inr h) other low high e = omega arith

heard_by_numbered : (c : ℕ) (said : Said Roster) → NumberedIfRefused said → NumberedIfHeard (heard_by c said)
heard_by_numbered c (says r) h = picked NumberedIfHeard (ltb c (length r.crews)) (λ _. tt) (λ _. inr (omega arith))
heard_by_numbered c (refused number place) h = inl h

pub refusals_heard : (file : List ℕ) (c : ℕ) → NumberedIfHeard (reading_for file c)
refusals_heard file c = heard_by_numbered c (reading file) (refusals_numbered file)
