-- A file that was written is refused with 3 to 7, with 21, or not at all: each of its records is whole and of a known kind, and the end comes last.
-- Assumes nothing.
use mathlib.Core.Path.{◌≡◌, refl, ap, subst}
use mathlib.Core.Logic.{◌⊎◌, inl, inr, ◌≢◌}
use mathlib.Core.Bool.{Bool, true, false, not, ◌&&◌}
use mathlib.Core.Option.{Option, none, some}
use mathlib.Core.List.{List, [], ◌∷◌, ◌++◌, map, append_assoc}
use Prim.Native.Nat.{ℕ, zero, suc, ◌+◌, ◌≤◌}
use native.Mathlib.Omega.{arith}
use lib.Dec.{leb, ltb, eqb}
use lib.ListN.{length, drop, length-append, length-drop}
use borrow.Author.Tests.{ltb-true}
use Rattle.plain.specs.Choose.{pick}
use Rattle.plain.proofs.Tests.{picked}
use Rattle.study.specs.Study.{Action, Roster, Study, always}
use Rattle.study.specs.Reading.{Said, says, refused, Record, variable, action, condition, task, seed, end, times, present, crew, Draft, blank, allowed, in_range, above, last_action, fault, fault_in}
use Rattle.study.specs.Uses.{first_unused}
use Rattle.study.specs.Reading.{Verdict, first_repeat, unrepeated, ended, taken, unless, follow, read_on, reading}
use Rattle.lawful.specs.Lengths.{bytes_of}
use Rattle.spelling.specs.Spelling.{kind_of, spelled_record, spelled}
use Rattle.spelling.specs.Lists.{Team, Lists, condition_record, task_record, times_record, action_records, team_records, behind, crew_records, records_of, file_of}
use Rattle.spelling.proofs.Spelled.{some_bytes, spelled-length, rest_there, spelled_verdict}

-- ---- the end comes last

abbrev EndsLast : List Record → Type 0
EndsLast [] = ⊥
EndsLast (r ∷ rs) = ((kind_of r ≢ 6) × EndsLast rs) ⊎ ((kind_of r ≡ 6) × (rs ≡ []))

goes_on : (r : Record) (rs : List Record) → kind_of r ≢ 6 → EndsLast (r ∷ rs) → EndsLast rs
goes_on r rs h (inl e) = e.1
goes_on r rs h (inr e) = absurd (h e.0)

none_follows : (rs : List Record) → EndsLast (end ∷ rs) → rs ≡ []
none_follows rs (inl e) = absurd (e.0 refl)
none_follows rs (inr e) = e.1

others_first :
    {A : Type 0} (f : A → Record) → ((x : A) → kind_of (f x) ≢ 6)
    → (xs : List A) (rs : List Record) → EndsLast rs → EndsLast (map f xs ++ rs)
others_first f h [] rs e = e
others_first f h (x ∷ xs) rs e = inl (h x, others_first f h xs rs e)

-- .. or one that may not be written
perhaps_first : (b : Bool) (r : Record) → kind_of r ≢ 6 → (rs : List Record) → EndsLast rs → EndsLast (pick b [] (r ∷ []) ++ rs)
perhaps_first true r h rs e = e
perhaps_first false r h rs e = inl (h, e)

actions_first : (xs : List Action) (rs : List Record) → EndsLast rs → EndsLast (action_records xs ++ rs)
unfolding action_records
actions_first [] rs e = e
actions_first (x ∷ xs) rs e =
    inl (
      (λ h. omega arith),
      simp append_assoc
          (others_first condition_record (λ c h. omega arith) x.conditions (times_record x.situations ++ (action_records xs ++ rs))
          (perhaps_first (eqb x.situations always) (times x.situations) (λ h. omega arith) (action_records xs ++ rs) (actions_first xs rs e))),
    )

team_first : (k : Team) (rs : List Record) → EndsLast rs → EndsLast (team_records k ++ rs)
team_first k rs e = simp append_assoc (others_first task_record (λ t h. omega arith) k.tasks (seed k.seed ∷ rs) (inl ((λ h. omega arith), e)))

behind_ends_last : (ks : List Team) → EndsLast (behind ks)
unfolding behind
behind_ends_last [] = inr (refl, refl)
behind_ends_last (k ∷ ks) = inl ((λ h. omega arith), team_first k (behind ks) (behind_ends_last ks))

crews_end_last : (ks : List Team) → EndsLast (crew_records ks)
unfolding crew_records
crews_end_last [] = inr (refl, refl)
crews_end_last (k ∷ ks) = team_first k (behind ks) (behind_ends_last ks)

lists_end_last : (l : Lists) → EndsLast (records_of l)
unfolding records_of
lists_end_last l =
    perhaps_first (eqb l.situation 0) (present l.situation) (λ h. omega arith) _
    (others_first variable (λ n h. omega arith) l.variables _
    (actions_first l.actions _ (crews_end_last l.crews)))

-- ---- what a record earns

abbrev pub FaultOfLists : Said Roster → Type 0
FaultOfLists (says s) = Unit {0}
FaultOfLists (refused number place) = ((3 ≤ number) × (number ≤ 7)) ⊎ (number ≡ 21)

-- a fault is 0 or 4 to 6
abbrev Fault : ℕ → Type 0
Fault n = 1 ≤ n → (4 ≤ n) × (n ≤ 6)

one_of : (b : Bool) {x y : ℕ} → (b ≡ true → Fault x) → (b ≡ false → Fault y) → Fault (pick b x y)
one_of = picked Fault

faults : (s : Study) (r : Record) → Fault (fault s r)
unfolding fault
faults s (variable n) = one_of (leb 32 (length s.counts)) (λ _ h. omega arith) (λ _. one_of (leb 2 n && leb n 16) (λ _ h. omega arith) (λ _ h. omega arith))
faults s (action v p q) =
    one_of (leb 256 (length s.actions)) (λ _ h. omega arith)
    λ _. one_of (not (in_range s v p && in_range s v q)) (λ _ h. omega arith)
    λ _. one_of (eqb p q) (λ _ h. omega arith) (λ _ h. omega arith)
faults s (condition v q) =
    one_of (not (in_range s v q)) (λ _ h. omega arith)
    λ _. one_of (eqb v (last_action s).var) (λ _ h. omega arith)
    λ _. one_of (above (last_action s).conditions v) (λ _ h. omega arith) (λ _ h. omega arith)
faults s (task v p q) = one_of (eqb v (length s.tasks) && (in_range s v p && in_range s v q)) (λ _ h. omega arith) (λ _ h. omega arith)
faults s (seed n) = one_of (leb 1 n && leb n 2147483646) (λ _ h. omega arith) (λ _ h. omega arith)
faults s end = λ h. omega arith
faults s (times n) = one_of (eqb n always) (λ _ h. omega arith) (λ _ h. omega arith)
faults s (present n) = one_of (leb n 7) (λ _. one_of (eqb n 0) (λ _ h. omega arith) (λ _ h. omega arith)) (λ _ h. omega arith)
faults s crew = λ h. omega arith

faults_in : (d : Draft) (r : Record) → Fault (fault_in d r)
unfolding fault_in
faults_in d (variable n) = faults d.study (variable n)
faults_in d (action v p q) = faults d.study (action v p q)
faults_in d (condition v q) = faults d.study (condition v q)
faults_in d (task v p q) = faults d.study (task v p q)
faults_in d (seed n) = faults d.study (seed n)
faults_in d end = faults d.study end
faults_in d (times n) = faults d.study (times n)
faults_in d (present n) = faults d.study (present n)
faults_in d crew = one_of (leb 8 (length d.crews)) (λ _ h. omega arith) (λ _ h. omega arith)

unless-fault : (n at : ℕ) (v : Verdict) (read : ℕ → Draft → Said Roster) → Fault n → FaultOfLists (follow v read) → FaultOfLists (follow (unless n at v) read)
unfolding unless
unless-fault zero at v read h g = g
unless-fault (suc n) at v read h g = let f = h (omega arith) in inl (omega arith)

-- ---- reading on where records are spelled

module _ (file : List ℕ) where
  unrepeated_fault_of_lists :
      (d : Draft) (next : ℕ) (unused : Option ℕ) → drop next file ≡ [] → FaultOfLists (unrepeated file next d unused)
  unrepeated_fault_of_lists d next (some v) nothing = inr (omega arith)
  unrepeated_fault_of_lists d next none nothing =
      picked FaultOfLists (ltb next (length file))
      (λ more. absurd (omega (arith, ltb-true next (length file) more, length-drop next file, ap length nothing)))
      (λ _. tt)

  ended_fault_of_lists : (d : Draft) (next : ℕ) (repeat : Option ℕ) → drop next file ≡ [] → FaultOfLists (ended file next d repeat)
  ended_fault_of_lists d next (some i) nothing = inl (omega arith)
  ended_fault_of_lists d next none nothing = unrepeated_fault_of_lists d next (first_unused d.study) nothing

  taken_fault_of_lists :
      (at : ℕ) (d : Draft) (next : ℕ) (read : ℕ → Draft → Said Roster) (r : Record) (rs : List Record) → drop next file ≡ spelled rs → EndsLast (r ∷ rs)
      → (EndsLast rs → (d' : Draft) → FaultOfLists (read next d')) → FaultOfLists (follow (taken file at d (kind_of r) next r) read)
  unfolding taken spelled
  taken_fault_of_lists at d next read (variable n) rs here ends on = on (goes_on (variable n) rs (λ h. omega arith) ends) _
  taken_fault_of_lists at d next read (action v p q) rs here ends on = on (goes_on (action v p q) rs (λ h. omega arith) ends) _
  taken_fault_of_lists at d next read (condition v q) rs here ends on = on (goes_on (condition v q) rs (λ h. omega arith) ends) _
  taken_fault_of_lists at d next read (task v p q) rs here ends on = on (goes_on (task v p q) rs (λ h. omega arith) ends) _
  taken_fault_of_lists at d next read (seed n) rs here ends on = on (goes_on (seed n) rs (λ h. omega arith) ends) _
  taken_fault_of_lists at d next read end rs here ends on =
      ended_fault_of_lists d next (first_repeat d.study) (rw (none_follows rs ends) at here)
  taken_fault_of_lists at d next read (times n) rs here ends on = on (goes_on (times n) rs (λ h. omega arith) ends) _
  taken_fault_of_lists at d next read (present n) rs here ends on = on (goes_on (present n) rs (λ h. omega arith) ends) _
  taken_fault_of_lists at d next read crew rs here ends on = on (goes_on crew rs (λ h. omega arith) ends) _

  -- a look for each record is enough
  read_on_fault_of_lists :
      (rs : List Record) (n at : ℕ) (d : Draft) → drop at file ≡ spelled rs → EndsLast rs → length rs ≤ n → FaultOfLists (read_on n file at d)
  unfolding read_on spelled
  read_on_fault_of_lists [] n at d here ends looks = absurd ends
  read_on_fault_of_lists (r ∷ rs) zero at d here ends looks = absurd (omega arith)
  read_on_fault_of_lists (r ∷ rs) (suc n) at d here ends looks =
      let there = rest_there file (spelled rs) at r here in
      rw (spelled_verdict file (spelled rs) at r here d)
      (picked (λ (v : Verdict). FaultOfLists (follow v (read_on n file))) (allowed d (kind_of r))
      (λ _. unless-fault (fault_in d r) at _ (read_on n file) (faults_in d r)
      (taken_fault_of_lists at d (at + bytes_of r) (read_on n file) r rs there ends
      (λ e d'. read_on_fault_of_lists rs n (at + bytes_of r) d' there e (omega arith))))
      (λ _. inl (omega arith)))

fewer_records : (rs : List Record) → length rs ≤ length (spelled rs)
unfolding spelled
fewer_records [] = omega arith
fewer_records (r ∷ rs) = omega (arith, fewer_records rs, length-append (spelled_record r) (spelled rs), spelled-length r, some_bytes r)

pub written_fault_of_lists : (l : Lists) → FaultOfLists (reading (file_of l))
unfolding reading file_of
written_fault_of_lists l =
    read_on_fault_of_lists (file_of l) (records_of l) (length (file_of l) + 1) 0 blank refl (lists_end_last l) (omega (arith, fewer_records (records_of l)))

pub written_never_1_2_8 : (l : Lists) (number place : ℕ) → reading (file_of l) ≡ refused number place → ((3 ≤ number) × (number ≤ 7)) ⊎ (number ≡ 21)
written_never_1_2_8 l number place e = subst FaultOfLists e (written_fault_of_lists l)
