-- The records of what has been read so far, in the file's order: each record that is taken comes behind them.
-- Assumes nothing.
use mathlib.Core.Path.{◌≡◌, refl, ap}
use mathlib.Core.Logic.{◌≢◌}
use mathlib.Core.List.{List, [], ◌∷◌, ◌++◌, map, append-nil, append_assoc, map-append}
use Prim.Native.Nat.{ℕ, zero, suc, ◌+◌, ◌-◌, ◌≤◌}
use native.Mathlib.Omega.{arith}
use lib.Dec.{eqb}
use lib.ListN.{length, set}
use borrow.Author.Tests.{ne_eqb}
use Rattle.plain.specs.Choose.{pick}
use Rattle.study.specs.Study.{Action, Task, Crew, always, action_at}
use Rattle.study.specs.Reading.{Record, variable, action, condition, task, seed, end, times, present, crew, Draft, tasks_left, last_action, with_condition, within, with_actions, with, manned, drafted, roster_of}
use Rattle.lawful.proofs.Order.{stage, stage_same, Follows}
use Rattle.lawful.proofs.Faults.{FaultlessIn}
use Rattle.lawful.proofs.Sound.{Sound}
use Rattle.spelling.specs.Lists.{Team, task_record, times_record, present_record, action_records, team_records, behind, crew_records, records_of, errands_from, team_of, lists_of}

-- crews behind one, each with its opening
unfoldable pub opened : List Team → List Record
opened [] = []
opened (k ∷ rest) = crew ∷ (team_records k ++ opened rest)

-- crews one after another, as far as the seed of the last
unfoldable pub joined : List Team → List Record
joined [] = []
joined (k ∷ rest) = team_records k ++ opened rest

-- what opens a crew behind these
unfoldable pub opening : List Team → List Record
opening [] = []
opening (k ∷ rest) = crew ∷ []

-- the crew whose seed has not been read
abbrev halfway : ℕ → List Team → List Task → List Record
halfway last teams tasks = pick (eqb last 5) [] (opening teams ++ map task_record (errands_from 0 tasks))

abbrev crews_so_far : ℕ → List Team → List Task → List Record
crews_so_far last teams tasks = joined teams ++ halfway last teams tasks

abbrev pub so_far : Draft → List Record
so_far d =
    present_record d.study.situation
    ++ (map variable d.study.counts
    ++ (action_records d.study.actions ++ crews_so_far d.last (map team_of d.crews) d.study.tasks))

-- ---- the parts, with one more

before_seed :
    (last : ℕ) (teams : List Team) (tasks : List Task) → stage last ≤ 4 → halfway last teams tasks ≡ opening teams ++ map task_record (errands_from 0 tasks)
before_seed last teams tasks h = rw (ne_eqb last 5 (λ e. omega (arith, ap stage e)))

behind_seed : (last : ℕ) (teams : List Team) (tasks : List Task) → last ≡ 5 → halfway last teams tasks ≡ []
behind_seed last teams tasks e = rw e

no_crew_yet : (last : ℕ) {crews : List Crew} {tasks : List Task} → stage last ≤ 4 → crews ≡ [] → tasks ≡ [] → crews_so_far last (map team_of crews) tasks ≡ []
unfolding joined opening errands_from
no_crew_yet last {crews} {tasks} h none idle = rw (none, idle) (before_seed last [] [] h)

-- one crew more, behind crews whose last seed has been read
opened_more : (ks : List Team) (k : Team) → opened (ks ++ (k ∷ [])) ≡ opened ks ++ (crew ∷ team_records k)
unfolding opened
opened_more [] k = simp append-nil
opened_more (j ∷ ks) k = simp (opened_more ks k, append_assoc)

joined_more : (ks : List Team) (k : Team) → joined (ks ++ (k ∷ [])) ≡ joined ks ++ (opening ks ++ team_records k)
unfolding joined opening opened
joined_more [] k = simp append-nil
joined_more (j ∷ ks) k = simp (opened_more ks k, append_assoc)

opens : (crews : List Crew) → 1 ≤ length crews → opening (map team_of crews) ≡ crew ∷ []
unfolding opening
opens [] h = absurd (omega arith)
opens (k ∷ rest) h = refl

-- with the end they are all the crews' records
opened_end : (ks : List Team) → opened ks ++ (end ∷ []) ≡ behind ks
unfolding opened behind
opened_end [] = refl
opened_end (k ∷ ks) = simp (append_assoc, opened_end ks)

joined_end : (ks : List Team) → joined ks ++ (end ∷ []) ≡ crew_records ks
unfolding joined crew_records
joined_end [] = refl
joined_end (k ∷ ks) = simp (append_assoc, opened_end ks)

times_written : (n : ℕ) → n ≢ always → times_record n ≡ times n ∷ []
times_written n differ = rw (ne_eqb n always differ)

present_written : (n : ℕ) → n ≢ 0 → present_record n ≡ present n ∷ []
present_written n differ = rw (ne_eqb n 0 differ)

actions_more : (actions : List Action) (a : Action) → action_records (actions ++ (a ∷ [])) ≡ action_records actions ++ action_records (a ∷ [])
unfolding action_records
actions_more [] a = refl
actions_more (b ∷ rest) a = rw (actions_more rest a, append_assoc, append_assoc)

-- the last action, whose situations have not been read, with a record of its own more
newest_more :
    (actions : List Action) (k : ℕ) (f : Action → Action) (r : Record) → suc k ≡ length actions
    → (action_at actions k).situations ≡ always
    → ((a : Action) → a.situations ≡ always → action_records (f a ∷ []) ≡ action_records (a ∷ []) ++ (r ∷ []))
    → action_records (set actions k (f (action_at actions k))) ≡ action_records actions ++ (r ∷ [])
unfolding action_records
newest_more [] k f r e unset more = absurd (omega arith)
newest_more (a ∷ []) zero f r e unset more = more a unset
newest_more (a ∷ (b ∷ rest)) zero f r e unset more = absurd (omega arith)
newest_more (a ∷ rest) (suc k) f r e unset more = rw (newest_more rest k f r (omega arith) unset more, append_assoc, append_assoc)

condition-behind :
    (v q : ℕ) (a : Action) → a.situations ≡ always
    → action_records (with_condition a v q ∷ []) ≡ action_records (a ∷ []) ++ (condition v q ∷ [])
unfolding action_records
condition-behind v q a unset = simp (unset, map-append, append_assoc, append-nil)

times_behind : (n : ℕ) → n ≢ always → (a : Action) → a.situations ≡ always → action_records (within a n ∷ []) ≡ action_records (a ∷ []) ++ (times n ∷ [])
unfolding action_records
times_behind n differ a unset = simp (unset, times_written n differ, append-nil)

errands_more :
    (v w : ℕ) (tasks : List Task) (t : Task) → w ≡ v + length tasks
    → errands_from v (tasks ++ (t ∷ [])) ≡ errands_from v tasks ++ (record { var = w; start = t.start; goal = t.goal } ∷ [])
unfolding errands_from
errands_more v w [] t e = let f : v ≡ w = omega arith in rw f
errands_more v w (u ∷ rest) t e = rw (errands_more (suc v) w rest t (omega arith))

-- ---- a crew with one record more

task_so_far :
    (kind last v : ℕ) (teams : List Team) (tasks : List Task) (t : Task) → stage kind ≤ 4 → stage last ≤ 4 → v ≡ length tasks
    → crews_so_far kind teams (tasks ++ (t ∷ [])) ≡ crews_so_far last teams tasks ++ (task v t.start t.goal ∷ [])
task_so_far kind last v teams tasks t k l e =
    rw (before_seed kind teams (tasks ++ (t ∷ [])) k, before_seed last teams tasks l, errands_more 0 v tasks t (omega arith))
    (simp (map-append, append_assoc))

seed_so_far :
    (kind last : ℕ) (crews : List Crew) (k : Crew) → kind ≡ 5 → stage last ≤ 4
    → crews_so_far kind (map team_of (crews ++ (k ∷ []))) k.tasks ≡ crews_so_far last (map team_of crews) k.tasks ++ (seed k.seed ∷ [])
seed_so_far kind last crews k is l =
    rw (behind_seed kind (map team_of (crews ++ (k ∷ []))) k.tasks is, before_seed last (map team_of crews) k.tasks l)
    (simp (append-nil, map-append, joined_more, append_assoc))

crew_so_far :
    (kind last : ℕ) (crews : List Crew) (tasks : List Task) → stage kind ≤ 4 → last ≡ 5 → 1 ≤ length crews
    → crews_so_far kind (map team_of crews) [] ≡ crews_so_far last (map team_of crews) tasks ++ (crew ∷ [])
unfolding errands_from
crew_so_far kind last crews tasks k is some =
    rw (behind_seed last (map team_of crews) tasks is, before_seed kind (map team_of crews) [] k, opens crews some) (simp append-nil)

-- ---- one record more, that is not the end

module _ {d : Draft} (sound : Sound d) (at kind : ℕ) where
  abbrev pub More : Record → Type 0
  More r = so_far (drafted d at kind r) ≡ so_far d ++ (r ∷ [])

  abbrev IsMore : Record → Type 0
  IsMore r = Follows (tasks_left d.study) d.last kind r → FaultlessIn d r → More r

  pub variable_more : (n : ℕ) → IsMore (variable n)
  unfolding with manned action_records
  variable_more n (is, early) ok =
      simp (
        sound.no_actions early,
        no_crew_yet d.last (omega arith) (sound.no_crews (omega arith)) (sound.no_tasks (omega arith)),
        no_crew_yet kind (omega (arith, ap stage is)) (sound.no_crews (omega arith)) (sound.no_tasks (omega arith)),
        map-append,
        append_assoc,
        append-nil,
      )

  pub action_more : (v p q : ℕ) → IsMore (action v p q)
  unfolding with manned action_records
  action_more v p q (is, low, high) ok =
      simp (
        no_crew_yet d.last (omega arith) (sound.no_crews high) (sound.no_tasks high),
        no_crew_yet kind (omega (arith, ap stage is)) (sound.no_crews high) (sound.no_tasks high),
        actions_more,
        append_assoc,
        append-nil,
      )

  -- one more of the last action's own
  newest_so_far :
      2 ≤ d.last → d.last ≤ 3 → stage kind ≤ 4 → (f : Action → Action) (r : Record)
      → ((a : Action) → a.situations ≡ always → action_records (f a ∷ []) ≡ action_records (a ∷ []) ++ (r ∷ []))
      → so_far (record {
        study = with_actions d.study (set d.study.actions (length d.study.actions - 1) (f (last_action d.study)));
        crews = d.crews;
        last = kind;
        places = d.places;
      })
      ≡ so_far d ++ (r ∷ [])
  newest_so_far low high unseeded f r behind =
      let few : stage d.last ≤ 3 = omega (arith, stage_same d.last (omega arith)) in
      simp (
        no_crew_yet d.last (omega arith) (sound.no_crews few) (sound.no_tasks few),
        no_crew_yet kind unseeded (sound.no_crews few) (sound.no_tasks few),
        newest_more d.study.actions (length d.study.actions - 1) f r (omega (arith, sound.some_action low high)) (sound.still_always low high) behind,
        append_assoc,
        append-nil,
      )

  pub condition_more : (v q : ℕ) → IsMore (condition v q)
  unfolding with manned
  condition_more v q (is, low, high) ok =
      newest_so_far low high (omega (arith, ap stage is)) (λ a. with_condition a v q) (condition v q) (condition-behind v q)

  pub times_more : (n : ℕ) → IsMore (times n)
  unfolding with manned
  times_more n (is, low, high) differ = newest_so_far low high (omega (arith, ap stage is)) (λ a. within a n) (times n) (times_behind n differ)

  -- one more of a crew's own
  of_a_crew :
      (r : Record) (crews : List Crew) (tasks : List Task)
      → crews_so_far kind (map team_of crews) tasks ≡ crews_so_far d.last (map team_of d.crews) d.study.tasks ++ (r ∷ [])
      → present_record d.study.situation
      ++ (map variable d.study.counts ++ (action_records d.study.actions ++ crews_so_far kind (map team_of crews) tasks))
      ≡ so_far d ++ (r ∷ [])
  of_a_crew r crews tasks e = rw e (simp append_assoc)

  pub task_more : (v p q : ℕ) → IsMore (task v p q)
  unfolding with manned
  task_more v p q (is, low, high, left) (next, has_start, has_goal) =
      of_a_crew (task v p q) d.crews (d.study.tasks ++ (record { start = p; goal = q } ∷ []))
      (task_so_far kind d.last v (map team_of d.crews) d.study.tasks (record { start = p; goal = q }) (omega (arith, ap stage is)) high (omega arith))

  pub seed_more : (n : ℕ) → IsMore (seed n)
  unfolding with manned
  seed_more n (is, last, left) ok =
      of_a_crew (seed n) (d.crews ++ (record { tasks = d.study.tasks; seed = n } ∷ [])) d.study.tasks
      (seed_so_far kind d.last d.crews (record { tasks = d.study.tasks; seed = n }) is (omega (arith, ap stage last)))

  pub crew_more : IsMore crew
  unfolding with manned
  crew_more (is, last) few =
      of_a_crew crew d.crews []
      (crew_so_far kind d.last d.crews d.study.tasks (omega (arith, ap stage is)) last (sound.some_crew last))

  -- before any other
  pub present_more : (n : ℕ) → IsMore (present n)
  unfolding with manned action_records
  present_more n (is, start) (few, differ) =
      let early : stage d.last ≤ 3 = omega (arith, ap stage start) in
      let none = sound.no_crews early in
      let idle = sound.no_tasks early in
      let nothing = sound.nothing_yet start in
      rw (present_written n differ, no_crew_yet kind (omega (arith, ap stage is)) none idle, no_crew_yet d.last (omega arith) none idle) (simp nothing)

-- with the end they are all the records
pub all_records : (d : Draft) → d.last ≡ 5 → so_far d ++ (end ∷ []) ≡ records_of (lists_of (roster_of d))
unfolding records_of
all_records d last = simp (behind_seed d.last (map team_of d.crews) d.study.tasks last, append_assoc, append-nil, joined_end)
