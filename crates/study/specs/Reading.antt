-- What a file says: a roster, or the refusal, 1 to 8 with its place or 21 with its variable. Records are read one by one, and each is tested in the order 2, 3, 1, 4, 5, 6; the end record decides 7, then 21, then 8.
-- Assumes nothing.
use Rattle.std.specs.Prelude.{ℕ, zero, suc, ◌+◌, ◌-◌, ◌*◌, Bool, true, false, not, ◌&&◌, ◌||◌, List, [], ◌∷◌, ◌++◌, leb, ltb, eqb, length, get_or, set}
use Rattle.std.proofs.Math.Option.{Option, none, some}
use Rattle.plain.specs.Choose.{pick}
use Rattle.records.specs.Records.{record_at_lem, number_of}
use Rattle.records.specs.declared.Found.{Found}
use Rattle.records.specs.declared.Found.TheVariants.{There, Unknown, Cut, Ended}
use Rattle.study.specs.Study.{Condition, Action, Study, Crew, Roster, always, in_force, action_at, crew_at, study_of}
use Rattle.study.specs.Uses.{first_unused}

-- what a file says, be it of all crews or to one
pub data Said (A : Type 0) : Type 0 where
  says : A → Said A
  refused : ℕ → ℕ → Said A

-- a record by its kind, with the numbers of its body; `times` has the situations of the last action (kind 7), `present` that of the file (kind 8), `crew` opens the next crew (kind 9)
pub data Record : Type 0 where
  variable : ℕ → Record
  action : ℕ → ℕ → ℕ → Record
  condition : ℕ → ℕ → Record
  task : ℕ → ℕ → ℕ → Record
  seed : ℕ → Record
  end : Record
  times : ℕ → Record
  present : ℕ → Record
  crew : Record

-- the record of a known kind, from the bytes of its body
unfoldable pub decoded : ℕ → ℕ → ℕ → ℕ → ℕ → Record
decoded kind a b c d =
    pick (eqb kind 1) (variable a)
    (pick (eqb kind 2) (action a b c)
    (pick (eqb kind 3) (condition a b)
    (pick (eqb kind 4) (task a b c)
    (pick (eqb kind 5) (seed (((a * 256 + b) * 256 + c) * 256 + d))
    (pick (eqb kind 7) (times a)
    (pick (eqb kind 8) (present a) (pick (eqb kind 9) crew end)))))))

abbrev pub record_from : List ℕ → ℕ → ℕ → Record
record_from file start kind = decoded kind (get_or file start 0) (get_or file (start + 1) 0) (get_or file (start + 2) 0) (get_or file (start + 3) 0)

-- what has been read so far, with the tasks and the seed of the crew that is being read; the crews whose seed has been read; the kind of the last record, 0 before the first; and where the record of each action stands
pub record Draft : Type 0 where
  pub study : Study
  pub crews : List Crew
  pub last : ℕ
  pub places : List ℕ

abbrev pub blank : Draft
blank = record { study = record { situation = 0; counts = []; actions = []; tasks = []; seed = 0 }; crews = []; last = 0; places = [] }

-- a variable still lacks its task
abbrev pub tasks_left : Study → Bool
tasks_left s = ltb (length s.tasks) (length s.counts)

-- which kind may follow which: the situation; variables; actions, each with its conditions and then its situations; for each crew its tasks and its seed; between crews the opening of the next; the end
unfoldable pub may_follow_lem : Bool → ℕ → ℕ → Bool
may_follow_lem left last kind =
    pick (eqb kind 1) (leb last 1 || eqb last 8)
    (pick (eqb kind 2) ((leb 1 last && leb last 3) || eqb last 7)
    (pick (eqb kind 3) (leb 2 last && leb last 3)
    (pick (eqb kind 4) (((leb 1 last && leb last 4) || (eqb last 7 || eqb last 9)) && left)
    (pick (eqb kind 5) (eqb last 4 && not left)
    (pick (eqb kind 7) (leb 2 last && leb last 3)
    (pick (eqb kind 8) (eqb last 0)
    (eqb last 5)))))))

abbrev pub allowed : Draft → ℕ → Bool
allowed d kind = may_follow_lem (tasks_left d.study) d.last kind

-- there is such a variable, and the value is one of its values
abbrev pub in_range : Study → ℕ → ℕ → Bool
in_range s v q = ltb v (length s.counts) && ltb q (get_or s.counts v 0)

-- the action is in force and sets the variable to the value
abbrev pub sets_to : ℕ → Action → ℕ → ℕ → Bool
sets_to situation a v q = in_force situation a && (eqb a.var v && eqb a.post q)

-- some action of the list, in force in the situation, sets the variable to the value
unfoldable pub sets : ℕ → List Action → ℕ → ℕ → Bool
sets situation [] v q = false
sets situation (a ∷ rest) v q = sets_to situation a v q || sets situation rest v q

-- the number of the first action in force that sets what an earlier one in force sets, where so many stand before the rest
unfoldable pub repeat_from : ℕ → List Action → List Action → Option ℕ
repeat_from situation earlier [] = none
repeat_from situation earlier (a ∷ rest) =
    pick (in_force situation a && sets situation earlier a.var a.post)
    (some (length earlier))
    (repeat_from situation (earlier ++ (a ∷ [])) rest)

abbrev pub first_repeat : Study → Option ℕ
first_repeat s = repeat_from s.situation [] s.actions

-- the last action, whose conditions are being read
abbrev pub last_action : Study → Action
last_action s = action_at s.actions (length s.actions - 1)

-- the variable is above that of the previous condition, if there is one
unfoldable pub above : List Condition → ℕ → Bool
above [] v = true
above (c ∷ []) v = ltb c.var v
above (c ∷ (d ∷ rest)) v = above (d ∷ rest) v

-- the first of 4, 5, 6 that a record earns, or 0
unfoldable pub fault : Study → Record → ℕ
fault s (variable n) = pick (leb 32 (length s.counts)) 4 (pick (leb 2 n && leb n 16) 0 5)
fault s (action v p q) =
    pick (leb 256 (length s.actions)) 4
    (pick (not (in_range s v p && in_range s v q)) 5
    (pick (eqb p q) 6 0))
fault s (condition v q) =
    pick (not (in_range s v q)) 5
    (pick (eqb v (last_action s).var) 6
    (pick (above (last_action s).conditions v) 0 6))
fault s (task v p q) = pick (eqb v (length s.tasks) && (in_range s v p && in_range s v q)) 0 5
fault s (seed n) = pick (leb 1 n && leb n 2147483646) 0 5
fault s end = 0
fault s (times n) = pick (eqb n always) 6 0
fault s (present n) = pick (leb n 7) (pick (eqb n 0) 6 0) 5
fault s crew = 0

-- .. where a ninth crew is one too
unfoldable pub fault_in : Draft → Record → ℕ
fault_in d (variable n) = fault d.study (variable n)
fault_in d (action v p q) = fault d.study (action v p q)
fault_in d (condition v q) = fault d.study (condition v q)
fault_in d (task v p q) = fault d.study (task v p q)
fault_in d (seed n) = fault d.study (seed n)
fault_in d end = fault d.study end
fault_in d (times n) = fault d.study (times n)
fault_in d (present n) = fault d.study (present n)
fault_in d crew = pick (leb 8 (length d.crews)) 4 0

-- an action with one condition more
abbrev pub with_condition : Action → ℕ → ℕ → Action
with_condition a v q =
    record {
      var = a.var;
      pre = a.pre;
      post = a.post;
      conditions = a.conditions ++ (record { var = v; value = q } ∷ []);
      situations = a.situations;
    }

-- an action with its situations
abbrev pub within : Action → ℕ → Action
within a n = record { var = a.var; pre = a.pre; post = a.post; conditions = a.conditions; situations = n }

-- the study with other actions
abbrev pub with_actions : Study → List Action → Study
with_actions s actions = record { situation = s.situation; counts = s.counts; actions = actions; tasks = s.tasks; seed = s.seed }

-- the study with one record more
unfoldable pub with : Study → Record → Study
with s (variable n) =
    record { situation = s.situation; counts = s.counts ++ (n ∷ []); actions = s.actions; tasks = s.tasks; seed = s.seed }
with s (action v p q) =
    with_actions s (s.actions ++ (record { var = v; pre = p; post = q; conditions = []; situations = always } ∷ []))
with s (condition v q) = with_actions s (set s.actions (length s.actions - 1) (with_condition (last_action s) v q))
with s (task v p q) =
    record {
      situation = s.situation;
      counts = s.counts;
      actions = s.actions;
      tasks = s.tasks ++ (record { start = p; goal = q } ∷ []);
      seed = s.seed;
    }
with s (seed n) = record { situation = s.situation; counts = s.counts; actions = s.actions; tasks = s.tasks; seed = n }
with s end = s
with s (times n) = with_actions s (set s.actions (length s.actions - 1) (within (last_action s) n))
with s (present n) = record { situation = n; counts = s.counts; actions = s.actions; tasks = s.tasks; seed = s.seed }
with s crew = record { situation = s.situation; counts = s.counts; actions = s.actions; tasks = []; seed = s.seed }

-- the crews whose seed has been read, with one record more behind a study
unfoldable pub manned : List Crew → Study → Record → List Crew
manned crews s (variable n) = crews
manned crews s (action v p q) = crews
manned crews s (condition v q) = crews
manned crews s (task v p q) = crews
manned crews s (seed n) = crews ++ (record { tasks = s.tasks; seed = n } ∷ [])
manned crews s end = crews
manned crews s (times n) = crews
manned crews s (present n) = crews
manned crews s crew = crews

-- where the actions' records stand, with one record more
unfoldable pub placed : List ℕ → ℕ → Record → List ℕ
placed places at (variable n) = places
placed places at (action v p q) = places ++ (at ∷ [])
placed places at (condition v q) = places
placed places at (task v p q) = places
placed places at (seed n) = places
placed places at end = places
placed places at (times n) = places
placed places at (present n) = places
placed places at crew = places

-- what has been read with one record more, which stands at a place
abbrev pub drafted : Draft → ℕ → ℕ → Record → Draft
drafted d at kind r =
    record { study = with d.study r; crews = manned d.crews d.study r; last = kind; places = placed d.places at r }

-- what a draft comes to
abbrev pub roster_of : Draft → Roster
roster_of d = record { situation = d.study.situation; counts = d.study.counts; actions = d.study.actions; crews = d.crews }

-- where no action repeats: 21 with the lowest variable that nobody uses, then 8
abbrev pub unrepeated : List ℕ → ℕ → Draft → Option ℕ → Said Roster
unrepeated file next d (some v) = refused 21 v
unrepeated file next d none = pick (ltb next (length file)) (refused 8 next) (says (roster_of d))

-- the end record's verdict: 7 at the place of the first action that repeats, then 21, then 8
abbrev pub ended : List ℕ → ℕ → Draft → Option ℕ → Said Roster
ended file next d (some i) = refused 7 (get_or d.places i 0)
ended file next d none = unrepeated file next d (first_unused d.study)

-- after a record: what the file says, or the place to read on from with what has been read
pub data Verdict : Type 0 where
  settled : Said Roster → Verdict
  onward : ℕ → Draft → Verdict

-- a record that is there, allowed and without fault
unfoldable pub taken : List ℕ → ℕ → Draft → ℕ → ℕ → Record → Verdict
taken file at d kind next (variable n) = onward next (drafted d at kind (variable n))
taken file at d kind next (action v p q) = onward next (drafted d at kind (action v p q))
taken file at d kind next (condition v q) = onward next (drafted d at kind (condition v q))
taken file at d kind next (task v p q) = onward next (drafted d at kind (task v p q))
taken file at d kind next (seed n) = onward next (drafted d at kind (seed n))
taken file at d kind next end = settled (ended file next d (first_repeat d.study))
taken file at d kind next (times n) = onward next (drafted d at kind (times n))
taken file at d kind next (present n) = onward next (drafted d at kind (present n))
taken file at d kind next crew = onward next (drafted d at kind crew)

-- refused with a number at a place, unless the number is 0
unfoldable pub unless : ℕ → ℕ → Verdict → Verdict
unless zero at v = v
unless (suc n) at v = settled (refused (suc n) at)

unfoldable pub judged : List ℕ → ℕ → Draft → Found → Verdict
judged file at d (There kind start next) =
    pick (allowed d kind)
    (unless (fault_in d (record_from file start kind)) at (taken file at d kind next (record_from file start kind)))
    (settled (refused 3 at))
judged file at d (Cut kind place) = settled (refused (pick (allowed d kind) 1 3) place)
judged file at d (Unknown place) = settled (refused (number_of (Unknown place)) place)
judged file at d (Ended place) = settled (refused (number_of (Ended place)) place)

unfoldable pub verdict_at : List ℕ → ℕ → Draft → Verdict
verdict_at file at d = judged file at d (record_at_lem file at)

abbrev pub follow : Verdict → (ℕ → Draft → Said Roster) → Said Roster
follow (settled s) read = s
follow (onward at d) read = read at d

-- read on from a place; each record takes a byte at least, so as many records as the file has bytes, and one look more, are enough
unfoldable pub read_on : ℕ → List ℕ → ℕ → Draft → Said Roster
read_on zero file at d = refused 1 (length file)
read_on (suc n) file at d = follow (verdict_at file at d) (read_on n file)

-- what a file says
unfoldable pub reading : List ℕ → Said Roster
reading file = read_on (length file + 1) file 0 blank

-- what it says to a crew: its study, or 22 where that crew is not there
abbrev pub heard_by : ℕ → Said Roster → Said Study
heard_by c (says r) = pick (ltb c (length r.crews)) (says (study_of r (crew_at r.crews c))) (refused 22 c)
heard_by c (refused number place) = refused number place

abbrev pub reading_for : List ℕ → ℕ → Said Study
reading_for file c = heard_by c (reading file)
