-- The bytes of the records from an entry of a lent list on: those of the entry, and those from the next on.
-- Assumes nothing.
use mathlib.Core.Path.{◌≡◌, refl}
use mathlib.Core.Bool.{Bool, true, false}
use mathlib.Core.List.{List, [], ◌∷◌, ◌++◌, map, append-nil, append_assoc}
use Prim.Native.Nat.{ℕ, ◌+◌, ◌*◌, ◌-◌, ◌≤◌, ◌<◌}
use native.Mathlib.Omega.{arith}
use lib.Dec.{eqb, ltb}
use lib.ListN.{length, get_or, take, drop, length-drop, drop_of_length-le}
use native.Mathlib.Decide.{dec_lt}
use lib.Seq.{drop-drop}
use borrow.Author.Tests.{lt-ltb, le-ltb}
use Rattle.plain.specs.Choose.{pick}
use Rattle.study.specs.Study.{always}
use Rattle.study.specs.Reading.{Record, variable, seed, times}
use Rattle.spelling.specs.Spelling.{spelled_record, spelled}
use Rattle.spelling.specs.Lists.{Errand, Team, condition_record, task_record, times_record, action_records, behind, crew_records}
use Rattle.spelling.specs.Lent.{number, conditions_in, left, actions_in, announced, errands_in, untaken, crews_in, tasks_announced}
use Rattle.spelling.proofs.Rewritten.{spelled-append}
use Rattle.spelling.proofs.LentBytes.{one_byte, first_conditions, conditions_behind, first_errands, errands_behind}
use Rattle.spelling.proofs.Chunks.{Chunk, two_first, three_first, five_first}
use Rattle.putting.proofs.Putting.{Starts}

pub nothing_left : (l : List ℕ) (i : ℕ) → length l ≤ i → drop i l ≡ []
nothing_left l i h = drop_of_length-le l h

-- ---- the bytes from an entry on

abbrev pub variables_from : List ℕ → ℕ → List ℕ
variables_from variables i = spelled (map variable (drop i variables))

abbrev pub conditions_from : List ℕ → ℕ → List ℕ
conditions_from conditions i = spelled (map condition_record (conditions_in (drop i conditions)))

abbrev pub tasks_from : List ℕ → ℕ → List ℕ
tasks_from tasks i = spelled (map task_record (errands_in (drop i tasks)))

-- .. of the actions, with the conditions from a place on
abbrev pub actions_from : List ℕ → List ℕ → ℕ → ℕ → List ℕ
actions_from actions conditions i used = spelled (action_records (actions_in (drop i actions) (conditions_in (drop used conditions))))

module _ (variables : List ℕ) (i : ℕ) (h : i + 1 ≤ length variables) where
  pub variable_first : Starts (variables_from variables i) (1 ∷ get_or variables i 0 ∷ []) (variables_from variables (i + 1))
  unfolding spelled spelled_record
  variable_first = record { split = rw (one_byte variables i h) }

pub condition_first :
    {conditions pair : List ℕ} {k : ℕ} → Chunk 2 conditions k pair
    → Starts (conditions_from conditions (2 * k)) (3 ∷ get_or pair 0 0 ∷ get_or pair 1 0 ∷ []) (conditions_from conditions (2 * (k + 1)))
unfolding spelled spelled_record conditions_in
condition_first c = record { split = rw (two_first c) }

pub task_first :
    {tasks task : List ℕ} {k : ℕ} → Chunk 3 tasks k task
    → Starts (tasks_from tasks (3 * k)) (4 ∷ get_or task 0 0 ∷ get_or task 1 0 ∷ get_or task 2 0 ∷ []) (tasks_from tasks (3 * (k + 1)))
unfolding spelled spelled_record errands_in
task_first c = record { split = rw (three_first c) }

-- a record that may not be written
pub unless-spelled : (b : Bool) (r : Record) → spelled (pick b [] (r ∷ [])) ≡ pick b [] (spelled_record r)
unfolding spelled
unless-spelled true r = refl
unless-spelled false r = append-nil (spelled_record r)

-- .. of one byte, unless it is that one
abbrev pub unless_bytes : ℕ → ℕ → ℕ → List ℕ
unless_bytes unwritten kind n = pick (eqb n unwritten) [] (kind ∷ n ∷ [])

module _ {actions entry : List ℕ} {k : ℕ} (c : Chunk 5 actions k entry) where
  pub announced_first : announced (drop (5 * k) actions) ≡ get_or entry 4 0 + announced (drop (5 * (k + 1)) actions)
  unfolding announced
  announced_first = rw (five_first c)

  -- its conditions end at a place, and behind them come its situations
  pub action_first :
      (conditions : List ℕ) (used next : ℕ) → next ≡ used + 2 * get_or entry 4 0 → next ≤ length conditions
      → Starts (actions_from actions conditions (5 * k) used)
      (2 ∷ get_or entry 0 0 ∷ get_or entry 1 0 ∷ get_or entry 2 0 ∷ [])
      (conditions_from (take (next - used) (drop used conditions)) 0
      ++ (unless_bytes always 7 (get_or entry 3 0) ++ actions_from actions conditions (5 * (k + 1)) next))
  unfolding spelled spelled_record action_records actions_in
  action_first conditions used next e fits =
      record {
        split = rw (
          five_first c,
          width,
          first_conditions many later (omega (arith, length-drop used conditions)),
          conditions_behind many later,
          drop-drop (2 * many) used conditions,
          ← e,
          spelled-append (map condition_record (conditions_in (take (2 * many) later))) _,
          spelled-append (times_record set) _,
          unless-spelled (eqb set always) (times set),
        );
      }
    where
      many : ℕ
      many = get_or entry 4 0

      set : ℕ
      set = get_or entry 3 0

      later : List ℕ
      later = drop used conditions

      width : next - used ≡ 2 * many
      width = omega arith

pub no_action-left :
    (actions conditions : List ℕ) (i used : ℕ)
    → length actions ≤ i → used + 2 * announced (drop i actions) ≡ length conditions → actions_from actions conditions i used ≡ []
unfolding spelled action_records actions_in left conditions_in announced
no_action-left actions conditions i used h e =
    let none = nothing_left actions i h in
    let all = rw none at e in
    rw (none, nothing_left conditions used (omega arith))

-- ---- crews

-- the bytes of the crews from an entry on, and of the end, where one is left, with the tasks from a place on
abbrev pub crews_from : List ℕ → List ℕ → ℕ → ℕ → List ℕ
crews_from crews tasks i used =
    pick (ltb i (length crews)) (spelled (crew_records (crews_in (drop i crews) (errands_in (drop used tasks))))) []

-- .. of a crew's seed, and the kind of what stands behind it, at a place
abbrev pub seed_bytes : List ℕ → List ℕ → ℕ → List ℕ
seed_bytes crews crew i =
    spelled_record (seed (number (get_or crew 1 0) (get_or crew 2 0) (get_or crew 3 0) (get_or crew 4 0))) ++ (pick (ltb i (length crews)) 9 6 ∷ [])

-- crews behind a seed, of which there are some
opened : (ks : List Team) → 1 ≤ length ks → spelled (behind ks) ≡ 9 ∷ spelled (crew_records ks)
unfolding spelled spelled_record behind crew_records
opened [] h = absurd (omega arith)
opened (k ∷ ks) h = refl

some_crew : (crews : List ℕ) (tasks : List Errand) → 1 ≤ length crews → 1 ≤ length (crews_in crews tasks)
unfolding crews_in
some_crew [] tasks h = absurd (omega arith)
some_crew (n ∷ []) tasks h = omega arith
some_crew (n ∷ a ∷ []) tasks h = omega arith
some_crew (n ∷ a ∷ b ∷ []) tasks h = omega arith
some_crew (n ∷ a ∷ b ∷ c ∷ []) tasks h = omega arith
some_crew (n ∷ a ∷ b ∷ c ∷ d ∷ rest) tasks h = omega arith

pub no_crew-left : (crews tasks : List ℕ) (i used : ℕ) → length crews ≤ i → crews_from crews tasks i used ≡ []
no_crew-left crews tasks i used h = rw (le-ltb i (length crews) h)

-- what stands behind a seed
behind_seed :
    (crews tasks : List ℕ) (i used : ℕ) → used + 3 * tasks_announced (drop i crews) ≡ length tasks
    → spelled (behind (crews_in (drop i crews) (errands_in (drop used tasks)))) ≡ pick (ltb i (length crews)) 9 6 ∷ crews_from crews tasks i used
unfolding spelled spelled_record behind crews_in untaken errands_in tasks_announced
behind_seed crews tasks i used all = from (dec_lt i (length crews))
  where
    from :
        Dec (i < length crews)
        → spelled (behind (crews_in (drop i crews) (errands_in (drop used tasks)))) ≡ pick (ltb i (length crews)) 9 6 ∷ crews_from crews tasks i used
    from (yes more) =
        rw (lt-ltb i (length crews) more)
        (opened _ (some_crew (drop i crews) (errands_in (drop used tasks)) (omega (arith, length-drop i crews))))
    from (no done) =
        let over : length crews ≤ i = omega arith in
        let none = nothing_left crews i over in
        let every = rw none at all in
        rw (le-ltb i (length crews) over, none, nothing_left tasks used (omega arith))

module _ {crews crew : List ℕ} {k : ℕ} (c : Chunk 5 crews k crew) where
  pub tasks_announced_first : tasks_announced (drop (5 * k) crews) ≡ get_or crew 0 0 + tasks_announced (drop (5 * (k + 1)) crews)
  unfolding tasks_announced
  tasks_announced_first = rw (five_first c)

  -- its tasks end at a place, and behind them comes its seed
  pub crew_first :
      (tasks : List ℕ) (used next : ℕ) → next ≡ used + 3 * get_or crew 0 0
      → next + 3 * tasks_announced (drop (5 * (k + 1)) crews) ≡ length tasks
      → Starts (crews_from crews tasks (5 * k) used) (tasks_from (take (next - used) (drop used tasks)) 0)
      (seed_bytes crews crew (5 * (k + 1)) ++ crews_from crews tasks (5 * (k + 1)) next)
  unfolding spelled spelled_record crew_records crews_in
  crew_first tasks used next e all =
      record {
        split = rw (
          lt-ltb (5 * k) (length crews) (omega (arith, c.room)),
          five_first c,
          width,
          first_errands many later (omega (arith, length-drop used tasks)),
          errands_behind many later,
          drop-drop (3 * many) used tasks,
          ← e,
          append_assoc,
          spelled-append (map task_record (errands_in (take (3 * many) later))) _,
          behind_seed crews tasks (5 * (k + 1)) next all,
        );
      }
    where
      many : ℕ
      many = get_or crew 0 0

      later : List ℕ
      later = drop used tasks

      width : next - used ≡ 3 * many
      width = omega arith
