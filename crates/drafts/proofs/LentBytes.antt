-- Lent bytes, entry by entry: an entry that is lent whole, and what stands for one that is not.
-- Assumes nothing.
use mathlib.Core.Path.{◌≡◌, refl}
use mathlib.Core.Bool.{Bool, true, false}
use mathlib.Core.List.{List, [], ◌∷◌, ◌++◌, map, append_assoc}
use Prim.Native.Nat.{ℕ, zero, suc, ◌+◌, ◌*◌, ◌≤◌, ◌<◌}
use native.Mathlib.Numerals.{add-one}
use native.Mathlib.Omega.{arith}
use lib.Dec.{eqb}
use lib.ListN.{length, get_or, drop, length-drop, drop_of_length-le}
use lib.Seq.{drop-drop}
use borrow.Author.Tests.{ne_eqb}
use Rattle.study.specs.Study.{Condition}
use Rattle.plain.specs.Choose.{pick}
use Rattle.study.specs.Reading.{Record, variable, action, seed, end}
use Rattle.spelling.specs.Lists.{Errand, Team, condition_record, task_record, times_record, action_records, behind, crew_records}
use Rattle.spelling.specs.Lent.{number, unlent, unlent_condition, unlent_errand, unlent_team, conditions_in, first_of, left, actions_in, errands_in, untaken, crews_in}
use Rattle.spelling.proofs.LentBytes.{one_byte, two_bytes, three_bytes, five_bytes, conditions_behind, errands_behind}
use Rattle.drafts.specs.Drafts.{first_or, opening_record, crews_to_come}

-- the first of some entries, and the others
first_of_lem : {A : Type 0} (other : A) (n : ℕ) (xs : List A) → first_of other (suc n) xs ≡ first_or other xs ∷ first_of other n (drop 1 xs)
unfolding first_of
first_of_lem other n [] = refl
first_of_lem other n (x ∷ rest) = refl

-- ---- variables

pub variable-lent : (bytes : List ℕ) (i : ℕ) (rest : List Record) → i < length bytes → map variable (drop i bytes) ++ rest ≡ variable (get_or bytes i 0) ∷ (map variable (drop (i + 1) bytes) ++ rest)
variable-lent bytes i rest h = rw (one_byte bytes i (omega arith))

pub no_variable_lent : (bytes : List ℕ) (rest : List Record) → length bytes ≡ 0 → map variable bytes ++ rest ≡ rest
no_variable_lent [] rest e = refl
no_variable_lent (n ∷ bytes) rest e = absurd (omega arith)

-- ---- conditions

pub condition-lent : (bytes : List ℕ) (i : ℕ) → i + 2 ≤ length bytes → first_or unlent_condition (conditions_in (drop i bytes)) ≡ record { var = get_or bytes i 0; value = get_or bytes (i + 1) 0 }
unfolding conditions_in
condition-lent bytes i h = rw (two_bytes bytes i h)

pub condition-unlent : (bytes : List ℕ) (i : ℕ) → length bytes < i + 2 → first_or unlent_condition (conditions_in (drop i bytes)) ≡ unlent_condition
unfolding conditions_in
condition-unlent bytes i h = short (drop i bytes) (omega (arith, length-drop i bytes))
  where
    short : (l : List ℕ) → length l < 2 → first_or unlent_condition (conditions_in l) ≡ unlent_condition
    short [] g = refl
    short (v ∷ []) g = refl
    short (v ∷ q ∷ rest) g = absurd (omega arith)

pub next-condition :
    (bytes : List ℕ) (i many n : ℕ) (rest : List Record) → many ≡ n + 1
    → map condition_record (first_of unlent_condition many (conditions_in (drop i bytes))) ++ rest
    ≡ condition_record (first_or unlent_condition (conditions_in (drop i bytes))) ∷ (map condition_record (first_of unlent_condition n (conditions_in (drop (i + 2) bytes))) ++ rest)
next-condition bytes i many n rest e =
    rw (e, add-one n, first_of_lem unlent_condition n (conditions_in (drop i bytes)), conditions_behind 1 (drop i bytes), drop-drop 2 i bytes)

pub no_condition_lem : (bytes : List ℕ) (i : ℕ) (rest : List Record) → map condition_record (first_of unlent_condition 0 (conditions_in (drop i bytes))) ++ rest ≡ rest
unfolding first_of
no_condition_lem bytes i rest = refl

-- ---- actions

entry_records :
    (v p q set n : ℕ) (bytes : List ℕ) (cs : List Condition) (rest : List Record)
    → action_records (actions_in (v ∷ p ∷ q ∷ set ∷ n ∷ bytes) cs) ++ rest
    ≡ action v p q ∷ (map condition_record (first_of unlent_condition n cs) ++ (times_record set ++ (action_records (actions_in bytes (drop n cs)) ++ rest)))
unfolding actions_in action_records
entry_records v p q set n bytes cs rest = simp append_assoc

pub action-lent :
    (actions : List ℕ) (i : ℕ) (conditions : List ℕ) (used : ℕ) (rest : List Record) → i + 5 ≤ length actions
    → action_records (actions_in (drop i actions) (conditions_in (drop used conditions))) ++ rest
    ≡ action (get_or actions i 0) (get_or actions (i + 1) 0) (get_or actions (i + 2) 0)
    ∷ (map condition_record (first_of unlent_condition (get_or actions (i + 4) 0) (conditions_in (drop used conditions)))
    ++ (times_record (get_or actions (i + 3) 0)
    ++ (action_records (actions_in (drop (i + 5) actions) (conditions_in (drop (used + 2 * get_or actions (i + 4) 0) conditions))) ++ rest)))
action-lent actions i conditions used rest h =
    rw (
      five_bytes actions i h,
      entry_records (get_or actions i 0) (get_or actions (i + 1) 0) (get_or actions (i + 2) 0) (get_or actions (i + 3) 0) (get_or actions (i + 4) 0) (drop (i + 5) actions) (conditions_in (drop used conditions)) rest,
      conditions_behind (get_or actions (i + 4) 0) (drop used conditions),
      drop-drop (2 * get_or actions (i + 4) 0) used conditions,
    )

pub no_action_lem :
    (actions : List ℕ) (i : ℕ) (conditions : List ℕ) (used : ℕ) (rest : List Record) → length actions ≤ i → length conditions ≤ used
    → action_records (actions_in (drop i actions) (conditions_in (drop used conditions))) ++ rest ≡ rest
unfolding actions_in action_records conditions_in left
no_action_lem actions i conditions used rest h g =
    none (drop i actions) (drop used conditions) (omega (arith, length-drop i actions)) (omega (arith, length-drop used conditions))
  where
    none : (a c : List ℕ) → length a ≡ 0 → length c ≡ 0 → action_records (actions_in a (conditions_in c)) ++ rest ≡ rest
    none [] [] x y = refl
    none [] (v ∷ c) x y = absurd (omega arith)
    none (v ∷ a) c x y = absurd (omega arith)

-- bytes or conditions are left that make no action: one is refused in their place
pub action-unlent :
    (actions : List ℕ) (i : ℕ) (conditions : List ℕ) (used : ℕ) (rest : List Record)
    → length actions < i + 5 → (length actions ≤ i → length conditions ≤ used → ⊥)
    → (more : List Record) × (action_records (actions_in (drop i actions) (conditions_in (drop used conditions))) ++ rest ≡ action unlent unlent unlent ∷ more)
unfolding actions_in action_records conditions_in left
action-unlent actions i conditions used rest h some =
    short (drop i actions) (drop used conditions) (omega (arith, length-drop i actions))
    (λ x y. some (omega (arith, length-drop i actions)) (omega (arith, length-drop used conditions)))
  where
    short :
        (a c : List ℕ) → length a < 5 → (length a ≡ 0 → length c ≡ 0 → ⊥)
        → (more : List Record) × (action_records (actions_in a (conditions_in c)) ++ rest ≡ action unlent unlent unlent ∷ more)
    short [] [] g s = absurd (s refl refl)
    short [] (v ∷ []) g s = (_, refl)
    short [] (v ∷ q ∷ c) g s = (_, refl)
    short (v ∷ []) c g s = (_, refl)
    short (v ∷ p ∷ []) c g s = (_, refl)
    short (v ∷ p ∷ q ∷ []) c g s = (_, refl)
    short (v ∷ p ∷ q ∷ n ∷ []) c g s = (_, refl)
    short (v ∷ p ∷ q ∷ n ∷ m ∷ a) c g s = absurd (omega arith)

-- ---- tasks

pub task-lent :
    (bytes : List ℕ) (i : ℕ) → i + 3 ≤ length bytes
    → first_or unlent_errand (errands_in (drop i bytes)) ≡ record { var = get_or bytes i 0; start = get_or bytes (i + 1) 0; goal = get_or bytes (i + 2) 0 }
unfolding errands_in
task-lent bytes i h = rw (three_bytes bytes i h)

pub task-unlent : (bytes : List ℕ) (i : ℕ) → length bytes < i + 3 → first_or unlent_errand (errands_in (drop i bytes)) ≡ unlent_errand
unfolding errands_in
task-unlent bytes i h = short (drop i bytes) (omega (arith, length-drop i bytes))
  where
    short : (l : List ℕ) → length l < 3 → first_or unlent_errand (errands_in l) ≡ unlent_errand
    short [] g = refl
    short (v ∷ []) g = refl
    short (v ∷ p ∷ []) g = refl
    short (v ∷ p ∷ q ∷ rest) g = absurd (omega arith)

pub next-task :
    (bytes : List ℕ) (i many n : ℕ) (rest : List Record) → many ≡ n + 1
    → map task_record (first_of unlent_errand many (errands_in (drop i bytes))) ++ rest
    ≡ task_record (first_or unlent_errand (errands_in (drop i bytes))) ∷ (map task_record (first_of unlent_errand n (errands_in (drop (i + 3) bytes))) ++ rest)
next-task bytes i many n rest e =
    rw (e, add-one n, first_of_lem unlent_errand n (errands_in (drop i bytes)), errands_behind 1 (drop i bytes), drop-drop 3 i bytes)

pub no_task_lem : (bytes : List ℕ) (i : ℕ) (rest : List Record) → map task_record (first_of unlent_errand 0 (errands_in (drop i bytes))) ++ rest ≡ rest
unfolding first_of
no_task_lem bytes i rest = refl

-- so many tasks stand in the bytes
pub all_tasks : (many : ℕ) (bytes : List ℕ) → length bytes ≤ 3 * many → 3 * many ≤ length bytes + 2 → first_of unlent_errand many (errands_in bytes) ≡ errands_in bytes
unfolding first_of errands_in
all_tasks zero [] h g = refl
all_tasks zero (v ∷ rest) h g = absurd (omega arith)
all_tasks (suc n) [] h g = absurd (omega arith)
all_tasks (suc n) (v ∷ []) h g = let e : n ≡ 0 = omega arith in rw e
all_tasks (suc n) (v ∷ p ∷ []) h g = let e : n ≡ 0 = omega arith in rw e
all_tasks (suc n) (v ∷ p ∷ q ∷ rest) h g = rw (all_tasks n rest (omega arith) (omega arith))

-- ---- crews

-- a crew and those behind it, by where it stands
opened_by : (b : Bool) (k : Team) (rest : List Team) → pick b (crew_records (k ∷ rest)) (behind (k ∷ rest)) ≡ opening_record b ++ (map task_record k.tasks ++ (seed k.seed ∷ behind rest))
unfolding crew_records behind
opened_by true k rest = simp append_assoc
opened_by false k rest = simp append_assoc

module _ (crews : List ℕ) (i : ℕ) (tasks : List ℕ) (used : ℕ) where
  abbrev pub to_come : List Record
  to_come = crews_to_come i (crews_in (drop i crews) (errands_in (drop used tasks)))

  pub crew_lent :
      i + 5 ≤ length crews
      → to_come
      ≡ opening_record (eqb i 0)
      ++ (map task_record (first_of unlent_errand (get_or crews i 0) (errands_in (drop used tasks)))
      ++ (seed (number (get_or crews (i + 1) 0) (get_or crews (i + 2) 0) (get_or crews (i + 3) 0) (get_or crews (i + 4) 0))
      ∷ crews_to_come (i + 5) (crews_in (drop (i + 5) crews) (errands_in (drop (used + 3 * get_or crews i 0) tasks)))))
  unfolding crews_in
  crew_lent h =
      rw (
        five_bytes crews i h,
        opened_by (eqb i 0) _ _,
        errands_behind (get_or crews i 0) (drop used tasks),
        drop-drop (3 * get_or crews i 0) used tasks,
        ne_eqb (i + 5) 0 (λ e. omega arith),
      )

  -- no byte and no task is left: only the end
  pub no_crew_lem : length crews ≤ i → length tasks ≤ used → to_come ≡ end ∷ []
  unfolding crews_in untaken errands_in crew_records behind
  no_crew_lem h g =
      rw (drop_of_length-le crews h, drop_of_length-le tasks g) (either_way (eqb i 0))
    where
      either_way : (b : Bool) → pick b (end ∷ []) (end ∷ []) ≡ end ∷ []
      either_way true = refl
      either_way false = refl

  -- bytes or tasks are left that make no crew: one comes in their place
  pub crew_unlent :
      (many : ℕ) → length crews < i + 5 → (length crews ≤ i → length tasks ≤ used → ⊥)
      → length (drop used tasks) ≤ 3 * many → 3 * many ≤ length (drop used tasks) + 2
      → to_come
      ≡ opening_record (eqb i 0)
      ++ (map task_record (first_of unlent_errand many (errands_in (drop used tasks))) ++ (seed (number unlent unlent unlent unlent) ∷ end ∷ []))
  unfolding crews_in untaken errands_in behind
  crew_unlent many few some all no_more =
      rw (one, all_tasks many (drop used tasks) all no_more) (opened_by (eqb i 0) (unlent_team (errands_in (drop used tasks))) [])
    where
      left : (c : List ℕ) (t : List Errand) → length c < 5 → (length c ≡ 0 → length t ≡ 0 → ⊥) → crews_in c t ≡ unlent_team t ∷ []
      left [] [] h s = absurd (s refl refl)
      left [] (t ∷ ts) h s = refl
      left (n ∷ []) t h s = refl
      left (n ∷ a ∷ []) t h s = refl
      left (n ∷ a ∷ b ∷ []) t h s = refl
      left (n ∷ a ∷ b ∷ c ∷ []) t h s = refl
      left (n ∷ a ∷ b ∷ c ∷ d ∷ more) t h s = absurd (omega arith)

      none_in : (bytes : List ℕ) → length (errands_in bytes) ≡ 0 → length bytes ≡ 0
      none_in [] e = refl
      none_in (v ∷ []) e = absurd (omega arith)
      none_in (v ∷ p ∷ []) e = absurd (omega arith)
      none_in (v ∷ p ∷ q ∷ more) e = absurd (omega arith)

      one : crews_in (drop i crews) (errands_in (drop used tasks)) ≡ unlent_team (errands_in (drop used tasks)) ∷ []
      one =
          left (drop i crews) (errands_in (drop used tasks)) (omega (arith, length-drop i crews))
          (λ x y. some (omega (arith, length-drop i crews)) (omega (arith, length-drop used tasks, none_in (drop used tasks) y)))
