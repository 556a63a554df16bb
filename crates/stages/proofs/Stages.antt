-- From one stage to the next: what is known of the study in the tables that each function is lent.
-- Assumes nothing.
use mathlib.Core.Path.{◌≡◌, refl, subst, ◌∙◌}
use mathlib.Core.List.{List}
use Prim.Native.Nat.{ℕ, ◌+◌, ◌*◌, ◌≤◌, ◌<◌}
use native.Mathlib.Omega.{arith}
use lib.ListN.{length, take, drop, replicate}
use Rattle.plain.proofs.Lists.{all_zeros}
use Rattle.ranking.specs.Ranking.{tested}
use Rattle.std.specs.Prelude.{Result, Ok, Err}
use Rattle.ranking.proofs.Fine.{fine_is_rank_list, rank_list_is_fine}
use Rattle.ranks.specs.Ranks.{RankList, Apart}
use Rattle.ranks.proofs.Placed.{rank_list_apart}
use Rattle.study.specs.Study.{Study}
use Rattle.tables.specs.Rows.{Begins}
use Rattle.lawful.specs.Lawful.{Lawful}
use Rattle.tables.specs.Tables.{ActionTables, HoldsActions}
use Rattle.planning.specs.Refusals.{off_walk}
use Rattle.planning.specs.Planning.{Plans, LowestOff, off_walk_lem}
use Rattle.planning.proofs.Bars.{without_bars_walks}
use Rattle.walks.specs.Walks.{Walks, Met, start_of, goal_of}
use Rattle.tracing.specs.Facts.{Tells, Moves, Wishes, Deeds}
use Rattle.tracing.specs.Steps.{EmptyRow, Rowed, Members, WalksAll}
use Rattle.tracing.specs.declared.NoWalk.{NoWalk}
use Rattle.tracing.proofs.Ranges.{few_tasks}
use Rattle.wanting.specs.Wanting.{Counts}
use Rattle.taking.specs.Taking.{Prepared, TakenGreedily}
use Rattle.handing.specs.Handing.{Taken}
use Rattle.handing.proofs.Outcomes.{few_in_all}
use Rattle.stages.specs.Whole.{Known, Given, Walking, Orderly, WantsCounted}

pub rowed_walks : {t : Study} {n : ℕ} {steps : List ℕ} → n ≡ length t.tasks → Rowed t n steps → Walks t
rowed_walks e rowed v h = let r = rowed v (rw e h) in (r.0, r.1.0)

-- every variable has a walk: they are entered
pub walks_rowed : {t : Study} {n : ℕ} {steps : List ℕ} (r : Result ℕ NoWalk) → Walks t → WalksAll t n steps r → Rowed t n steps
walks_rowed (Ok total) walks w = w.0
walks_rowed (Err fault) walks w = absurd (without_bars_walks w walks)

pub held_wishes :
    {file : List ℕ} {a : ℕ} {acts : ActionTables} {t : Study} → Lawful t → HoldsActions file t.situation a acts t.actions
    → Wishes file a acts.vars acts.pres acts.places acts.manys t
held_wishes lawful held = record {
  lawful = lawful;
  actions = held.count;
  tells_var = λ i h. (held.action i h).var;
  tells_pre = λ i h. (held.action i h).pre;
  tells_conditions = λ i h. (held.action i h).conditions;
}

pub held_deeds :
    {file : List ℕ} {a : ℕ} {acts : ActionTables} {t : Study} → Lawful t → HoldsActions file t.situation a acts t.actions
    → Deeds file a acts.vars acts.posts acts.places acts.manys t
held_deeds lawful held = record {
  lawful = lawful;
  actions = held.count;
  tells_var = λ i h. (held.action i h).var;
  tells_post = λ i h. (held.action i h).post;
  tells_conditions = λ i h. (held.action i h).conditions;
}

-- with a rank list, what is known is given
pub known_given :
    {file : List ℕ} (ranks : List ℕ) {n a x : ℕ} {acts : ActionTables} {starts goals : List ℕ} {t : Study}
    → Known file n a x acts starts goals t → tested ranks a ≡ Ok tt → Given file ranks n a acts starts goals t
known_given ranks known ranked =
    record {
      lawful = known.lawful;
      variables = known.variables;
      actions = known.actions;
      setters = known.setters;
      tasks = known.tasks;
      ranked = ranked;
    }

module _
    {file : List ℕ} {n a x : ℕ} {acts : ActionTables} {starts goals : List ℕ} {t : Study}
    (known : Known file n a x acts starts goals t)
  where
    pub known_moves : Moves a acts.setters acts.vars acts.pres acts.posts acts.outs t
    known_moves =
        record {
          lawful = known.lawful;
          actions = known.actions.count;
          tells_var = λ i h. (known.actions.action i h).var;
          tells_pre = λ i h. (known.actions.action i h).pre;
          tells_post = λ i h. (known.actions.action i h).post;
          tells_force = λ i h. (known.actions.action i h).force;
          names = known.setters;
        }

    -- what walking asks of the tables
    pub known_walkable :
        (u : Study) × Moves a acts.setters acts.vars acts.pres acts.posts acts.outs u × (n ≡ length u.tasks)
        × Tells start_of n starts u × Tells goal_of n goals u
    known_walkable = (t, known_moves, known.variables, known.tasks.start, known.tasks.goal)

    -- what walking into an empty table ensures
    pub known_walked :
        {Ensured : Type 0}
        → (Moves a acts.setters acts.vars acts.pres acts.posts acts.outs t → n ≡ length t.tasks
        → Tells start_of n starts t → Tells goal_of n goals t → ((v : ℕ) → v < 32 → EmptyRow v (replicate 512 0)) → Ensured)
        → Ensured
    known_walked ensures = ensures known_moves known.variables known.tasks.start known.tasks.goal (λ v h x k. all_zeros 512 (16 * v + x))

module _
    {file ranks : List ℕ} {n a : ℕ} {acts : ActionTables} {starts goals : List ℕ} {t : Study}
    (given : Given file ranks n a acts starts goals t)
  where
    -- what is given is known
    pub given_known : Known file n a t.seed acts starts goals t
    given_known =
        record {
          lawful = given.lawful;
          variables = given.variables;
          actions = given.actions;
          setters = given.setters;
          tasks = given.tasks;
          seed = refl;
        }

    pub given_ranked : tested ranks (length t.actions) ≡ Ok tt
    given_ranked = rw (← given.actions.count) given.ranked

    -- there is a rank for each action
    pub as_many_ranks : length ranks ≡ a
    as_many_ranks = (fine_is_rank_list given.ranked).an_entry_for_each

    -- walking came to the end
    pub given_walking :
        {r : Result ℕ NoWalk} {total : ℕ} {steps : List ℕ} → WalksAll t n steps r → r ≡ Ok total → Walking file ranks n total acts starts steps t
    given_walking {steps = steps} walked e =
        let (rowed, (list, (members, counted))) = subst (WalksAll t n steps) e walked in
        record {
          lawful = given.lawful;
          variables = given.variables;
          actions = rw as_many_ranks given.actions;
          setters = rw as_many_ranks given.setters;
          tells_starts = given.tasks.start;
          ranked = given_ranked;
          rowed = rowed;
          list = list;
          members = members;
          counted = counted;
        }

module _
    {file ranks : List ℕ} {n total : ℕ} {acts : ActionTables} {starts steps : List ℕ} {t : Study}
    (walking : Walking file ranks n total acts starts steps t)
  where
    pub walking_ranks : RankList (length t.actions) ranks
    walking_ranks = fine_is_rank_list walking.ranked

    pub all_few : total ≤ 256
    all_few = omega (arith, few_in_all walking.lawful walking.members, walking.counted)

    pub walking_rowed : Rowed t (length t.tasks) steps
    walking_rowed = rw (← walking.variables) walking.rowed

    pub walking_wishes : Wishes file (length ranks) acts.vars acts.pres acts.places acts.manys t
    walking_wishes = held_wishes walking.lawful walking.actions

    pub walking_off : {i u : ℕ} {before : List ℕ} → LowestOff t i u → Plans t ranks before (off_walk i u) before
    walking_off off = off_walk_lem walking.ranked (rowed_walks walking.variables walking.rowed) off

    pub walking_orderly : Met t → Orderly total t
    walking_orderly met = record {
      lawful = walking.lawful;
      walks = rowed_walks walking.variables walking.rowed;
      met = met;
      list = walking.list;
      members = walking.members;
      counted = walking.counted;
    }

    -- many actions: the conditions are counted
    pub walking_counted :
        (wants : List ℕ) → Met t → ((list : List ℕ) → Members t list → Counts t list wants)
        → WantsCounted file n (length ranks) total acts.vars acts.posts acts.places acts.manys starts steps wants t
    walking_counted wants met counts = record {
      orderly = walking_orderly met;
      variables = walking.variables;
      deeds = held_deeds walking.lawful walking.actions;
      tells_starts = walking.tells_starts;
      rowed = walking.rowed;
      wanted = counts;
    }

-- ---- taking

module _ {a : ℕ} {ranks : List ℕ} (list : RankList a ranks) where
  pub own_length : RankList (length ranks) ranks
  own_length = rw list.an_entry_for_each list

  pub list_apart : Apart ranks
  list_apart = rank_list_apart own_length

module _ {total : ℕ} {t : Study} (orderly : Orderly total t) where
  pub orderly_few : total ≤ 256
  orderly_few = omega (arith, few_in_all orderly.lawful orderly.members, orderly.counted)

  pub few_ranks : {ranks : List ℕ} → RankList (length t.actions) ranks → length ranks ≤ 256
  few_ranks list = omega (arith, list.an_entry_for_each, orderly.lawful.few_actions)

  pub orderly_taken :
      {ranks : List ℕ} → RankList (length t.actions) ranks → (k : ℕ) (room : List ℕ) → TakenGreedily t ranks (take k (drop 256 room))
      → Taken t ranks total k room
  orderly_taken list k room greedy = record {
    lawful = orderly.lawful;
    ranked = rank_list_is_fine list;
    walks = orderly.walks;
    met = orderly.met;
    list = orderly.list;
    members = orderly.members;
    counted = orderly.counted;
    greedy = greedy;
  }

module _
    {file : List ℕ} {n a total : ℕ} {vars posts places manys starts steps wants : List ℕ} {t : Study}
    (counted : WantsCounted file n a total vars posts places manys starts steps wants t)
  where
    pub counted_variables : n ≤ 32
    counted_variables = omega (arith, counted.variables, few_tasks counted.orderly.lawful)

    -- each variable is at its start
    pub counted_prepared : (state : List ℕ) → Begins n starts state → Prepared file n a total vars posts places manys steps wants state t
    counted_prepared state begins = record {
      deeds = counted.deeds;
      variables = counted.variables;
      rowed = counted.rowed;
      met = counted.orderly.met;
      list = counted.orderly.list;
      members = counted.orderly.members;
      counted = counted.orderly.counted;
      wanted = counted.wanted counted.orderly.list counted.orderly.members;
      at_start_lem = λ v h. begins.start v h ∙ counted.tells_starts v h;
    }
