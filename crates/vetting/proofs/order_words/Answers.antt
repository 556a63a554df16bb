-- `vetting::order_words` meets its contract: a condition off its walk is refusal 11, a ring 12; else there is a plan, and the words tell the walk actions.
-- Assumes nothing.
use Prim.Native.Nat.{ℕ, ◌≤◌, ◌<◌}
use native.Mathlib.Omega.{arith}
use mathlib.Core.Path.{◌≡◌, refl, sym, ap, ◌∙◌}
use mathlib.Core.List.{List}
use lib.ListN.{length, get_or, take, replicate}
use Rattle.ranks.specs.Ranks.{rising, Turned}
use Rattle.ranks.proofs.Laws.{length-rising, get_d_rising}
use Rattle.study.specs.Study.{Study}
use Rattle.orders.specs.Orders.{Counted}
use Rattle.hanging.specs.Hanging.{InWord, TakenByName}
use Rattle.walks.specs.Walks.{Met}
use Rattle.tables.specs.Tables.{ActionTables}
use Rattle.ordering.specs.Ordering.{Ordered, Orderable, OrdersAll}
use Rattle.handing.specs.Handing.{Taken}
use Rattle.handing.proofs.Outcomes.{fewer_is_ring, fits}
use Rattle.stages.specs.Whole.{Walking, WalkingIn, Orderly}
use Rattle.stages.proofs.Stages.{rowed_walks, all_few, walking_ranks, walking_orderly, orderly_taken}
use Rattle.stages.proofs.Few.{walking_orderable, members_counted, taken_greedily}
use Rattle.charts.specs.Answers.{off_walk_lem}
use Rattle.vetting.specs.Words.{InWords}
use Rattle.vetting.proofs.Few.{ranks_rising, room_turned, word_walks, word_low, word_directs}
use Rattle.vetting.proofs.Planned.{refused_charts, plan_in_front}
use Rattle.vetting.proofs.order_words.Goals as goal
use Rattle.vetting.proofs.order_words.Goals.{After-number_all, After-number_all-2, After-order_all-found}

-- the tables hold a study whose walks are entered, and each has its own number as rank
module _
    {file : List ℕ} {count n total : ℕ} {acts : ActionTables} {starts steps : List ℕ} {t : Study}
    (few : count ≤ 64) (walking : Walking file (rising count) n total acts starts steps t)
  where
    orderable_by_number : Orderable file count acts.vars acts.pres acts.places acts.manys starts acts.setters steps t
    orderable_by_number = rw (length-rising count) at (walking_orderable walking)

    -- .. and the actions are ordered, and each has its own number as name
    module _
        {members : ℕ} {words names : List ℕ} (told : Met t × Ordered t (rising count) members words)
        (turned : Turned (rising count) names)
      where
        orderly : Orderly total t
        orderly = walking_orderly walking told.0

        counted : Counted (InWord members) total
        counted = members_counted orderly (walking_ranks walking) told.1 turned

        -- .. and taken
        taken_of : {k : ℕ} {room : List ℕ} → TakenByName members words names k room → Taken t (rising count) total k room
        taken_of by_name =
            orderly_taken orderly (walking_ranks walking) _ _ (taken_greedily orderly (walking_ranks walking) told.1 turned by_name)

    -- .. all of them
    module _
        {members k : ℕ} {words room : List ℕ} (ordered : Ordered t (rising count) members words) (counts : Counted (InWord members) total)
        (taken : Taken t (rising count) total k room)
        (sized : length room ≡ 512) (within : k ≤ total) (all_taken : total ≤ k)
      where
        words_of : InWords t count total members acts.outs words
        words_of =
            let held = rw (length-rising count) at walking.actions in
            let laid = fits taken sized within all_taken (replicate 256 0) (all_few walking) in
            record {
              plannable = (_, plan_in_front walking.lawful walking.ranked (replicate 256 0) refl laid refl);
              actions = held.count;
              force = λ i l. (held.action i l).force;
              few = all_few walking;
              counted = counts;
              low = word_low few held.count ordered;
              walks = word_walks few held.count ordered;
              directs = word_directs few held.count ordered;
            }

-- a number is no other's rank
own_rank : {count : ℕ} {ranks : List ℕ} → ranks ≡ rising count → (i : ℕ) → i < count → get_or ranks i 0 ≡ i
own_rank e i h = rw e (get_d_rising _ i h)

-- what is known once each has its own number as rank, and the actions are ordered
front_of : (n : After-number_all) → take n.args.count n.number_all.new.room ≡ rising n.args.count
front_of n = ranks_rising n.number_all.new.room n.number_all.ensures.1 n.number_all.ensures.0 n.args.count n.requires.2

names_turned : (m : After-number_all-2) → Turned (rising m.args.count) m.number_all-2.new.room
names_turned m = room_turned m.number_all-2.new.room m.number_all-2.ensures.1 m.args.count m.requires.2

orders_of :
    (o : After-order_all-found) (t : Study) (v : ℕ)
    → WalkingIn o.args.file.now (rising o.args.count) v o.args.total o.args.acts.now o.args.vars.now o.args.setters.now o.args.steps.now t
    → OrdersAll t (rising o.args.count) o.order_all-found.new.before o.order_all-found.result
orders_of o t v walking =
    let front = ranks_rising o.number_all.new.room o.number_all.ensures.1 o.number_all.ensures.0 o.args.count o.requires.2 in
    rw front at
    (o.order_all-found.ensures.orders_all t (orderable_by_number o.requires.2 walking)
    (λ i j h g e. omega (arith, own_rank front i h, own_rank front j g)) o.requires.1)

pub slice_bounds-number_all-end : goal.slice_bounds-number_all-end
slice_bounds-number_all-end c = refl

pub slice_bounds-order_all-end : goal.slice_bounds-order_all-end
slice_bounds-order_all-end c = sym (ap length (front_of (goal.at.slice_bounds-order_all-end c).After-number_all) ∙ length-rising _)

pub order_all-found-requires : goal.order_all-found-requires
order_all-found-requires c =
    let front = front_of (goal.at.order_all-found-requires c).After-number_all in
    let (t, v, walking) = c.requires.4 in (
      c.requires.0,
      c.requires.2,
      ap length front ∙ length-rising c.args.count,
      λ i h. omega (arith, own_rank front i h, c.requires.2),
      (t, orderable_by_number c.requires.2 walking),
    )

pub returns-in-Err : goal.returns-in-Err
returns-in-Err c =
    let e = c.in-Err.is in
    record {
      setters_len = c.requires.3;
      readies = λ t v walking chart.
          let off = rw e at (orders_of (goal.at.returns-in-Err c).After-order_all-found t v walking) in
          rw c.unmet.ensures (off_walk_lem (rowed_walks walking.variables walking.rowed) off);
    }

pub number_all-requires-2 : goal.number_all-requires-2
number_all-requires-2 c = omega (arith, c.requires.3)

pub take_looking-taken-requires : goal.take_looking-taken-requires
take_looking-taken-requires c =
    let (t, v, walking) = c.requires.4 in
    let told = rw c.in-Ok.is at (orders_of (goal.at.take_looking-taken-requires c).After-order_all-found t v walking) in (
      all_few walking,
      c.number_all-2.ensures.0 ∙ c.requires.3,
      counted c.requires.2 walking told (names_turned (goal.at.take_looking-taken-requires c).After-number_all-2),
    )

pub returns-then-taken-total : goal.returns-then-taken-total
returns-then-taken-total c =
    let (within, sized) = c.take_looking-taken.ensures.upper_bound in
    record {
      setters_len = sized;
      readies = λ t v walking chart.
          let told = rw c.in-Ok.is at (orders_of (goal.at.returns-then-taken-total c).After-order_all-found t v walking) in
          let taken = taken_of c.requires.2 walking told (names_turned (goal.at.returns-then-taken-total c).After-number_all-2) c.take_looking-taken.ensures.taken_by_name in
          rw c.refusal.ensures
          (refused_charts walking.lawful walking.ranked (replicate 256 0) refl
          (fewer_is_ring taken sized within (replicate 256 0) (omega arith)) chart (λ e. omega (arith, e)));
    }

pub returns : goal.returns
returns c =
    let (within, sized) = c.take_looking-taken.ensures.upper_bound in
    record {
      setters_len = sized;
      readies = λ t v walking.
          let told = rw c.in-Ok.is at (orders_of (goal.at.returns c).After-order_all-found t v walking) in
          let turned = names_turned (goal.at.returns c).After-number_all-2 in
          let taken = taken_of c.requires.2 walking told turned c.take_looking-taken.ensures.taken_by_name in
          words_of c.requires.2 walking told.1 (counted c.requires.2 walking told turned) taken sized within (omega arith);
    }
