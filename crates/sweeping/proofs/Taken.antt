-- What moves come to in a study: walk actions taken one after another, each when it is ready. So they are guided, and where none can move, what is left is behind a ring.
-- Assumes nothing.
use mathlib.Core.Path.{◌≡◌, refl, subst, ◌∙◌}
use mathlib.Core.List.{List, [], ◌∷◌, ◌++◌}
use Prim.Native.Nat.{ℕ, suc, ◌≤◌, ◌<◌}
use native.Mathlib.Omega.{arith}
use lib.ListN.{length, get_or, set, replicate, length-set, length-append}
use Rattle.study.specs.Study.{Study}
use Rattle.plans.specs.Plans.{StraightPlan}
use Rattle.orders.specs.Orders.{In, None, Takes, OnRing}
use Rattle.orders.proofs.Lists.{distinct_within, distinct_fills, fewer_miss_one}
use Rattle.orders.proofs.Members.{all_taken_is_order}
use Rattle.orders.proofs.Grown.{NoneReady, greedy_so_far_takes}
use Rattle.orders.proofs.Stuck.{stuck_has_ring, stuck_counts}
use Rattle.walks.specs.Walks.{OnAWalk, ComesBefore, var_of, post_of}
use Rattle.walks.proofs.Leads.{on_walk_usable}
use Rattle.walks.proofs.Straight.{order_is_straight}
use Rattle.planning.specs.Planning.{FreeOfRings}
use Rattle.planning.proofs.Decided.{comes_before_decided}
use Rattle.tables.specs.Rows.{Row, Begins, var_column, post_column, place_column, many_column}
use Rattle.opening.specs.Conditions.{lowered_all}
use Rattle.taking.specs.Taking.{PreparedRows}
use Rattle.taking.proofs.Holding.{stand_readable}
use Rattle.taking.proofs.Lowered.{lowered_length}
use Rattle.taking.proofs.Between.{Going, action_stands, part, narrow, ahead}
use Rattle.taking.proofs.Alike.{ReadyNow, few_tasks, looks_so_is, is_so_looks}
use Rattle.taking.proofs.OneMore.{taken_lowerable, one_more}
use Rattle.taking.proofs.TakingRounds.{going_starts, total_few}
use Rattle.stages.specs.Whole.{WantsCounted}
use Rattle.stages.proofs.Stages.{counted_prepared}
use Rattle.sweeping.specs.Moving.{Stays, Looks, Moves, none, more, LooksInRange, Guided}
use Rattle.sweeping.specs.Sweeping.{Swept}

-- as many actions were taken, and the counts and the state answer to them; without ranks, every ready action is one of least rank
record SoFar (file : List ℕ) (acts : List Row) (steps list : List ℕ) (k : ℕ) (wants state : List ℕ) (t : Study) : Type 0 where
  taken : List ℕ
  many : length taken ≡ k
  held : List ℕ
  held_long : length held ≡ 32
  wants_long : length wants ≡ 512
  going : Going [] file (place_column acts) (many_column acts) steps wants state held list taken t

module _ {file : List ℕ} {n a total : ℕ} {acts : List Row} {steps wants₀ state₀ : List ℕ} {t : Study}
    (prep : PreparedRows file n a total acts steps wants₀ state₀ t) where
  module _ {k : ℕ} {wants state : List ℕ} (so_far_lem : SoFar file acts steps prep.list k wants state t) where
    -- the next action of v that looks ready is taken
    taken_more : (v i : ℕ) → v < n → Looks file acts steps wants state v i
        → SoFar file acts steps prep.list (suc k) (lowered_all file (get_or (place_column acts) i 0) (get_or (many_column acts) i 0) wants)
        (set state v (get_or (post_column acts) i 0)) t
    taken_more v i h looks = record {
      taken = so_far_lem.taken ++ (i ∷ []);
      many = omega (arith, length-append so_far_lem.taken (i ∷ []), so_far_lem.many);
      held = set so_far_lem.held (var_of t i) 0;
      held_long = length-set so_far_lem.held (var_of t i) 0 ∙ so_far_lem.held_long;
      wants_long = lowered_length file (get_or (place_column acts) i 0) (get_or (many_column acts) i 0) wants ∙ so_far_lem.wants_long;
      going = rw (← own_var, own_post) (one_more prep so_far_lem.going ready so_far_lem.wants_long so_far_lem.held_long (λ y r. omega arith));
    }
      where
        there : v < length t.tasks
        there = omega (arith, prep.variables)

        ready : ReadyNow prep so_far_lem.going i
        ready = looks_so_is prep so_far_lem.going there looks

        own_var : var_of t i ≡ v
        own_var = (ahead prep so_far_lem.going v there i looks.next).var

        own_post : get_or (post_column acts) i 0 ≡ post_of t i
        own_post = prep.deeds.tells_post i (omega (arith, (on_walk_usable ready.is_member).there, prep.deeds.actions))

    in_range_lem : LooksInRange file acts steps n wants state
    in_range_lem = record {
      few = omega (arith, prep.variables, few_tasks prep so_far_lem.going);
      wants_long = so_far_lem.wants_long;
      narrow = λ v h. narrow prep so_far_lem.going v (omega (arith, prep.variables));
      next = λ v i h e.
          let s = ahead prep so_far_lem.going v (omega (arith, prep.variables)) i e in (
            omega (arith, (on_walk_usable s.on).there, prep.deeds.lawful.few_actions),
            stand_readable (action_stands prep i s.on),
          );
      able = λ v i h looks.
          taken_lowerable prep so_far_lem.going (looks_so_is prep so_far_lem.going (omega (arith, prep.variables)) looks) so_far_lem.wants_long;
    }

    taken_within : (x : ℕ) → In x so_far_lem.taken → In x prep.list
    taken_within x h = prep.members.all x ((part prep so_far_lem.going).only x h)

    most : k ≤ total
    most =
        omega (
          arith,
          distinct_within so_far_lem.taken prep.list (part prep so_far_lem.going).once taken_within,
          prep.counted,
          so_far_lem.many,
        )

    takes : Takes (OnAWalk t) (ComesBefore t) None so_far_lem.taken
    takes = greedy_so_far_takes (OnAWalk t) (ComesBefore t) (λ i. get_or [] i 0) None so_far_lem.taken so_far_lem.going.greedy

    none_ready : ((v : ℕ) → v < n → Stays file acts steps wants state v) → NoneReady (OnAWalk t) (ComesBefore t) (λ y. In y so_far_lem.taken)
    none_ready stay y ready = stay (var_of t y) (omega (arith, ready.is_member.there, prep.variables)) y (is_so_looks prep so_far_lem.going ready)

  module _ (wants_long : length wants₀ ≡ 512) (state-long : length state₀ ≡ 32) where
    moves_take : {k : ℕ} {wants state : List ℕ} → Moves file acts steps n wants₀ state₀ k wants state → SoFar file acts steps prep.list k wants state t
    moves_take none = record {
      taken = [];
      many = refl;
      held = replicate 32 0;
      held_long = refl;
      wants_long = wants_long;
      going = going_starts prep [] state-long;
    }
    moves_take (more v i rest h looks) = taken_more (moves_take rest) v i h looks

    guides : Guided file acts steps n wants₀ state₀
    guides k wants state moves = let s = moves_take moves in (in_range_lem s, omega (arith, most s, total_few prep))

-- ---- the conditions were counted, and each variable was set at its start

module _ (acts : List Row) {file : List ℕ} {n a total : ℕ} {starts steps wants₀ state₀ : List ℕ} {t : Study}
    (counted : WantsCounted file n a total (var_column acts) (post_column acts) (place_column acts) (many_column acts) starts steps wants₀ t)
    (wants_long : length wants₀ ≡ 512) (begins : Begins n starts state₀) where
  prep : PreparedRows file n a total acts steps wants₀ state₀ t
  prep = counted_prepared counted state₀ begins

  pub counted_guides : Guided file acts steps n wants₀ state₀
  counted_guides = guides prep wants_long begins.long

  module _ {k : ℕ} {wants state : List ℕ} (moves : Moves file acts steps n wants₀ state₀ k wants state) where
    so_far_lem : SoFar file acts steps prep.list k wants state t
    so_far_lem = moves_take prep wants_long begins.long moves

    all_straight : k ≡ total → (list : List ℕ) × StraightPlan t list
    all_straight e = (
      so_far_lem.taken,
      order_is_straight counted.orderly.lawful counted.orderly.walks counted.orderly.met so_far_lem.taken
          (all_taken_is_order (OnAWalk t) (ComesBefore t) so_far_lem.taken (takes prep so_far_lem)
          (λ x on.
          distinct_fills so_far_lem.taken prep.list (part prep so_far_lem.going).once (taken_within prep so_far_lem)
          (omega (arith, so_far_lem.many, prep.counted)) x (prep.members.all x on))),
    )

    fewer_stuck :
        ((v : ℕ) → v < n → Stays file acts steps wants state v) → k < total → ((x : ℕ) × OnRing (OnAWalk t) (ComesBefore t) x) × FreeOfRings t k
    fewer_stuck stay h =
        let members = prep.members in
        let none = none_ready prep so_far_lem stay in
        let (x, (there, left)) = fewer_miss_one so_far_lem.taken prep.list members.once (omega (arith, so_far_lem.many, prep.counted)) in (
          stuck_has_ring (OnAWalk t) (ComesBefore t) prep.list members.all members.only (comes_before_decided t) so_far_lem.taken
              (takes prep so_far_lem) none x (members.only x there) left,
          subst (λ (m : ℕ). FreeOfRings t m) so_far_lem.many
              (stuck_counts (OnAWalk t) (ComesBefore t) prep.list members.all members.only (comes_before_decided t) so_far_lem.taken
              (takes prep so_far_lem) none),
        )

    -- no variable can move
    pub ends_stuck : ((v : ℕ) → v < n → Stays file acts steps wants state v) → Swept t total k
    ends_stuck stay = record { most = most prep so_far_lem; all = all_straight; fewer = fewer_stuck stay }

    -- as many moves as there are walk actions
    pub ends_all : total ≤ k → Swept t total k
    ends_all h = record { most = most prep so_far_lem; all = all_straight; fewer = λ l. absurd (omega arith) }
