-- What was taken greedily: all of the walk actions, which is the first plan, or fewer, which is refusal 12.
-- Assumes nothing.
use mathlib.Core.Path.{◌≡◌, subst}
use mathlib.Core.List.{List, ◌++◌}
use Prim.Native.Nat.{ℕ, ◌≤◌, ◌<◌}
use native.Mathlib.Omega.{arith}
use lib.ListN.{length, take, drop, length-drop, take-append-drop}
use lib.Seq.{length-take-le}
use Rattle.answer.specs.Answers.{done}
use Rattle.ranking.proofs.Fine.{fine_is_rank_list}
use Rattle.study.specs.Study.{Study}
use Rattle.lawful.specs.Lawful.{Lawful}
use Rattle.orders.specs.Orders.{None, Takes}
use Rattle.orders.proofs.Lists.{fewer_miss_one, distinct_fills}
use Rattle.orders.proofs.Images.{few_images}
use Rattle.orders.proofs.Members.{takes_distinct, takes_members}
use Rattle.orders.proofs.Grown.{greedy_so_far, greedy_so_far_takes}
use Rattle.walks.specs.Walks.{OnAWalk, ComesBefore}
use Rattle.walks.proofs.Leads.{on_walk_usable}
use Rattle.planning.specs.Refusals.{with_ring}
use Rattle.planning.specs.Planning.{Plans, ring, a_plan, FirstPlan, rank_in}
use Rattle.planning.proofs.Found.{greedy_is_first_plan, greedy_stuck}
use Rattle.tracing.specs.Steps.{Members}
use Rattle.handing.specs.Handing.{Taken, InRoom}

-- no more walk actions than 256
pub few_in_all : {t : Study} {list : List ℕ} → Lawful t → Members t list → length list ≤ 256
few_in_all {t} {list} lawful members =
    let few = few_images (λ x. x) (length t.actions) list members.once (λ x y h g e. e) (λ x h. (on_walk_usable (members.only x h)).there) in
    omega (arith, few, lawful.few_actions)

module _
    {t : Study} {ranks : List ℕ} {total k : ℕ} {room : List ℕ} (ended : Taken t ranks total k room)
    (sized : length room ≡ 512) (within : k ≤ total)
  where
    abbrev out : List ℕ
    out = take k (drop 256 room)

    as_many : length out ≡ k
    as_many =
        length-take-le k (drop 256 room)
        (omega (arith, few_in_all ended.lawful ended.members, ended.counted, length-drop 256 room))

    takes : Takes (OnAWalk t) (ComesBefore t) None out
    takes =
        greedy_so_far_takes (OnAWalk t) (ComesBefore t) (rank_in ranks) None out
        (greedy_so_far (OnAWalk t) (ComesBefore t) (rank_in ranks) None out ended.greedy)

    pub fewer_is_ring : (before : List ℕ) → k < total → Plans t ranks before (with_ring k) before
    fewer_is_ring before h =
        let (x, (i, n)) = fewer_miss_one out ended.list ended.members.once (omega (arith, as_many, ended.counted)) in
        let ((y, on_ring), free) =
        greedy_stuck t ranks out ended.greedy ended.list ended.members.all ended.members.only x (ended.members.only x i) n in
        subst (λ (m : ℕ). Plans t ranks before (with_ring m) before) as_many (ring ended.ranked ended.walks ended.met on_ring free)

    module _ (all_taken : total ≤ k) where
      all_is_first_plan : FirstPlan t ranks out
      all_is_first_plan =
          greedy_is_first_plan ended.lawful ended.walks ended.met (fine_is_rank_list ended.ranked) ended.greedy
          (λ x o.
          distinct_fills out ended.list (takes_distinct (OnAWalk t) (ComesBefore t) None out takes)
          (λ y i. ended.members.all y (takes_members (OnAWalk t) (ComesBefore t) None out takes y i))
          (omega (arith, as_many, ended.counted)) x (ended.members.all x o))

      same : k ≡ total
      same = omega arith

      pub fits : (before : List ℕ) → total ≤ length before → Plans t ranks before (done total 0) (take total (drop 256 room) ++ drop total before)
      fits before h =
          subst (λ (m : ℕ). Plans t ranks before (done m 0) (take m (drop 256 room) ++ drop m before)) same
          (subst (λ (m : ℕ). Plans t ranks before (done m 0) (out ++ drop m before)) as_many
          (a_plan ended.ranked all_is_first_plan (omega (arith, as_many))))

      -- .. and its own half of the room has it already
      pub all_in_room : InRoom t ranks (done total 0) room
      all_in_room =
          subst (λ (after : List ℕ). Plans t ranks (drop 256 room) (done total 0) after) (take-append-drop total (drop 256 room))
          (fits (drop 256 room) (omega (arith, few_in_all ended.lawful ended.members, ended.counted, length-drop 256 room)))
