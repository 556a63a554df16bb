-- A planner by definitions alone, for any file: its answer is one that planning allows.
-- Assumes nothing.
use Prim.Native.Nat.{ℕ, ◌<◌}
use native.Mathlib.Omega.{arith}
use mathlib.Core.Path.{◌≡◌, refl}
use mathlib.Core.Bool.{Bool, not}
use mathlib.Core.Option.{Option, none, some}
use mathlib.Core.List.{List, [], ◌++◌}
use lib.Dec.{ltb}
use lib.ListN.{length, drop}
use Rattle.plain.specs.Choose.{pick}
use Rattle.answer.specs.Answers.{done, refusal}
use Rattle.answer.specs.declared.Answer.{Answer}
use Rattle.ranking.specs.Ranking.{Tested, tested}
use Rattle.std.specs.Prelude.{Ok, Err}
use Rattle.ranking.specs.declared.Unranked.TheVariants.{Length, Entry}
use Rattle.ranking.proofs.Fine.{fine_is_rank_list}
use Rattle.study.specs.Study.{Study}
use Rattle.study.specs.Reading.{Said, says, refused}
use Rattle.lawful.specs.Lawful.{Lawful}
use Rattle.lawful.proofs.Loads.{LawfulIfHeard}
use Rattle.orders.specs.Orders.{In, None, Greedy}
use Rattle.walks.specs.Walks.{OnAWalk, ComesBefore, Walks, Met}
use Rattle.planning.specs.Refusals.{not_ranked, with_ring, short_buffer}
use Rattle.planning.specs.Planning.{rank_in, FirstPlan, Plans, wrong_length, wrong_entry, no_walk, off_walk_lem, ring, no_room, a_plan, PlansFile}
use Rattle.planning.proofs.Found.{greedy_is_first_plan, greedy_stuck}
use Rattle.reference.proofs.Tests.{Says, holds, fails, settled, says_not, says_below, among, says_among}
use Rattle.reference.proofs.Searching.{least, Least, is_least, is_none, least_tells}
use Rattle.reference.proofs.Meeting.{comes_before, says_comes_before, walk_actions, walk_action_in, in_walk_actions}
use Rattle.reference.proofs.Barring.{barred, Bar, lacks_walk, off_its_walk, no_bar, bar_tells}
use Rattle.reference.proofs.Choosing.{greedily, greedily_is_greedy}

-- an answer, and the lent bytes afterwards
pub record Outcome : Type 0 where
  pub answer : Answer
  pub bytes : List ℕ

abbrev pub gives : Answer → List ℕ → Outcome
gives answer bytes = record { answer = answer; bytes = bytes }

-- ---- the planner

unfoldable pub chosen : Study → List ℕ → List ℕ
chosen t ranks = greedily (comes_before t) (walk_actions t) (rank_in ranks) (length (walk_actions t)) []

-- a walk action that is not chosen
unfoldable pub left_out_lem : Study → List ℕ → Option ℕ
left_out_lem t list = least (λ x. not (among list x)) (λ i. i) (walk_actions t)

-- 13, 0
abbrev pub laid : List ℕ → List ℕ → Outcome
laid list before =
    pick (ltb (length before) (length list)) (gives (short_buffer (length list)) before) (gives (done (length list) 0) (list ++ drop (length list) before))

-- 12
abbrev pub unless_left : Option ℕ → List ℕ → List ℕ → Outcome
unless_left none list before = laid list before
unless_left (some x) list before = gives (with_ring (length list)) before

-- 10, 11
abbrev pub unless_barred : Option Answer → List ℕ → Outcome → Outcome
unless_barred none before o = o
unless_barred (some r) before o = gives r before

-- 9
abbrev pub if_fine : Tested → List ℕ → List ℕ → Outcome → Outcome
if_fine (Ok tt) ranks before o = o
if_fine (Err Length) ranks before o = gives (not_ranked (length ranks) (Err Length)) before
if_fine (Err (Entry k)) ranks before o = gives (not_ranked (length ranks) (Err (Entry k))) before

unfoldable pub planned : Study → List ℕ → List ℕ → Outcome
planned t ranks before =
    if_fine (tested ranks (length t.actions)) ranks before
    (unless_barred (barred t) before (unless_left (left_out_lem t (chosen t ranks)) (chosen t ranks) before))

abbrev pub planned_file : Said Study → List ℕ → List ℕ → Outcome
planned_file (says t) ranks before = planned t ranks before
planned_file (refused number place) ranks before = gives (refusal number place) before

-- ---- its answer is allowed

module _ {t : Study} (lawful : Lawful t) where
  chosen_is_greedy : (ranks : List ℕ) → Greedy (OnAWalk t) (ComesBefore t) (rank_in ranks) None (chosen t ranks)
  unfolding chosen
  chosen_is_greedy ranks =
      greedily_is_greedy (OnAWalk t) (ComesBefore t) (walk_actions t) (walk_action_in lawful) (in_walk_actions lawful) (says_comes_before t) (rank_in ranks)
      (length (walk_actions t)) [] tt (λ x h. absurd h) (omega arith)

  left_out_tells : (list : List ℕ) → Least (λ x. In x list → ⊥) (λ i. i) (walk_actions t) (left_out_lem t list)
  unfolding left_out_lem
  left_out_tells list = least_tells (λ x. says_not (says_among x list)) (λ i. i) (walk_actions t)

  module _ (ranks before : List ℕ) where
    abbrev Allowed : Outcome → Type 0
    Allowed o = Plans t ranks before o.answer o.bytes

    laid_allowed : (list : List ℕ) → tested ranks (length t.actions) ≡ Ok tt → FirstPlan t ranks list → Allowed (laid list before)
    laid_allowed list fine first = go (says_below (length before) (length list))
      where
        go :
            {b : Bool} → Says (length before < length list) b
            → Allowed (pick b (gives (short_buffer (length list)) before) (gives (done (length list) 0) (list ++ drop (length list) before)))
        go (holds h) = no_room fine first h
        go (fails n) = a_plan fine first (omega arith)

    pub planned_allowed : Allowed (planned t ranks before)
    unfolding planned
    planned_allowed = go (tested ranks (length t.actions)) refl
      where
        list : List ℕ
        list = chosen t ranks

        left : tested ranks (length t.actions) ≡ Ok tt → Walks t → Met t
            → {o : Option ℕ} → Least (λ x. In x list → ⊥) (λ i. i) (walk_actions t) o → Allowed (unless_left o list before)
        left fine walks met (is_none n) =
            laid_allowed list fine (greedy_is_first_plan lawful walks met (fine_is_rank_list fine) (chosen_is_greedy ranks)
            (λ x o. settled (says_among x list) (n x (walk_action_in lawful x o))))
        left fine walks met (is_least {x = x} h n _) =
            let stuck =
            greedy_stuck t ranks list (chosen_is_greedy ranks) (walk_actions t) (walk_action_in lawful) (in_walk_actions lawful)
            x (in_walk_actions lawful x h) n
            in
            ring fine walks met stuck.0.1 stuck.1

        bars : tested ranks (length t.actions) ≡ Ok tt → {o : Option Answer} → Bar t o
            → Allowed (unless_barred o before (unless_left (left_out_lem t list) list before))
        bars fine (lacks_walk l) = no_walk fine l
        bars fine (off_its_walk walks l) = off_walk_lem fine walks l
        bars fine (no_bar walks met) = left fine walks met (left_out_tells list)

        go : (r : Tested) → tested ranks (length t.actions) ≡ r
            → Allowed (if_fine r ranks before (unless_barred (barred t) before (unless_left (left_out_lem t list) list before)))
        go (Ok tt) e = bars e (bar_tells lawful)
        go (Err Length) e = wrong_length e
        go (Err (Entry k)) e = wrong_entry e

pub planned_file_allowed :
    (said : Said Study) → LawfulIfHeard said → (ranks before : List ℕ)
    → PlansFile said ranks before (planned_file said ranks before).answer (planned_file said ranks before).bytes
planned_file_allowed (says t) lawful ranks before = planned_allowed lawful ranks before
planned_file_allowed (refused number place) lawful ranks before = (refl, refl)
