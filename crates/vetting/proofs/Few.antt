-- At most 64 actions, each with its own number as rank: what is ordered and taken tells the walk actions, the direct orders, and whether there is a plan.
-- Assumes nothing.
use Prim.Native.Nat.{ℕ, zero, suc, ◌≤◌, ◌<◌}
use native.Mathlib.Omega.{arith}
use mathlib.Core.Path.{◌≡◌, refl, sym, ◌∙◌}
use mathlib.Core.Logic.{◌↔◌}
use mathlib.Core.Bool.{false≢true}
use mathlib.Core.List.{List}
use lib.ListN.{length, get_or, take, replicate}
use lib.Seq.{take-suc}
use Rattle.plain.proofs.Lists.{all_zeros}
use Rattle.bits.proofs.Words.{bit_zero}
use Rattle.ranks.specs.Ranks.{rising, Turned}
use Rattle.ranks.proofs.Laws.{length-rising, get_d_rising, rising_is_rank_list}
use Rattle.ranking.proofs.Fine.{rank_list_is_fine}
use Rattle.study.specs.Study.{Study}
use Rattle.walks.specs.Walks.{OnAWalk}
use Rattle.walks.proofs.Leads.{on_walk_usable}
use Rattle.tables.specs.Tables.{ActionTables}
use Rattle.ordering.specs.Ordering.{Ordered}
use Rattle.hanging.specs.Hanging.{InWord}
use Rattle.tying.specs.Tying.{InPlace, Low}
use Rattle.stages.specs.Whole.{Known, Given}
use Rattle.stages.proofs.Stages.{known_given}
use Rattle.charts.specs.Faults.{Direct}
use Rattle.comparing.specs.Comparing.{Untied, Wanted}

-- ---- each action's rank is its own number

pub ranks_rising : (ranks : List ℕ) → InPlace ranks → length ranks ≡ 64 → (k : ℕ) → k ≤ 64 → take k ranks ≡ rising k
ranks_rising ranks places e zero h = refl
ranks_rising ranks places e (suc k) h =
    take-suc ranks k 0 (omega arith) ∙ rw (ranks_rising ranks places e k (omega arith), places k (omega arith))

pub room_turned : (room : List ℕ) → InPlace room → (k : ℕ) → k ≤ 64 → Turned (rising k) room
room_turned room places k few = record { inverse = λ i h. own i (omega (arith, length-rising k)) }
  where
    own : (i : ℕ) → i < k → (get_or (rising k) i 0 < 256) × (get_or room (get_or (rising k) i 0) 0 ≡ i)
    own i h = rw (get_d_rising k i h) (omega arith, places i (omega arith))

pub given_rising :
    {file : List ℕ} {n a x : ℕ} {acts : ActionTables} {starts goals : List ℕ} {t : Study} → Known file n a x acts starts goals t
    → Given file (rising a) n a acts starts goals t
given_rising {a = a} known = known_given (rising a) known (rank_list_is_fine (rising_is_rank_list a))

-- ---- what was ordered

module _
    {t : Study} {count members : ℕ} {words : List ℕ} (few : count ≤ 64) (actions : count ≡ length t.actions)
    (ordered : Ordered t (rising count) members words)
  where
    walk_low : (i : ℕ) → OnAWalk t i → i < count
    walk_low i on = omega (arith, (on_walk_usable on).there)

    own_rank : (i : ℕ) → i < count → get_or (rising count) i 0 ≡ i
    own_rank i h = get_d_rising count i h

    member_walks : (i : ℕ) → InWord members i → OnAWalk t i
    member_walks i m =
        let (j, (on, e)) = ordered.only_members i m in
        rw (sym e ∙ own_rank j (walk_low j on)) on

    pub word_walks : (i : ℕ) → InWord members i ↔ OnAWalk t i
    word_walks i = (member_walks i, λ on. rw (own_rank i (walk_low i on)) at (ordered.member i on))

    pub word_low : Low members
    word_low i m = omega (arith, walk_low i (member_walks i m))

    pub word_directs : (i j : ℕ) → Wanted members words i j ↔ Direct t i j
    word_directs i j = (there, back)
      where
        there : Wanted members words i j → Direct t i j
        there (m, n, w) =
            let one = member_walks i m in
            let other = member_walks j n in
            record {
              one = one;
              other = other;
              comes_before_lem = ordered.sound i j one other (rw (own_rank i (walk_low i one), own_rank j (walk_low j other)) w);
            }

        back : Direct t i j → Wanted members words i j
        back d = (
          (word_walks i).1 d.one,
          (word_walks j).1 d.other,
          rw (own_rank i (walk_low i d.one), own_rank j (walk_low j d.other)) at (ordered.complete i j d.one d.other d.comes_before_lem),
        )

-- ---- ties made anew

pub fresh_untied : Untied (replicate 64 0)
fresh_untied x y (low, w) = false≢true (sym (bit_zero x) ∙ rw (all_zeros 64 y) at w)
