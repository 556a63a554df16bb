-- Rule (a), between actions of walks: that the post of one is the pre of the other, on one variable, says that they stand next to each other on its walk.
-- Assumes nothing.
use Prim.Native.Nat.{ℕ, zero, suc, ◌<◌}
use native.Mathlib.Omega.{arith}
use mathlib.Core.Path.{◌≡◌, sym, ap, ◌∙◌}
use mathlib.Core.Logic.{◌↔◌}
use mathlib.Core.List.{List}
use lib.ListN.{length, get_or}
use Rattle.study.specs.Study.{Study}
use Rattle.lawful.specs.Lawful.{Lawful}
use Rattle.plans.proofs.Usable.{one_setter}
use Rattle.orders.proofs.Lists.{in_has_place}
use Rattle.walks.specs.Walks.{var_of, pre_of, post_of, Walk, OnAWalk}
use Rattle.walks.proofs.Leads.{on_walk_usable}
use Rattle.walks.proofs.Unique.{walk_usable, walk_var, walk_first, walk_next}

-- j is the next after i on the walk of i's variable
pub record NextOnWalk (t : Study) (i j : ℕ) : Type 0 where
  pub list : List ℕ
  pub walk : Walk t (var_of t i) list
  pub place : ℕ
  pub there : suc place < length list
  pub one : get_or list place 0 ≡ i
  pub other : get_or list (suc place) 0 ≡ j

module _ {t : Study} (lawful : Lawful t) {i j : ℕ} (on-i : OnAWalk t i) (on-j : OnAWalk t j) where
  follows : var_of t i ≡ var_of t j → post_of t i ≡ pre_of t j → NextOnWalk t i j
  follows var leaves = at_place (in_has_place j on-j.list on-j.on)
    where
      walk : Walk t (var_of t i) on-j.list
      walk = rw var on-j.walk

      at_place : (k : ℕ) × ((k < length on-j.list) × (get_or on-j.list k 0 ≡ j)) → NextOnWalk t i j
      at_place (zero, (h, e)) =
          absurd (on-i.walk.ends_at_start i on-i.on (leaves ∙ ap (pre_of t) (sym e) ∙ walk_first walk h))
      at_place (suc k, (h, e)) = record {
        list = on-j.list;
        walk = walk;
        place = k;
        there = h;
        one =
            one_setter lawful (get_or on-j.list k 0) i (walk_usable walk k (omega arith)) (on_walk_usable on-i) (walk_var walk k (omega arith))
            (sym (walk_next walk k h) ∙ ap (pre_of t) e ∙ sym leaves);
        other = e;
      }

  -- document 01's (a): each action before the next of its walk
  pub next_is_next_of_walk : ((var_of t i ≡ var_of t j) × (post_of t i ≡ pre_of t j)) ↔ NextOnWalk t i j
  next_is_next_of_walk = (λ h. follows h.0 h.1, back)
    where
      back : NextOnWalk t i j → (var_of t i ≡ var_of t j) × (post_of t i ≡ pre_of t j)
      back n = (
        sym (ap (var_of t) (sym n.other) ∙ walk_var n.walk (suc n.place) n.there),
        ap (post_of t) (sym n.one) ∙ sym (walk_next n.walk n.place n.there) ∙ ap (pre_of t) n.other,
      )
