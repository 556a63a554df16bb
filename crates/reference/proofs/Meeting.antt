-- Tests on the walks of a study: which action comes before which, and what is on a walk.
-- Assumes nothing.
use Prim.Native.Nat.{ℕ}
use mathlib.Core.Path.{◌≡◌}
use mathlib.Core.Logic.{◌⊎◌, inl, inr}
use mathlib.Core.Bool.{Bool, true, false, ◌&&◌, ◌||◌}
use mathlib.Core.Option.{Option, none, some}
use mathlib.Core.List.{List, [], ◌∷◌}
use lib.Dec.{eqb, ltb}
use lib.ListN.{length}
use Rattle.study.specs.Study.{Condition, Study}
use Rattle.lawful.specs.Lawful.{Lawful}
use Rattle.ranks.specs.Ranks.{rising}
use Rattle.orders.specs.Orders.{In}
use Rattle.orders.proofs.Lists.{below_in}
use Rattle.walks.specs.Walks.{var_of, pre_of, post_of, conditions_of, start_of, Walk, OnAWalk, ValueOnWalk, Wants, ComesBefore, next, sets, leaves}
use Rattle.walks.specs.Traces.{walk_of}
use Rattle.walks.proofs.Leads.{on_walk_usable}
use Rattle.walks.proofs.Unique.{walk_unique}
use Rattle.walks.proofs.Traces.{WalkOf, found, none_there, walk_of_tells}
use Rattle.reference.proofs.Tests.{Says, holds, fails, says_same, says_equal, says_below, says_both, says_either, among, any, says_among, says_any}
use Rattle.reference.proofs.Searching.{passing, in_passing, passing_in}

-- ---- comes before

unfoldable pub wants : List Condition → ℕ → ℕ → Bool
wants [] v q = false
wants (c ∷ rest) v q = (eqb c.var v && eqb c.value q) || wants rest v q

unfoldable pub comes_before : Study → ℕ → ℕ → Bool
comes_before t i j =
    (eqb (var_of t i) (var_of t j) && eqb (post_of t i) (pre_of t j))
    || (wants (conditions_of t j) (var_of t i) (post_of t i) || wants (conditions_of t i) (var_of t j) (pre_of t j))

says_wants : (cs : List Condition) (v q : ℕ) → Says (Wants cs v q) (wants cs v q)
unfolding wants
says_wants [] v q = fails (λ h. h)
says_wants (c ∷ rest) v q = says_either (says_both (says_equal c.var v) (says_equal c.value q)) (says_wants rest v q)

pub says_comes_before : (t : Study) (i j : ℕ) → Says (ComesBefore t i j) (comes_before t i j)
unfolding comes_before
says_comes_before t i j =
    says_same to from
    (says_either
    (says_both (says_equal (var_of t i) (var_of t j)) (says_equal (post_of t i) (pre_of t j)))
    (says_either (says_wants (conditions_of t j) (var_of t i) (post_of t i)) (says_wants (conditions_of t i) (var_of t j) (pre_of t j))))
  where
    Any : Type 0
    Any =
        ((var_of t i ≡ var_of t j) × (post_of t i ≡ pre_of t j))
        ⊎ (Wants (conditions_of t j) (var_of t i) (post_of t i) ⊎ Wants (conditions_of t i) (var_of t j) (pre_of t j))

    to : Any → ComesBefore t i j
    to (inl h) = next h.0 h.1
    to (inr (inl w)) = sets w
    to (inr (inr w)) = leaves w

    from : ComesBefore t i j → Any
    from (next e f) = inl (e, f)
    from (sets w) = inr (inl w)
    from (leaves w) = inr (inr w)

-- ---- on a walk

abbrev pub on_it : Option (List ℕ) → ℕ → Bool
on_it none i = false
on_it (some w) i = among w i

abbrev pub value_on_it : Study → ℕ → ℕ → Option (List ℕ) → Bool
value_on_it t v q none = false
value_on_it t v q (some w) = eqb q (start_of t v) || any (λ i. eqb (post_of t i) q) w

abbrev pub is_none : {A : Type 0} → Option A → Bool
is_none none = true
is_none (some a) = false

unfoldable pub on_walk : Study → ℕ → Bool
on_walk t i = ltb (var_of t i) (length t.tasks) && on_it (walk_of t (var_of t i)) i

unfoldable pub value_on : Study → ℕ → ℕ → Bool
value_on t v q = value_on_it t v q (walk_of t v)

unfoldable pub walk_actions : Study → List ℕ
walk_actions t = passing (on_walk t) (rising (length t.actions))

module _ {t : Study} (lawful : Lawful t) where
  pub says_on_walk : (i : ℕ) → Says (OnAWalk t i) (on_walk t i)
  unfolding on_walk
  says_on_walk i =
      says_same
      (λ h. record { there = h.0; list = h.1.0; walk = h.1.1.0; on = h.1.1.1 })
      (λ o. (o.there, (o.list, (o.walk, o.on))))
      (says_both (says_below (var_of t i) (length t.tasks)) (go (walk_of_tells lawful (var_of t i))))
    where
      go : {o : Option (List ℕ)} → WalkOf t (var_of t i) o → Says ((w : List ℕ) × (Walk t (var_of t i) w × In i w)) (on_it o i)
      go (found {w = w} walk) =
          says_same (λ h. (w, (walk, h))) (λ h. rw (walk_unique lawful h.1.0 walk) at h.1.1) (says_among i w)
      go (none_there n) = fails (λ h. n h.0 h.1.0)

  pub says_value_on : (v q : ℕ) → Says (ValueOnWalk t v q) (value_on t v q)
  unfolding value_on
  says_value_on v q = go (walk_of_tells lawful v)
    where
      go : {o : Option (List ℕ)} → WalkOf t v o → Says (ValueOnWalk t v q) (value_on_it t v q o)
      go (found {w = w} walk) =
          says_same (λ h. record { list = w; walk = walk; value = h }) (λ o. rw (walk_unique lawful o.walk walk) at o.value)
          (says_either (says_equal q (start_of t v)) (says_any (λ i. says_equal (post_of t i) q) w))
      go (none_there n) = fails (λ o. n o.list o.walk)

  pub says_no_walk : (v : ℕ) → Says ((w : List ℕ) → Walk t v w → ⊥) (is_none (walk_of t v))
  says_no_walk v = go (walk_of_tells lawful v)
    where
      go : {o : Option (List ℕ)} → WalkOf t v o → Says ((w : List ℕ) → Walk t v w → ⊥) (is_none o)
      go (found {w = w} walk) = fails (λ n. n w walk)
      go (none_there n) = holds n

  pub walk_action_in : (x : ℕ) → OnAWalk t x → In x (walk_actions t)
  unfolding walk_actions
  walk_action_in x o = in_passing says_on_walk x (rising (length t.actions)) (below_in (length t.actions) x (on_walk_usable o).there) o

  pub in_walk_actions : (x : ℕ) → In x (walk_actions t) → OnAWalk t x
  unfolding walk_actions
  in_walk_actions x h = (passing_in says_on_walk x (rising (length t.actions)) h).1
