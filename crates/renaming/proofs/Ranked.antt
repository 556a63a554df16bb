-- The direct orders by action are those that ordering finds where each action is its own rank; under the ranks of a list they are those by rank.
-- Assumes nothing.
use mathlib.Core.Path.{◌≡◌, sym, ◌∙◌}
use mathlib.Core.List.{List}
use Prim.Native.Nat.{ℕ, ◌<◌}
use lib.ListN.{length, get_or}
use Rattle.study.specs.Study.{Study}
use Rattle.walks.specs.Walks.{OnAWalk}
use Rattle.walks.proofs.Leads.{on_walk_usable}
use Rattle.ordering.specs.Ordering.{Ordered, OrdersAll}
use Rattle.std.specs.Prelude.{Result, Ok, Err}
use Rattle.wanting.specs.declared.Off.{Off}
use Rattle.renaming.specs.Renaming.{ByAction, OrdersByAction, Renamed, Reworded}

-- ---- each action is its own rank

walk_low : {t : Study} {i : ℕ} → OnAWalk t i → i < length t.actions
walk_low on = (on_walk_usable on).there

module _ (t : Study) (own words : List ℕ) (itself : (i : ℕ) → i < length t.actions → get_or own i 0 ≡ i) where
  own_ordered : {members : ℕ} → Ordered t own members words → ByAction t members words
  own_ordered {members} ordered = record {
    member = λ i on. rw (itself i (walk_low on)) at (ordered.member i on);
    only_members = λ r h. let (i, (on, is)) = ordered.only_members r h in rw (sym (itself i (walk_low on)) ∙ is) at on;
    complete = λ i j on to comes. rw (itself i (walk_low on), itself j (walk_low to)) at (ordered.complete i j on to comes);
    sound = λ i j on to h. ordered.sound i j on to (rw (itself i (walk_low on), itself j (walk_low to)) h);
  }

  pub own_orders : (found : Result ℕ Off) → OrdersAll t own words found → OrdersByAction t words found
  own_orders (Ok m) (met, ordered) = (met, own_ordered ordered)
  own_orders (Err o) off = off

-- ---- under the ranks of a list

pub ranked_orders :
    {t : Study} {members : ℕ} {words : List ℕ} → ByAction t members words
    → {ranks : List ℕ} → ((i j : ℕ) → i < length t.actions → j < length t.actions → get_or ranks i 0 ≡ get_or ranks j 0 → i ≡ j)
    → {ranked : ℕ} {by_rank : List ℕ} → Renamed ranks members ranked → Reworded members words ranks by_rank → Ordered t ranks ranked by_rank
ranked_orders {t} {members} {words} own {ranks} apart {ranked} {by_rank} renamed reworded = record {
  member = λ i on. renamed.has i (own.member i on);
  only_members = λ r h. let (i, (there, is)) = renamed.only r h in (i, (own.only_members i there, is));
  complete = λ i j on to comes. reworded.has i j (own.member i on) (own.member j to) (own.complete i j on to comes);
  sound = λ i j on to h.
      let s = reworded.only (get_or ranks j 0) (get_or ranks i 0) h in
      let one = own.only_members s.one s.one_member in
      let other = own.only_members s.other s.other_member in
      let is_one : s.one ≡ i = apart s.one i (walk_low one) (walk_low on) s.one_rank in
      let is-other : s.other ≡ j = apart s.other j (walk_low other) (walk_low to) s.other_rank in
      own.sound i j on to (rw (is_one, is-other) at s.before);
  named = λ r s h. let st = reworded.only r s h in (st.other, (walk_low (own.only_members st.other st.other_member), st.other_rank));
}
