-- The actions up to one: the list of those on walks, what they want is on walks, and the table counts it.
-- Assumes nothing.
use mathlib.Core.Path.{◌≡◌, refl, ◌∙◌}
use mathlib.Core.Logic.{inl, inr}
use mathlib.Core.List.{List, [], ◌∷◌}
use Prim.Native.Nat.{ℕ, ◌+◌, ◌*◌, ◌<◌}
use native.Mathlib.Omega.{arith}
use lib.ListN.{length, get_or}
use borrow.Author.Count.{below_more}
use Rattle.study.specs.Study.{Study}
use Rattle.orders.specs.Orders.{In, Distinct}
use Rattle.walks.specs.Walks.{OnAWalk, conditions_of}
use Rattle.walks.proofs.Leads.{on_walk_usable}
use Rattle.tracing.specs.Steps.{Members}
use Rattle.wanting.specs.Wanting.{wanted, Counts, Raised, WantsAll}
use Rattle.std.specs.Prelude.{Ok}
use Rattle.wanting.proofs.Counting.{members_want_same}
use Rattle.wanting.proofs.OnWalks.{WantsOnWalks}

pub record Passed (t : Study) (table : List ℕ) (i : ℕ) : Type 0 where
  pub list : List ℕ
  pub once : Distinct list
  pub all : (x : ℕ) → x < i → OnAWalk t x → In x list
  pub only : (x : ℕ) → In x list → (x < i) × OnAWalk t x
  pub counts : Counts t list table
  pub met : (j : ℕ) → j < i → OnAWalk t j → WantsOnWalks t j

pub none_passed : {t : Study} {table : List ℕ} → ((j : ℕ) → get_or table j 0 ≡ 0) → Passed t table 0
unfolding wanted
none_passed zeros = record {
  list = [];
  once = tt;
  all = λ x h. absurd (omega arith);
  only = λ x h. absurd h;
  counts = λ u q _ _. zeros (16 * u + q);
  met = λ j h. absurd (omega arith);
}

module _ {t : Study} {table : List ℕ} {i : ℕ} (p : Passed t table i) where
  -- action i is on no walk
  pub one_skipped : (OnAWalk t i → ⊥) → Passed t table (i + 1)
  one_skipped off = record {
    list = p.list;
    once = p.once;
    all = below_more (λ x. OnAWalk t x → In x p.list) i p.all (λ on. absurd (off on));
    only = λ x h. let (b, on) = p.only x h in (omega arith, on);
    counts = p.counts;
    met = below_more (λ j. OnAWalk t j → WantsOnWalks t j) i p.met (λ on. absurd (off on));
  }

  -- action i is on a walk, and what it wants is too
  pub one_passed : {table' : List ℕ} → OnAWalk t i → WantsOnWalks t i → Raised (conditions_of t i) table table' → Passed t table' (i + 1)
  unfolding wanted
  one_passed on wants-on more = record {
    list = i ∷ p.list;
    once = (λ h. let (b, _) = p.only i h in omega arith, p.once);
    all = below_more (λ x. OnAWalk t x → In x (i ∷ p.list)) i (λ x b o. inr (p.all x b o)) (λ _. inl refl);
    only = λ x h. elim h [ inl e ↦ (omega arith, rw e on) | inr g ↦ (let (b, o) = p.only x g in (omega arith, o)) ];
    counts = λ u q low narrow. omega (arith, more u q low narrow, p.counts u q low narrow);
    met = below_more (λ j. OnAWalk t j → WantsOnWalks t j) i p.met (λ _. wants-on);
  }

  pub all_passed : i ≡ length t.actions → WantsAll t table (Ok tt)
  all_passed e = (
    λ j on. p.met j (below on) on,
    λ list members u q low narrow. p.counts u q low narrow ∙ members_want_same t u q mine members,
  )
    where
      below : {x : ℕ} → OnAWalk t x → x < i
      below on = omega (arith, on_walk_usable on)

      mine : Members t p.list
      mine = record { once = p.once; all = λ x on. p.all x (below on) on; only = λ x h. (p.only x h).1 }
