-- The actions up to one: those on walks are members, what they want is on walks, and what comes before and after them is marked.
-- Assumes nothing.
use mathlib.Core.Path.{◌≡◌, refl, sym, ◌∙◌}
use mathlib.Core.Logic.{◌⊎◌, inl, inr}
use mathlib.Core.Bool.{true, ◌||◌, or-true, true≢false}
use mathlib.Core.List.{List}
use Prim.Native.Nat.{ℕ, ◌+◌, ◌<◌}
use native.Mathlib.Omega.{arith}
use lib.Dec.{eqb}
use lib.ListN.{length, get_or}
use borrow.Author.Count.{below_more}
use borrow.Author.Tests.{eq-eqb, eqb-true}
use Rattle.plain.proofs.Tests.{either}
use Rattle.bits.specs.Bits.{bit}
use Rattle.bits.proofs.Words.{bit_zero}
use Rattle.study.specs.Study.{Study}
use Rattle.walks.specs.Walks.{OnAWalk, ComesBefore, next, sets, leaves}
use Rattle.walks.proofs.Leads.{on_walk_usable}
use Rattle.wanting.proofs.OnWalks.{WantsOnWalks}
use Rattle.marking.specs.Marking.{Marked}
use Rattle.ordering.specs.Marking.{SetsFor, WantsLeft, Justified, ActionMarked}
use Rattle.ordering.specs.Ordering.{OrdersAll}
use Rattle.std.specs.Prelude.{Ok}

pub record Passed (t : Study) (ranks : List ℕ) (members : ℕ) (table : List ℕ) (i : ℕ) : Type 0 where
  pub met : (j : ℕ) → j < i → OnAWalk t j → WantsOnWalks t j
  pub member : (j : ℕ) → j < i → OnAWalk t j → bit members (get_or ranks j 0) ≡ true
  pub only_members : (r : ℕ) → bit members r ≡ true → (j : ℕ) × (OnAWalk t j × (get_or ranks j 0 ≡ r))
  pub setters : (y : ℕ) → y < i → OnAWalk t y → (x : ℕ) → OnAWalk t x → SetsFor t x y → Marked table (get_or ranks y 0) (get_or ranks x 0)
  pub leavers : (x : ℕ) → x < i → OnAWalk t x → (y : ℕ) → OnAWalk t y → WantsLeft t x y → Marked table (get_or ranks y 0) (get_or ranks x 0)
  pub only : (a b : ℕ) → Marked table a b → Justified t ranks a b

pub none_passed : {t : Study} {ranks table : List ℕ} → ((j : ℕ) → get_or table j 0 ≡ 0) → Passed t ranks 0 table 0
none_passed zeros = record {
  met = λ j h. absurd (omega arith);
  member = λ j h. absurd (omega arith);
  only_members = λ r m. absurd (true≢false (sym m ∙ bit_zero r));
  setters = λ y h. absurd (omega arith);
  leavers = λ x h. absurd (omega arith);
  only = λ a b m. absurd (true≢false (sym m ∙ rw (zeros a) (bit_zero b)));
}

module _ {t : Study} {ranks : List ℕ} {members : ℕ} {table : List ℕ} {i : ℕ} (p : Passed t ranks members table i) where
  -- action i is on no walk
  pub one_skipped : (OnAWalk t i → ⊥) → Passed t ranks members table (i + 1)
  one_skipped off = record {
    met = below_more (λ j. OnAWalk t j → WantsOnWalks t j) i p.met (λ on. absurd (off on));
    member = below_more (λ j. OnAWalk t j → bit members (get_or ranks j 0) ≡ true) i p.member (λ on. absurd (off on));
    only_members = p.only_members;
    setters =
        below_more (λ y. OnAWalk t y → (x : ℕ) → OnAWalk t x → SetsFor t x y → Marked table (get_or ranks y 0) (get_or ranks x 0)) i
        p.setters (λ on. absurd (off on));
    leavers =
        below_more (λ x. OnAWalk t x → (y : ℕ) → OnAWalk t y → WantsLeft t x y → Marked table (get_or ranks y 0) (get_or ranks x 0)) i
        p.leavers (λ on. absurd (off on));
    only = p.only;
  }

  -- action i is on a walk, and what it wants is too
  pub one_passed :
      {steps table' : List ℕ} {members' : ℕ} → OnAWalk t i → WantsOnWalks t i
      → ((b : ℕ) → bit members' b ≡ (eqb (get_or ranks i 0) b || bit members b))
      → ActionMarked t i ranks steps table table' → Passed t ranks members' table' (i + 1)
  one_passed {table' = table'} {members' = members'} on wants-on is m = record {
    met = below_more (λ j. OnAWalk t j → WantsOnWalks t j) i p.met (λ _. wants-on);
    member =
        below_more (λ j. OnAWalk t j → bit members' (get_or ranks j 0) ≡ true) i
        (λ j h walks. rw (is (get_or ranks j 0), p.member j h walks) (or-true (eqb (get_or ranks i 0) (get_or ranks j 0))))
        (λ _. rw (is (get_or ranks i 0), eq-eqb (get_or ranks i 0) (get_or ranks i 0) refl));
    only_members = λ r h. from r (either (eqb (get_or ranks i 0) r) (bit members r) (rw (is r) at h));
    setters =
        below_more (λ y. OnAWalk t y → (x : ℕ) → OnAWalk t x → SetsFor t x y → Marked table' (get_or ranks y 0) (get_or ranks x 0)) i
        (λ y h walks x other how. m.grows _ _ (p.setters y h walks x other how)) (λ _. m.setters);
    leavers =
        below_more (λ x. OnAWalk t x → (y : ℕ) → OnAWalk t y → WantsLeft t x y → Marked table' (get_or ranks y 0) (get_or ranks x 0)) i
        (λ x h walks y other how. m.grows _ _ (p.leavers x h walks y other how)) (λ _. m.leavers);
    only = λ a b h. elim (m.only a b h) [ inl old ↦ p.only a b old | inr new ↦ new ];
  }
    where
      from : (r : ℕ) → (eqb (get_or ranks i 0) r ≡ true) ⊎ (bit members r ≡ true) → (j : ℕ) × (OnAWalk t j × (get_or ranks j 0 ≡ r))
      from r (inl e) = (i, (on, eqb-true (get_or ranks i 0) r e))
      from r (inr h) = p.only_members r h

  pub all_passed :
      i ≡ length t.actions → ((x y : ℕ) → x < i → y < i → get_or ranks x 0 ≡ get_or ranks y 0 → x ≡ y) → OrdersAll t ranks table (Ok members)
  all_passed e distinct = (
    λ j on. p.met j (below on) on,
    record {
      member = λ j on. p.member j (below on) on;
      only_members = p.only_members;
      complete = complete;
      sound = λ x y on other m. from x y on other (p.only _ _ m);
      named = λ r s m. let j = p.only r s m in (j.other, (j.other_there, j.other_rank));
    },
  )
    where
      below : {x : ℕ} → OnAWalk t x → x < i
      below on = omega (arith, on_walk_usable on)

      complete : (x y : ℕ) → OnAWalk t x → OnAWalk t y → ComesBefore t x y → Marked table (get_or ranks y 0) (get_or ranks x 0)
      complete x y on other (next var left) = p.setters y (below other) other x on (inl (var, left))
      complete x y on other (sets wanted) = p.setters y (below other) other x on (inr wanted)
      complete x y on other (leaves wanted) = p.leavers x (below on) on y other wanted

      from : (x y : ℕ) → OnAWalk t x → OnAWalk t y → Justified t ranks (get_or ranks y 0) (get_or ranks x 0) → ComesBefore t x y
      from x y on other j =
          let same : j.one ≡ x = distinct j.one x (omega (arith, j.one_there)) (below on) j.one_rank in
          let same-other : j.other ≡ y = distinct j.other y (omega (arith, j.other_there)) (below other) j.other_rank in
          rw (same, same-other) at j.before
