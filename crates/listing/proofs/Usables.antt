-- Entries that may be used, as the tables tell it, and the first that may not.
-- Assumes nothing.
use mathlib.Core.Path.{◌≡◌, sym, ◌∙◌}
use mathlib.Core.Bool.{true, false, true≢false}
use mathlib.Core.List.{List}
use Prim.Native.Nat.{ℕ, ◌+◌, ◌≤◌, ◌<◌}
use native.Mathlib.Omega.{arith}
use lib.Dec.{eqb}
use lib.ListN.{length, get_or}
use borrow.Author.Count.{below_more}
use Rattle.study.specs.Study.{Study}
use Rattle.plans.specs.Plans.{Usable}
use Rattle.tracing.specs.Facts.{TellsForce}
use Rattle.listing.specs.Listing.{FindsUnusable}

-- the first k entries may be used
pub record UsableSoFar (list : List ℕ) (a : ℕ) (outs : List ℕ) (k : ℕ) : Type 0 where
  pub few : k ≤ length list
  pub so_far_lem : (t : Study) → a ≡ length t.actions → TellsForce a outs t → (j : ℕ) → j < k → Usable t (get_or list j 0)

pub none_passed : {list : List ℕ} {a : ℕ} {outs : List ℕ} → UsableSoFar list a outs 0
none_passed = record { few = omega arith; so_far_lem = λ t e f j h. absurd (omega arith) }

module _ {list : List ℕ} {a : ℕ} {outs : List ℕ} {k : ℕ} (under : UsableSoFar list a outs k) where
  module _ (h : k < length list) {i : ℕ} (is : i ≡ get_or list k 0) where
    pub one_passed : i < a → eqb (get_or outs i 0) 0 ≡ true → UsableSoFar list a outs (k + 1)
    one_passed there in_force_lem = record {
      few = omega arith;
      so_far_lem =
          λ t e f. below_more (λ j. Usable t (get_or list j 0)) k (under.so_far_lem t e f)
          (rw (← is) (record { there = omega arith; in_force_lem = sym (f i there) ∙ in_force_lem }));
    }

    stops : ((t : Study) → a ≡ length t.actions → TellsForce a outs t → Usable t i → ⊥)
        → (t : Study) → a ≡ length t.actions → TellsForce a outs t → FindsUnusable t list k
    stops not_so t e f = record {
      all = λ g. absurd (omega arith);
      first = λ _. record { there = h; unusable = λ u. not_so t e f (rw (← is) at u); before = under.so_far_lem t e f };
    }

    pub stops_absent : a ≤ i → (t : Study) → a ≡ length t.actions → TellsForce a outs t → FindsUnusable t list k
    stops_absent out = stops (λ t e f u. omega (arith, u.there))

    pub stops_out : eqb (get_or outs i 0) 0 ≡ false → (t : Study) → a ≡ length t.actions → TellsForce a outs t → FindsUnusable t list k
    stops_out out = stops (λ t e f u. true≢false (sym u.in_force_lem ∙ sym (f i (omega (arith, u.there))) ∙ out))

  pub all_passed : length list ≤ k → (t : Study) → a ≡ length t.actions → TellsForce a outs t → FindsUnusable t list k
  all_passed h t e f = record {
    all = λ _ j l. under.so_far_lem t e f j (omega arith);
    first = λ l. absurd (omega arith);
  }
