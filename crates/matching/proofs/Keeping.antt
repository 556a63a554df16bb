-- Keeping one plan more: its entries are stored row by row, and no entry of another plan is touched.
-- Assumes nothing.
use mathlib.Core.Path.{◌≡◌, refl, ◌∙◌}
use mathlib.Core.Logic.{◌≢◌}
use mathlib.Core.List.{List, [], ◌∷◌, ◌++◌}
use Prim.Native.Nat.{ℕ, ◌+◌, ◌*◌, ◌<◌}
use native.Mathlib.Omega.{arith}
use native.Mathlib.Decide.{ℕ_discrete}
use lib.ListN.{length, get_or, drop, set, length-set}
use lib.Seq.{get_or-set_same, get_or-set_other, drop-set-lt}
use Rattle.plain.proofs.Lists.{each_more}
use Rattle.matching.specs.Kept.{plan_at, Kept, RoomFor, KeptBelow}
use Rattle.matching.proofs.Places.{row_within, one-column}

-- the plan's first p entries are stored as plan k
pub record KeptTo (plan : List ℕ) (k base stride len : ℕ) (before : List ℕ) (p : ℕ) (region : List ℕ) : Type 0 where
  pub long : length region ≡ length before
  pub behind : drop (base + stride * len) region ≡ drop (base + stride * len) before
  pub own : (q : ℕ) → q < p → get_or region (base + stride * q + k) 0 ≡ get_or plan q 0
  pub others : (j q : ℕ) → j < stride → j ≢ k → get_or region (base + stride * q + j) 0 ≡ get_or before (base + stride * q + j) 0

module _ {plan : List ℕ} {k base stride len : ℕ} {before : List ℕ} where
  pub nothing_stored : KeptTo plan k base stride len before 0 before
  nothing_stored = record { long = refl; behind = refl; own = λ q h. absurd (omega arith); others = λ j q h o. refl }

  pub one_stored :
      (at p : ℕ) (region : List ℕ) → k < stride → RoomFor base stride len before → p < len → at ≡ base + stride * p
      → KeptTo plan k base stride len before p region
      → KeptTo plan k base stride len before (p + 1) (set region (at + k) (get_or plan p 0))
  one_stored at p region few room h is_at to = record {
    long = length-set region (at + k) _ ∙ to.long;
    behind = drop-set-lt (base + stride * len) region (at + k) _ (omega (arith, row_within stride h)) ∙ to.behind;
    own = λ q g. go q g (ℕ_discrete q p);
    others = λ j q g o.
        get_or-set_other region (at + k) (base + stride * q + j) _ 0 (λ e. o (one-column stride p q g few (omega arith))) ∙ to.others j q g o;
  }
    where
      go : (q : ℕ) → q < p + 1 → Dec (q ≡ p) → get_or (set region (at + k) (get_or plan p 0)) (base + stride * q + k) 0 ≡ get_or plan q 0
      go q g (yes e) = rw (e, ← is_at) (get_or-set_same region (at + k) (get_or plan p 0) 0 (omega (arith, row_within stride h, to.long)))
      go q g (no o) =
          let before-it : q < p = omega (arith, o) in
          get_or-set_other region (at + k) (base + stride * q + k) _ 0 (omega (arith, row_within stride before-it)) ∙ to.own q before-it

  pub all_stored :
      {region : List ℕ} {plans : List (List ℕ)} → k < stride → length plan ≡ len → length plans ≡ k
      → KeptTo plan k base stride len before len region → Kept before base stride len plans
      → Kept region base stride len (plans ++ (plan ∷ []))
  all_stored {region} {plans} few whole is-k to kept = record {
    even = each_more (λ _ x. length x ≡ len) plans plan [] kept.even whole;
    stands = λ j p h.
        each_more (λ j x. (p : ℕ) → p < len → get_or region (base + stride * p + j) 0 ≡ get_or x p 0) plans plan []
        (λ i g q b. to.others i q (omega arith) (omega arith) ∙ kept.stands i q g b)
        (λ q b. rw is-k (to.own q b))
        j h p;
  }

-- before the first is kept
pub none_kept : (region : List ℕ) (base stride len : ℕ) → Kept region base stride len []
none_kept region base stride len = record { even = λ k h. absurd (omega arith); stands = λ k p h. absurd (omega arith) }

-- where each plan's entries are below a limit, what is kept of them is
pub kept_below :
    {region : List ℕ} {base stride len : ℕ} {plans : List (List ℕ)} (limit : ℕ) → Kept region base stride len plans
    → ((k p : ℕ) → k < length plans → p < len → get_or (plan_at plans k) p 0 < limit) → KeptBelow limit (length plans) base stride len region
kept_below limit kept below k p h g = rw (kept.stands k p h g) (below k p h g)
