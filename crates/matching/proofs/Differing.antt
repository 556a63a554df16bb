-- Comparing plans entry by entry, a plan with those behind it, and counting those that do not come again.
-- Assumes nothing.
use mathlib.Core.Path.{◌≡◌, ◌∙◌}
use mathlib.Core.Logic.{◌≢◌}
use mathlib.Core.Bool.{true, false, not, ◌&&◌, ◌||◌}
use mathlib.Core.List.{List, []}
use Prim.Native.Nat.{ℕ, ◌+◌, ◌*◌, ◌≤◌, ◌<◌}
use native.Mathlib.Numerals.{add-one}
use native.Mathlib.Omega.{arith}
use lib.Dec.{eqb}
use lib.ListN.{length, get_or, drop, drop_of_length-le}
use lib.Seq.{drop-cons}
use borrow.Author.Tests.{eq-eqb, ne_eqb}
use Rattle.ranks.specs.Ranks.{one}
use Rattle.varied.specs.Figures.{same_list, is_among, different}
use Rattle.matching.specs.Kept.{plan_at, Kept}

-- ---- two plans from a position on

entry_first :
    (x y : List ℕ) (p : ℕ) → p < length x → p < length y
    → same_list (drop p x) (drop p y) ≡ (eqb (get_or x p 0) (get_or y p 0) && same_list (drop (p + 1) x) (drop (p + 1) y))
unfolding same_list
entry_first x y p h g = rw (add-one p, drop-cons x p 0 h, drop-cons y p 0 g)

module _ {region : List ℕ} {base stride len : ℕ} {plans : List (List ℕ)} {j k at p : ℕ}
    (kept : Kept region base stride len plans) (a : j < length plans) (b : k < length plans)
    (is_at : at ≡ base + stride * p) (h : p < len) where
  first_of_lem :
      same_list (drop p (plan_at plans j)) (drop p (plan_at plans k))
      ≡ (eqb (get_or region (at + j) 0) (get_or region (at + k) 0) && same_list (drop (p + 1) (plan_at plans j)) (drop (p + 1) (plan_at plans k)))
  first_of_lem =
      rw (is_at, kept.stands j p a h, kept.stands k p b h)
      (entry_first (plan_at plans j) (plan_at plans k) p (omega (arith, kept.even j a)) (omega (arith, kept.even k b)))

  pub entries_same :
      get_or region (at + j) 0 ≡ get_or region (at + k) 0
      → same_list (drop p (plan_at plans j)) (drop p (plan_at plans k)) ≡ same_list (drop (p + 1) (plan_at plans j)) (drop (p + 1) (plan_at plans k))
  entries_same e = first_of_lem ∙ rw (eq-eqb (get_or region (at + j) 0) (get_or region (at + k) 0) e)

  pub entries_differ :
      get_or region (at + j) 0 ≢ get_or region (at + k) 0 → same_list (drop p (plan_at plans j)) (drop p (plan_at plans k)) ≡ false
  entries_differ o = first_of_lem ∙ rw (ne_eqb (get_or region (at + j) 0) (get_or region (at + k) 0) o)

pub no_entry_left : (x y : List ℕ) (p : ℕ) → length x ≤ p → length y ≤ p → same_list (drop p x) (drop p y) ≡ true
unfolding same_list
no_entry_left x y p h g = rw (drop_of_length-le x h, drop_of_length-le y g)

-- ---- a plan and those behind it

pub among_next :
    (x : List ℕ) (plans : List (List ℕ)) (k : ℕ) → k < length plans
    → is_among x (drop k plans) ≡ (same_list x (plan_at plans k) || is_among x (drop (k + 1) plans))
unfolding is_among
among_next x plans k h = rw (add-one k, drop-cons plans k [] h)

pub among_none : (x : List ℕ) (plans : List (List ℕ)) (k : ℕ) → length plans ≤ k → is_among x (drop k plans) ≡ false
unfolding is_among
among_none x plans k h = rw (drop_of_length-le plans h)

-- ---- all plans

pub different-next :
    (plans : List (List ℕ)) (j : ℕ) → j < length plans
    → different (drop j plans) ≡ one (not (is_among (plan_at plans j) (drop (j + 1) plans))) + different (drop (j + 1) plans)
unfolding different
different-next plans j h = rw (add-one j, drop-cons plans j [] h)

pub different_none : (plans : List (List ℕ)) (j : ℕ) → length plans ≤ j → different (drop j plans) ≡ 0
unfolding different
different_none plans j h = rw (drop_of_length-le plans h)
