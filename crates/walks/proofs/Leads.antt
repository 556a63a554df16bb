-- Lists of actions that lead a variable from one value to another: joined, by their last action, and place by place; an action on a walk is one that may be used, so none out of force is.
-- Assumes nothing.
use mathlib.Core.Path.{◌≡◌, refl, sym, ap, ◌∙◌}
use mathlib.Core.Logic.{◌⊎◌, inl, inr}
use mathlib.Core.Bool.{false, true≢false}
use mathlib.Core.List.{List, [], ◌∷◌, ◌++◌}
use Prim.Native.Nat.{ℕ, zero, suc, ◌<◌}
use native.Mathlib.Omega.{arith}
use lib.ListN.{length, get_or, take}
use Rattle.study.specs.Study.{Study, in_force, action_at}
use Rattle.plans.specs.Plans.{Usable}
use Rattle.orders.specs.Orders.{In}
use Rattle.walks.specs.Walks.{var_of, pre_of, post_of, start_of, goal_of, Leads, OnAWalk}

module _ (t : Study) (v : ℕ) where
  pub leads_joined :
      (p : ℕ) (xs : List ℕ) (m : ℕ) (ys : List ℕ) (q : ℕ)
      → Leads t v p xs m → Leads t v m ys q → Leads t v p (xs ++ ys) q
  leads_joined p [] m ys q a b = rw a b
  leads_joined p (x ∷ xs) m ys q (u, (i, (e, a))) b = (u, (i, (e, leads_joined (post_of t x) xs m ys q a b)))

  pub leads_in : (p : ℕ) (xs : List ℕ) (q : ℕ) → Leads t v p xs q → (i : ℕ) → In i xs → Usable t i × (var_of t i ≡ v)
  leads_in p [] q a i h = absurd h
  leads_in p (x ∷ xs) q (u, (d, (e, a))) i (inl f) = rw f (u, d)
  leads_in p (x ∷ xs) q (u, (d, (e, a))) i (inr h) = leads_in (post_of t x) xs q a i h

  -- what leads somewhere is empty or has a last action, which sets the last value
  pub record Last (p : ℕ) (xs : List ℕ) (q : ℕ) : Type 0 where
    pub front : List ℕ
    pub last : ℕ
    pub is : xs ≡ front ++ (last ∷ [])
    pub usable : Usable t last
    pub var : var_of t last ≡ v
    pub post : post_of t last ≡ q
    pub leads : Leads t v p front (pre_of t last)

  pub leads_last : (p : ℕ) (xs : List ℕ) (q : ℕ) → Leads t v p xs q → ((xs ≡ []) × (p ≡ q)) ⊎ Last p xs q
  leads_last p [] q a = inl (refl, a)
  leads_last p (x ∷ xs) q (u, (i, (e, a))) = from (leads_last (post_of t x) xs q a)
    where
      from : ((xs ≡ []) × (post_of t x ≡ q)) ⊎ Last (post_of t x) xs q → ((x ∷ xs ≡ []) × (p ≡ q)) ⊎ Last p (x ∷ xs) q
      from (inl (n, f)) = inr (record { front = []; last = x; is = rw n; usable = u; var = i; post = f; leads = sym e })
      from (inr l) = inr (record {
        front = x ∷ l.front;
        last = l.last;
        is = ap (λ (r : List ℕ). x ∷ r) l.is;
        usable = l.usable;
        var = l.var;
        post = l.post;
        leads = (u, (i, (e, l.leads)));
      })

-- place by place
module _ (t : Study) (v : ℕ) where
  pub leads_each :
      (p : ℕ) (xs : List ℕ) (q : ℕ) → Leads t v p xs q
      → (k : ℕ) → k < length xs → Usable t (get_or xs k 0) × (var_of t (get_or xs k 0) ≡ v)
  leads_each p [] q a k h = absurd (omega arith)
  leads_each p (x ∷ xs) q (u, (i, a)) zero h = (u, i)
  leads_each p (x ∷ xs) q (u, (i, (e, a))) (suc k) h = leads_each (post_of t x) xs q a k (omega arith)

  pub leads_first : (p : ℕ) (xs : List ℕ) (q : ℕ) → Leads t v p xs q → 0 < length xs → pre_of t (get_or xs 0 0) ≡ p
  leads_first p [] q a h = absurd (omega arith)
  leads_first p (x ∷ xs) q (u, (i, (e, a))) h = e

  pub leads_next :
      (p : ℕ) (xs : List ℕ) (q : ℕ) → Leads t v p xs q
      → (k : ℕ) → suc k < length xs → pre_of t (get_or xs (suc k) 0) ≡ post_of t (get_or xs k 0)
  leads_next p [] q a k h = absurd (omega arith)
  leads_next p (x ∷ xs) q (u, (i, (e, a))) zero h = leads_first (post_of t x) xs q a (omega arith)
  leads_next p (x ∷ xs) q (u, (i, (e, a))) (suc k) h = leads_next (post_of t x) xs q a k (omega arith)

  pub leads_end : (p : ℕ) (xs : List ℕ) (q : ℕ) → Leads t v p xs q → (k : ℕ) → suc k ≡ length xs → post_of t (get_or xs k 0) ≡ q
  leads_end p [] q a k h = absurd (omega arith)
  leads_end p (x ∷ []) q (u, (i, (e, a))) zero h = a
  leads_end p (x ∷ y ∷ xs) q (u, (i, (e, a))) zero h = absurd (omega arith)
  leads_end p (x ∷ xs) q (u, (i, (e, a))) (suc k) h = leads_end (post_of t x) xs q a k (omega arith)

  pub leads_cut :
      (p : ℕ) (xs : List ℕ) (q : ℕ) → Leads t v p xs q
      → (k : ℕ) → k < length xs → Leads t v p (take k xs) (pre_of t (get_or xs k 0))
  leads_cut p [] q a k h = absurd (omega arith)
  leads_cut p (x ∷ xs) q (u, (i, (e, a))) zero h = sym e
  leads_cut p (x ∷ xs) q (u, (i, (e, a))) (suc k) h = (u, (i, (e, leads_cut (post_of t x) xs q a k (omega arith))))

  pub leads_nowhere : (p : ℕ) (xs : List ℕ) (q : ℕ) → Leads t v p xs q → length xs ≡ 0 → p ≡ q
  leads_nowhere p [] q a h = a
  leads_nowhere p (x ∷ xs) q a h = absurd (omega arith)

pub on_walk_usable : {t : Study} {i : ℕ} → OnAWalk t i → Usable t i
on_walk_usable {t} {i} o = (leads_in t (var_of t i) (start_of t (var_of t i)) o.list (goal_of t (var_of t i)) o.walk.leads i o.on).0

pub out_of_force_on_no_walk : {t : Study} {i : ℕ} → in_force t.situation (action_at t.actions i) ≡ false → OnAWalk t i → ⊥
out_of_force_on_no_walk out o = true≢false (sym (on_walk_usable o).in_force_lem ∙ out)
