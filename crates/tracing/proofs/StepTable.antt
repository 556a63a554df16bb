-- What an entry of the table of steps says of the walks: which action leaves a value, that a walk ends there, or that the value is on no walk.
-- Assumes nothing.
use mathlib.Core.Path.{◌≡◌, refl, sym, ◌∙◌}
use mathlib.Core.Logic.{◌⊎◌, inl, inr, ◌≢◌}
use mathlib.Core.List.{List, [], ◌∷◌}
use Prim.Native.Nat.{ℕ, zero, suc, ◌+◌, ◌*◌, ◌≤◌, ◌<◌}
use native.Mathlib.Omega.{arith}
use native.Mathlib.Decide.{ℕ_discrete, dec_lt}
use lib.ListN.{length, get_or}
use Rattle.study.specs.Study.{Study}
use Rattle.lawful.specs.Lawful.{Lawful}
use Rattle.walks.specs.Walks.{Walk, OnAWalk, ValueOnWalk, var_of, pre_of, goal_of}
use Rattle.orders.proofs.Lists.{entry_in, in_has_place}
use Rattle.walks.proofs.Unique.{walk_unique, walk_var}
use Rattle.walks.proofs.Along.{reached, reached_left, reached_last, on_walk_lem, value_reached}
use Rattle.tracing.specs.Steps.{RowTo, Rowed}

-- the entry n at a value x, in the row of a walk
pub data Entry (t : Study) (v : ℕ) (list : List ℕ) (x n : ℕ) : Type 0 where
  leaves : (k : ℕ) → k < length list → pre_of t (get_or list k 0) ≡ x → n ≡ get_or list k 0 + 2 → Entry t v list x n
  ends : x ≡ goal_of t v → n ≡ 1 → Entry t v list x n
  off : n ≡ 0 → Entry t v list x n

abbrev Leaver : Study → List ℕ → ℕ → Type 0
Leaver t list x = (k : ℕ) × ((k < length list) × (pre_of t (get_or list k 0) ≡ x))

abbrev NoLeaver : Study → List ℕ → ℕ → Type 0
NoLeaver t list x = (k : ℕ) → k < length list → pre_of t (get_or list k 0) ≢ x

leaver_decided : (t : Study) (list : List ℕ) (x : ℕ) → Leaver t list x ⊎ NoLeaver t list x
leaver_decided t [] x = inr (λ k h. absurd (omega arith))
leaver_decided t (i ∷ rest) x = go (ℕ_discrete (pre_of t i) x) (leaver_decided t rest x)
  where
    none : pre_of t i ≢ x → NoLeaver t rest x → NoLeaver t (i ∷ rest) x
    none d f zero h = d
    none d f (suc k) h = f k (omega arith)

    go : Dec (pre_of t i ≡ x) → Leaver t rest x ⊎ NoLeaver t rest x → Leaver t (i ∷ rest) x ⊎ NoLeaver t (i ∷ rest) x
    go (yes e) _ = inl (0, (omega arith, e))
    go (no d) (inl (k, (h, e))) = inl (suc k, (omega arith, e))
    go (no d) (inr f) = inr (none d f)

pub row_entry :
    {t : Study} {v : ℕ} {list steps : List ℕ}
    → RowTo t v list (goal_of t v) steps → (x : ℕ) → x < 16 → Entry t v list x (get_or steps (16 * v + x) 0)
row_entry {t} {v} {list} {steps} row x narrow = go (leaver_decided t list x) (ℕ_discrete x (goal_of t v))
  where
    go : Leaver t list x ⊎ NoLeaver t list x → Dec (x ≡ goal_of t v) → Entry t v list x (get_or steps (16 * v + x) 0)
    go (inl (k, (h, e))) _ = leaves k h e (rw e at (row.leaves k h))
    go (inr f) (yes e) = ends e (rw e row.ends)
    go (inr f) (no d) = off (row.off x narrow d f)

-- the value after some actions of a walk is on the walk
pub reached_on_walk :
    {t : Study} {v : ℕ} {list : List ℕ} → Walk t v list → (k : ℕ) → k ≤ length list → ValueOnWalk t v (reached t v list k)
reached_on_walk {list = list} walk zero h = record { list = list; walk = walk; value = inl refl }
reached_on_walk {list = list} walk (suc k) h = record { list = list; walk = walk; value = inr (get_or list k 0, (entry_in list k h, refl)) }

module _ {t : Study} {steps : List ℕ} (rowed : Rowed t (length t.tasks) steps) where
  -- an entry that is not 0 is at a value on the walk
  pub step_has_value : (v q : ℕ) → v < length t.tasks → q < 16 → get_or steps (16 * v + q) 0 ≢ 0 → ValueOnWalk t v q
  step_has_value v q there narrow some = let (list, (walk, row)) = rowed v there in from walk (row_entry row q narrow)
    where
      from : {list : List ℕ} → Walk t v list → Entry t v list q (get_or steps (16 * v + q) 0) → ValueOnWalk t v q
      from walk (leaves k h e n) = rw (sym (reached_left walk k h) ∙ e) at (reached_on_walk walk k (omega arith))
      from {list} walk (ends e n) =
          rw (reached_last walk (length list) refl ∙ sym e) at (reached_on_walk walk (length list) (omega arith))
      from walk (off n) = absurd (some n)

  -- an entry i + 2 is at the value that action i of the walk leaves
  pub step_leaves :
      (v q i : ℕ) → v < length t.tasks → q < 16 → get_or steps (16 * v + q) 0 ≡ i + 2
      → OnAWalk t i × ((var_of t i ≡ v) × (pre_of t i ≡ q))
  step_leaves v q i there narrow is = let (list, (walk, row)) = rowed v there in from walk (row_entry row q narrow)
    where
      from :
          {list : List ℕ} → Walk t v list → Entry t v list q (get_or steps (16 * v + q) 0)
          → OnAWalk t i × ((var_of t i ≡ v) × (pre_of t i ≡ q))
      from {list} walk (leaves k h e n) =
          let same : get_or list k 0 ≡ i = omega arith in
          rw (← same) (on_walk_lem walk there k h, (walk_var walk k h, e))
      from walk (ends e n) = absurd (omega arith)
      from walk (off n) = absurd (omega arith)

  module _ (lawful : Lawful t) where
    -- the entry at the value that a walk has reached: the next action, or the end
    pub step_ahead :
        {v : ℕ} {list : List ℕ} → v < length t.tasks → Walk t v list
        → (k : ℕ) → k < length list → get_or steps (16 * v + reached t v list k) 0 ≡ get_or list k 0 + 2
    step_ahead {v} {list} there walk k h =
        let (_, (same, row)) = rowed v there in
        let here : RowTo t v list (goal_of t v) steps = rw (walk_unique lawful same walk) at row in
        rw (← reached_left walk k h) (here.leaves k h)

    pub step_at_end :
        {v : ℕ} {list : List ℕ} → v < length t.tasks → Walk t v list
        → (k : ℕ) → k ≡ length list → get_or steps (16 * v + reached t v list k) 0 ≡ 1
    step_at_end {v} {list} there walk k e = rw (reached_last walk k e) (rowed v there).1.1.ends

    -- the entry at a value on a walk is not 0
    pub value_has_step : (v q : ℕ) → v < length t.tasks → ValueOnWalk t v q → get_or steps (16 * v + q) 0 ≢ 0
    value_has_step v q there on none = let (k, (h, e)) = value_reached on in from k h e (dec_lt k (length on.list))
      where
        from : (k : ℕ) → k ≤ length on.list → reached t v on.list k ≡ q → Dec (k < length on.list) → ⊥
        from k h e (yes b) = omega (arith, none, rw e at (step_ahead there on.walk k b))
        from k h e (no b) = omega (arith, none, rw e at (step_at_end there on.walk k (omega arith)))

    -- .. and at the value that an action of a walk leaves it names the action
    pub on_walk_step : {i : ℕ} → OnAWalk t i → get_or steps (16 * var_of t i + pre_of t i) 0 ≡ i + 2
    on_walk_step {i} on =
        let (k, (h, e)) = in_has_place i on.list on.on in
        rw (← reached_left on.walk k h, e) at (step_ahead on.there on.walk k h)
