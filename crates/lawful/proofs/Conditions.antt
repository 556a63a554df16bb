-- The conditions of a lawful action: their variables rise, and there are at most 31.
-- Assumes nothing.
use mathlib.Core.Path.{◌≡◌, refl}
use mathlib.Core.Logic.{◌⊎◌, inl, inr, ◌≢◌}
use mathlib.Core.List.{List}
use Prim.Native.Nat.{ℕ, zero, suc, ◌≤◌, ◌<◌}
use native.Mathlib.Omega.{arith}
use native.Mathlib.Decide.{dec_lt}
use lib.ListN.{length}
use Rattle.study.specs.Study.{Condition, Action, Study, action_at, condition_at}
use Rattle.lawful.specs.Lawful.{LawfulConditions, LawfulAction, Lawful}

-- v is not the own one, and below it lie at least k numbers that are not
abbrev Room : ℕ → ℕ → ℕ → Type 0
Room own k v = ((v < own) × (k ≤ v)) ⊎ ((own < v) × (k < v))

room_first : (own v : ℕ) → v ≢ own → Room own 0 v
room_first own v o = from (dec_lt v own)
  where
    from : Dec (v < own) → Room own 0 v
    from (yes b) = inl (omega arith)
    from (no b) = inr (omega arith)

room_next : (own k v w : ℕ) → v < w → w ≢ own → Room own k v → Room own (suc k) w
room_next own k v w l o r = from r (dec_lt w own)
  where
    from : Room own k v → Dec (w < own) → Room own (suc k) w
    from (inl r) (yes b) = inl (omega arith)
    from (inl r) (no b) = inr (omega arith)
    from (inr r) (yes b) = absurd (omega arith)
    from (inr r) (no b) = inr (omega arith)

module _ {counts : List ℕ} {own : ℕ} {cs : List Condition} (lawful : LawfulConditions counts own cs) where
  pub rising_lt : (j k : ℕ) → j < k → k < length cs → (condition_at cs j).var < (condition_at cs k).var
  rising_lt j zero h g = absurd (omega arith)
  rising_lt j (suc k) h g = from (dec_lt j k) (λ w. rising_lt j k w (omega arith))
    where
      from : Dec (j < k) → (j < k → (condition_at cs j).var < (condition_at cs k).var) → (condition_at cs j).var < (condition_at cs (suc k)).var
      from (yes w) f = omega (arith, f w, lawful.rising k g)
      from (no w) f = let e : k ≡ j = omega arith in rw (← e) (lawful.rising k g)

  room : (k : ℕ) → k < length cs → Room own k (condition_at cs k).var
  room zero h = room_first own (condition_at cs 0).var (lawful.other 0 h)
  room (suc k) h = room_next own k (condition_at cs k).var (condition_at cs (suc k)).var (lawful.rising k h) (lawful.other (suc k) h) (room k (omega arith))

  pub fewer_than_variables : own < length counts → length cs < length counts
  fewer_than_variables h = from (length cs) refl
    where
      last : (k : ℕ) → length cs ≡ suc k → Room own k (condition_at cs k).var → length cs < length counts
      last k e (inl r) = omega arith
      last k e (inr r) = omega (arith, (lawful.has k (omega arith)).there)

      from : (n : ℕ) → length cs ≡ n → length cs < length counts
      from zero e = omega arith
      from (suc k) e = last k e (room k (omega arith))

pub action_conditions_few : {counts : List ℕ} {a : Action} → length counts ≤ 32 → LawfulAction counts a → length a.conditions ≤ 31
action_conditions_few few a = omega (arith, fewer_than_variables a.conditions a.has_pre.there)

pub conditions_few : {s : Study} → Lawful s → (i : ℕ) → i < length s.actions → length (action_at s.actions i).conditions ≤ 31
conditions_few lawful i h = action_conditions_few lawful.few_variables (lawful.action i h)
