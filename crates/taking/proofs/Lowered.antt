-- The entries of an action's conditions, lowered one after another: it can be done if each is at least 1, and the table then counts one less for each value that they want.
-- Assumes nothing.
use mathlib.Core.Path.{◌≡◌, refl, ap, ◌∙◌}
use mathlib.Core.Logic.{inl, inr}
use mathlib.Core.Bool.{Bool, true, false, ◌&&◌, ◌||◌, and-false}
use mathlib.Core.List.{List, [], ◌∷◌}
use Prim.Native.Nat.{ℕ, zero, suc, ◌+◌, ◌-◌, ◌*◌, ◌≤◌, ◌<◌}
use native.Mathlib.Omega.{arith}
use native.Mathlib.Decide.{ℕ_discrete}
use lib.Dec.{eqb}
use lib.ListN.{length, get_or, length-set}
use lib.Seq.{get_or-set_same, get_or-set_other}
use borrow.Author.Tests.{eq-eqb, ne_eqb}
use Rattle.ranks.specs.Ranks.{one}
use Rattle.study.specs.Study.{Condition, Study, condition_at}
use Rattle.walks.specs.Walks.{Wants, conditions_of}
use Rattle.walks.proofs.Wanted.{wanted-each}
use Rattle.wanting.specs.Wanting.{wants, StandAt}
use Rattle.opening.specs.Conditions.{entry_at, lowered, lowered_all, Lowerable}
use Rattle.wanting.proofs.Counting.{wants-told}
use Rattle.wanting.proofs.Conditions.{Here, stands_here, conditions_rise}

-- conditions stand one after another from a place on, each on a variable above the one before
abbrev Listed : List ℕ → ℕ → List Condition → Type 0
Listed file at [] = Unit {0}
Listed file at (c ∷ rest) = Here file at c × (((u q : ℕ) → Wants rest u q → c.var < u) × Listed file (at + 3) rest)

listed :
    (file : List ℕ) (at : ℕ) (cs : List Condition) → ((k : ℕ) → k < length cs → Here file (at + 3 * k) (condition_at cs k))
    → ((j k : ℕ) → j < k → k < length cs → (condition_at cs j).var < (condition_at cs k).var) → Listed file at cs
listed file at [] here rise = tt
listed file at (c ∷ rest) here rise = (
  rw first at (here 0 (omega arith)),
  (
    wanted-each (λ u q. c.var < u) rest (λ k h. rise 0 (suc k) (omega arith) (omega arith)),
    listed file (at + 3) rest (λ k h. rw (next k) (here (suc k) (omega arith))) (λ j k l h. rise (suc j) (suc k) (omega arith) (omega arith)),
  ),
)
  where
    first : at + 3 * 0 ≡ at
    first = omega arith

    next : (k : ℕ) → at + 3 + 3 * k ≡ at + 3 * suc k
    next k = omega arith

not_wanted : (cs : List Condition) (u q : ℕ) → (Wants cs u q → ⊥) → wants cs u q ≡ false
not_wanted cs u q none = go (wants cs u q) refl
  where
    go : (b : Bool) → wants cs u q ≡ b → b ≡ false
    go true e = absurd (none (wants-told cs u q e))
    go false e = refl

entry_is : {file : List ℕ} {at : ℕ} {c : Condition} → Here file at c → entry_at file at ≡ 16 * c.var + c.value
entry_is here = omega (arith, here.var, here.value)

module _ (file : List ℕ) where
  -- the other entries stay
  entry_stays :
      {at : ℕ} {c : Condition} → Here file at c → (table : List ℕ) (u q : ℕ) → q < 16 → (c.var ≡ u → c.value ≡ q → ⊥)
      → get_or (lowered file at table) (16 * u + q) 0 ≡ get_or table (16 * u + q) 0
  entry_stays {at} here table u q narrow other =
      get_or-set_other table (entry_at file at) (16 * u + q) _ 0
      (λ e. other (omega (arith, entry_is here, here.narrow)) (omega (arith, entry_is here, here.narrow)))

  -- .. and so those on variables above
  above_stays :
      {at : ℕ} {c : Condition} → Here file at c → (table : List ℕ) (u q : ℕ) → c.var < u
      → get_or (lowered file at table) (16 * u + q) 0 ≡ get_or table (16 * u + q) 0
  above_stays {at} here table u q above =
      get_or-set_other table (entry_at file at) (16 * u + q) _ 0 (λ e. omega (arith, entry_is here, here.narrow))

  own_falls : {at : ℕ} {c : Condition} → Here file at c → (table : List ℕ) → length table ≡ 512
      → get_or (lowered file at table) (16 * c.var + c.value) 0 ≡ get_or table (16 * c.var + c.value) 0 - 1
  own_falls {at} {c} here table size =
      rw (← entry_is here) (get_or-set_same table (entry_at file at) _ 0 (omega (arith, entry_is here, here.low, here.narrow)))

  some_still :
      {at : ℕ} {c : Condition} (rest : List Condition) → Here file at c → ((u q : ℕ) → Wants rest u q → c.var < u)
      → (table : List ℕ) → ((u q : ℕ) → Wants (c ∷ rest) u q → 1 ≤ get_or table (16 * u + q) 0)
      → (u q : ℕ) → Wants rest u q → 1 ≤ get_or (lowered file at table) (16 * u + q) 0
  some_still rest here rise table some u q h = omega (arith, above_stays here table u q (rise u q h), some u q (inr h))

  lower_able :
      (cs : List Condition) (at : ℕ) (table : List ℕ) → Listed file at cs → length table ≡ 512
      → ((u q : ℕ) → Wants cs u q → 1 ≤ get_or table (16 * u + q) 0) → Lowerable file at (length cs) table
  lower_able [] at table l size some = tt
  lower_able (c ∷ rest) at table (here, (rise, l)) size some = (
    here.room,
    omega (arith, entry_is here, here.low, here.narrow),
    rw (entry_is here) (some c.var c.value (inl (refl, refl))),
    lower_able rest (at + 3) (lowered file at table) l (length-set table _ _ ∙ size) (some_still rest here rise table some),
  )

  lower_counts :
      (cs : List Condition) (at : ℕ) (table : List ℕ) → Listed file at cs → length table ≡ 512
      → ((u q : ℕ) → Wants cs u q → 1 ≤ get_or table (16 * u + q) 0)
      → (u q : ℕ) → q < 16 → get_or (lowered_all file at (length cs) table) (16 * u + q) 0 + one (wants cs u q) ≡ get_or table (16 * u + q) 0
  unfolding lowered_all wants
  lower_counts [] at table l size some u q narrow = omega arith
  lower_counts (c ∷ rest) at table (here, (rise, l)) size some u q narrow =
      from (lower_counts rest (at + 3) (lowered file at table) l (length-set table _ _ ∙ size) (some_still rest here rise table some) u q narrow)
      (ℕ_discrete c.var u) (ℕ_discrete c.value q)
    where
      Before : Type 0
      Before =
          get_or (lowered_all file (at + 3) (length rest) (lowered file at table)) (16 * u + q) 0 + one (wants rest u q)
          ≡ get_or (lowered file at table) (16 * u + q) 0

      After : Type 0
      After =
          get_or (lowered_all file (at + 3) (length rest) (lowered file at table)) (16 * u + q) 0
          + one ((eqb c.var u && eqb c.value q) || wants rest u q)
          ≡ get_or table (16 * u + q) 0

      from : Before → Dec (c.var ≡ u) → Dec (c.value ≡ q) → After
      from b (yes e) (yes f) =
          simp (eq-eqb c.var u e, eq-eqb c.value q f)
          (omega (
            arith,
            b,
            ap one (not_wanted rest u q (λ h. omega (arith, e, rise u q h))),
            rw (e, f) at (own_falls here table size),
            some u q (inl (e, f)),
          ))
      from b (yes e) (no d) = simp (ne_eqb c.value q d, and-false) (b ∙ entry_stays here table u q narrow (λ _. d))
      from b (no d) _ = simp (ne_eqb c.var u d) (b ∙ entry_stays here table u q narrow (λ g _. d g))

  pub lowered_length : (at m : ℕ) (table : List ℕ) → length (lowered_all file at m table) ≡ length table
  unfolding lowered_all
  lowered_length at zero table = refl
  lowered_length at (suc m) table = lowered_length (at + 3) m (lowered file at table) ∙ length-set table _ _

-- ---- for an action of the study

module _ {file : List ℕ} {place many i : ℕ} {t : Study} (stand : StandAt file place many t i) (table : List ℕ) (size : length table ≡ 512)
    (some : (u q : ℕ) → Wants (conditions_of t i) u q → 1 ≤ get_or table (16 * u + q) 0) where
  stand_listed : Listed file place (conditions_of t i)
  stand_listed =
      listed file place (conditions_of t i) (λ k h. stands_here stand (place + 3 * k) k refl (omega (arith, stand.holds.count)))
      (λ j k l h. conditions_rise stand j k l (omega (arith, stand.holds.count)))

  pub action_lowerable : Lowerable file place many table
  action_lowerable = rw stand.holds.count (lower_able file (conditions_of t i) place table stand_listed size some)

  pub action_lowers :
      (u q : ℕ) → q < 16
      → get_or (lowered_all file place many table) (16 * u + q) 0 + one (wants (conditions_of t i) u q) ≡ get_or table (16 * u + q) 0
  action_lowers = rw stand.holds.count (lower_counts file (conditions_of t i) place table stand_listed size some)
