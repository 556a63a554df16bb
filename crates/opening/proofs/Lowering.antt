-- Lowering the entries of one condition after another: what is still to be done gives what is asked, which entries fall, and that each was counted.
-- Assumes nothing.
use mathlib.Core.Path.{◌≡◌, refl, subst, ◌∙◌}
use mathlib.Core.List.{List, [], ◌∷◌}
use Prim.Native.Nat.{ℕ, zero, suc, ◌+◌, ◌-◌, ◌*◌, ◌≤◌, ◌<◌}
use native.Mathlib.Omega.{arith}
use native.Mathlib.Decide.{ℕ_discrete}
use lib.ListN.{length, get_or, set, length-set}
use lib.Seq.{get_or-set_other}
use Rattle.opening.specs.Conditions.{entry_at, lowered, lowered_all, Lowerable}

-- ---- what lowering does to the entries

-- an entry that is lowered, or stays, does not grow
set_at_most : (l : List ℕ) (i x j : ℕ) → x ≤ get_or l i 0 → get_or (set l i x) j 0 ≤ get_or l j 0
set_at_most [] i x j h = omega arith
set_at_most (y ∷ l) zero x zero h = h
set_at_most (y ∷ l) zero x (suc j) h = omega arith
set_at_most (y ∷ l) (suc i) x zero h = omega arith
set_at_most (y ∷ l) (suc i) x (suc j) h = set_at_most l i x j h

first_place : (at : ℕ) → at + 3 * 0 ≡ at
first_place at = omega arith

later_place : (at k : ℕ) → at + 3 * suc k ≡ at + 3 + 3 * k
later_place at k = omega arith

module _ (file : List ℕ) where
  pub lowered_at_most : (at : ℕ) (table : List ℕ) (j : ℕ) → get_or (lowered file at table) j 0 ≤ get_or table j 0
  lowered_at_most at table j = set_at_most table (entry_at file at) _ j (omega arith)

  pub all_lowered_at_most : (at m : ℕ) (table : List ℕ) (j : ℕ) → get_or (lowered_all file at m table) j 0 ≤ get_or table j 0
  unfolding lowered_all
  all_lowered_at_most at zero table j = omega arith
  all_lowered_at_most at (suc m) table j =
      omega (arith, all_lowered_at_most (at + 3) m (lowered file at table) j, lowered_at_most at table j)

  -- an entry that falls is a condition's
  pub lowered_entry :
      (at m : ℕ) (table : List ℕ) (j : ℕ) → get_or (lowered_all file at m table) j 0 < get_or table j 0
      → (k : ℕ) × ((k < m) × (entry_at file (at + 3 * k) ≡ j))
  unfolding lowered_all
  lowered_entry at zero table j h = absurd (omega arith)
  lowered_entry at (suc m) table j h = go (ℕ_discrete j (entry_at file at)) (λ l. lowered_entry (at + 3) m (lowered file at table) j l)
    where
      go :
          Dec (j ≡ entry_at file at)
          → (get_or (lowered_all file (at + 3) m (lowered file at table)) j 0 < get_or (lowered file at table) j 0 → (k : ℕ) × ((k < m) × (entry_at file (at + 3 + 3 * k) ≡ j)))
          → (k : ℕ) × ((k < suc m) × (entry_at file (at + 3 * k) ≡ j))
      go (yes e) rest = (0, (omega arith, rw (first_place at, e)))
      go (no o) rest =
          let same = get_or-set_other table (entry_at file at) j (get_or table (entry_at file at) 0 - 1) 0 o in
          let r = rest (omega (arith, same)) in
          (suc r.0, (omega (arith, r.1.0), rw (later_place at r.0) r.1.1))

  -- the entry of each condition is counted
  pub lowered_counted : (at m : ℕ) (table : List ℕ) → Lowerable file at m table → (k : ℕ) → k < m → 1 ≤ get_or table (entry_at file (at + 3 * k)) 0
  lowered_counted at zero table low k h = absurd (omega arith)
  lowered_counted at (suc m) table low zero h = rw (first_place at) low.2
  lowered_counted at (suc m) table low (suc k) h =
      rw (later_place at k)
      (omega (
        arith,
        lowered_counted (at + 3) m (lowered file at table) low.3 k (omega arith),
        lowered_at_most at table (entry_at file (at + 3 + 3 * k)),
      ))

-- ---- one condition after another

-- k of the conditions are done
pub record Lowering (file : List ℕ) (place many : ℕ) (wants₀ wants : List ℕ) (k : ℕ) : Type 0 where
  pub within : k ≤ many
  pub able : Lowerable file (place + 3 * k) (many - k) wants
  pub wants_same : lowered_all file (place + 3 * k) (many - k) wants ≡ lowered_all file place many wants₀
  pub long : length wants ≡ 512

less_one : (k many : ℕ) → k < many → many - k ≡ suc (many - (k + 1))
less_one k many h = omega arith

none_left : (k many : ℕ) → k ≤ many → many ≤ k → many - k ≡ 0
none_left k many h l = omega arith

next_place : (place k : ℕ) → place + 3 * (k + 1) ≡ place + 3 * k + 3
next_place place k = omega arith

module _
    {file : List ℕ} {place many : ℕ} {wants₀ wants : List ℕ} {k : ℕ}
    (low : Lowering file place many wants₀ wants k) where
  -- the next condition stands at `at`
  pub lowering_first : k < many → (at : ℕ) → at ≡ place + 3 * k → Lowerable file at (suc (many - (k + 1))) wants
  lowering_first h at e = rw e (subst (λ (m : ℕ). Lowerable file (place + 3 * k) m wants) (less_one k many h) low.able)

  pub lowering_goes_on : k < many → (at : ℕ) → at ≡ place + 3 * k → Lowering file place many wants₀ (lowered file at wants) (k + 1)
  unfolding lowered_all
  lowering_goes_on h at e = rw e (record {
    within = omega arith;
    able = rw (next_place place k) (lowering_first h (place + 3 * k) refl).3;
    wants_same = rw (next_place place k)
        (subst (λ (m : ℕ). lowered_all file (place + 3 * k) m wants ≡ lowered_all file place many wants₀) (less_one k many h) low.wants_same);
    long = length-set wants _ _ ∙ low.long;
  })

  pub lowering_ends : many ≤ k → wants ≡ lowered_all file place many wants₀
  unfolding lowered_all
  lowering_ends h =
      subst (λ (m : ℕ). lowered_all file (place + 3 * k) m wants ≡ lowered_all file place many wants₀) (none_left k many low.within h) low.wants_same
