-- The conditions of one action, passed one after another for the one on a variable: there is one at most.
-- Assumes nothing.
use mathlib.Core.Path.{◌≡◌, refl, ◌∙◌}
use mathlib.Core.Logic.{◌≢◌}
use mathlib.Core.List.{List}
use Prim.Native.Nat.{ℕ, ◌+◌, ◌*◌, ◌≤◌, ◌<◌}
use native.Mathlib.Omega.{arith}
use native.Mathlib.Decide.{dec_lt}
use lib.ListN.{length, get_or}
use borrow.Author.Count.{below_more}
use Rattle.study.specs.Study.{Condition, Study, condition_at}
use Rattle.walks.specs.Walks.{Wants, conditions_of}
use Rattle.walks.proofs.Wanted.{wanted-each}
use Rattle.wanting.specs.Wanting.{StandAt}
use Rattle.wanting.proofs.Conditions.{Here, stands_here, conditions_rise}

-- condition k is v = q
record Place (cs : List Condition) (v q k : ℕ) : Type 0 where
  pub there : k < length cs
  pub var : (condition_at cs k).var ≡ v
  pub value : (condition_at cs k).value ≡ q

-- what is wanted stands at some place
wanted_place : (cs : List Condition) (v q : ℕ) → Wants cs v q → (k : ℕ) × Place cs v q k
wanted_place cs = wanted-each (λ v q. (k : ℕ) × Place cs v q k) cs (λ k h. (k, record { there = h; var = refl; value = refl }))

-- where the pass stands: none of the first k conditions is on u
pub record Seeking (file : List ℕ) (place many u at k : ℕ) : Type 0 where
  pub some : (t : Study) × (i : ℕ) × StandAt file place many t i
  pub few : k ≤ many
  pub is_at : at ≡ place + 3 * k
  pub none_so_far : (m : ℕ) → m < k → get_or file (place + 3 * m + 1) 0 ≢ u

pub begins :
    {file : List ℕ} {place many u : ℕ} → (t : Study) × (i : ℕ) × StandAt file place many t i → Seeking file place many u place 0
begins some = record { some = some; few = omega arith; is_at = omega arith; none_so_far = λ m h. absurd (omega arith) }

module _ {file : List ℕ} {place many u at k : ℕ} (seeking : Seeking file place many u at k) where
  module _ (h : k < many) where
    -- the condition has its three bytes
    pub room : at + 3 ≤ length file
    room = let (t, i, stand) = seeking.some in (stands_here stand at k seeking.is_at h).room

    pub goes_on : get_or file (at + 1) 0 ≢ u → Seeking file place many u (at + 3) (k + 1)
    goes_on other = record {
      some = seeking.some;
      few = omega arith;
      is_at = omega (arith, seeking.is_at);
      none_so_far = below_more (λ m. get_or file (place + 3 * m + 1) 0 ≢ u) k seeking.none_so_far (rw seeking.is_at at other);
    }

    pub finds :
        get_or file (at + 1) 0 ≡ u → (t : Study) (i : ℕ) → StandAt file place many t i
        → (q : ℕ) → Wants (conditions_of t i) u q → get_or file (at + 2) 0 ≡ q
    finds own t i stand q wants = from (dec_lt m k) (dec_lt k m)
      where
        m : ℕ
        m = (wanted_place (conditions_of t i) u q wants).0

        is : Place (conditions_of t i) u q m
        is = (wanted_place (conditions_of t i) u q wants).1

        here : Here file at (condition_at (conditions_of t i) k)
        here = stands_here stand at k seeking.is_at h

        from : Dec (m < k) → Dec (k < m) → get_or file (at + 2) 0 ≡ q
        from (yes l) _ = absurd (omega (arith, conditions_rise stand m k l h, here.var, is.var))
        from (no _) (yes l) =
            absurd (omega (arith, conditions_rise stand k m l (omega (arith, stand.holds.count, is.there)), here.var, is.var))
        from (no a) (no b) = let e : k ≡ m = omega arith in here.value ∙ rw e is.value

  -- all were passed, and the one that is wanted would have been found
  pub misses :
      many ≤ k → (t : Study) (i : ℕ) → StandAt file place many t i → (q : ℕ) → Wants (conditions_of t i) u q → ⊥
  misses all t i stand q wants =
      let (m, is) = wanted_place (conditions_of t i) u q wants in
      let b : m < many = omega (arith, stand.holds.count, is.there) in
      seeking.none_so_far m (omega arith) (stand.holds.var m b ∙ is.var)
