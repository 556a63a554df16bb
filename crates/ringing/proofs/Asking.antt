-- Whether conditions want a value, asked of one after another.
-- Assumes nothing.
use mathlib.Core.Path.{◌≡◌, refl, sym, ◌∙◌}
use mathlib.Core.Bool.{Bool, true, false}
use mathlib.Core.List.{List}
use Prim.Native.Nat.{ℕ, ◌+◌, ◌*◌, ◌≤◌, ◌<◌}
use native.Mathlib.Omega.{arith}
use lib.ListN.{length, get_or}
use borrow.Author.Count.{below_more}
use Rattle.study.specs.Study.{Condition, condition_at}
use Rattle.tables.specs.Tables.{HoldsConditions}
use Rattle.walks.specs.Walks.{Wants}
use Rattle.walks.proofs.Wanted.{wanted-each}
use Rattle.wanting.specs.Wanting.{wants}
use Rattle.wanting.proofs.Conditions.{wants_at}
use Rattle.wanting.proofs.Counting.{wants-told, wants_tells}

-- condition k does not want v = q
abbrev pub Other : List Condition → ℕ → ℕ → ℕ → Type 0
Other cs v q k = (condition_at cs k).var ≡ v → (condition_at cs k).value ≡ q → ⊥

-- where the pass stands: none of the first k wants it
pub record Asking (file : List ℕ) (place many v q at k : ℕ) : Type 0 where
  pub some : (cs : List Condition) × HoldsConditions file place many cs
  pub few : k ≤ many
  pub is_at : at ≡ place + 3 * k
  pub others : (cs : List Condition) → HoldsConditions file place many cs → (m : ℕ) → m < k → Other cs v q m

pub begins : {file : List ℕ} {place many v q : ℕ} → (cs : List Condition) × HoldsConditions file place many cs → Asking file place many v q place 0
begins some = record { some = some; few = omega arith; is_at = omega arith; others = λ cs holds m h. absurd (omega arith) }

module _ {file : List ℕ} {place many v q at k : ℕ} (asking : Asking file place many v q at k) where
  module _ (h : k < many) where
    pub room : at + 3 ≤ length file
    room = omega (arith, asking.is_at, asking.some.1.room)

    var_here : (cs : List Condition) → HoldsConditions file place many cs → get_or file (at + 1) 0 ≡ (condition_at cs k).var
    var_here cs holds = rw asking.is_at (holds.var k h)

    value_here : (cs : List Condition) → HoldsConditions file place many cs → get_or file (at + 2) 0 ≡ (condition_at cs k).value
    value_here cs holds = rw asking.is_at (holds.value k h)

    pub goes_on : (get_or file (at + 1) 0 ≡ v → get_or file (at + 2) 0 ≡ q → ⊥) → Asking file place many v q (at + 3) (k + 1)
    goes_on other = record {
      some = asking.some;
      few = omega arith;
      is_at = omega (arith, asking.is_at);
      others = λ cs holds. below_more (Other cs v q) k (asking.others cs holds) (λ e f. other (var_here cs holds ∙ e) (value_here cs holds ∙ f));
    }

    pub finds : get_or file (at + 1) 0 ≡ v → get_or file (at + 2) 0 ≡ q → (cs : List Condition) → HoldsConditions file place many cs → wants cs v q ≡ true
    finds e f cs holds =
        wants_tells cs v q
        (rw (sym (var_here cs holds) ∙ e, sym (value_here cs holds) ∙ f) at (wants_at cs k (omega (arith, holds.count))))

  pub ends : many ≤ k → (cs : List Condition) → HoldsConditions file place many cs → wants cs v q ≡ false
  ends h cs holds = from (wants cs v q) refl
    where
      none : (u p : ℕ) → Wants cs u p → u ≡ v → p ≡ q → ⊥
      none = wanted-each (λ u p. u ≡ v → p ≡ q → ⊥) cs (λ m b. asking.others cs holds m (omega (arith, asking.few, holds.count)))

      from : (b : Bool) → wants cs v q ≡ b → wants cs v q ≡ false
      from true e = absurd (none v q (wants-told cs v q e) refl refl)
      from false e = e
