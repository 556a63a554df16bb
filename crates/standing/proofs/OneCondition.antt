-- One condition more: where it stands in the file, and what may come after it.
-- Assumes nothing.
use mathlib.Core.Path.{◌≡◌, refl, sym}
use mathlib.Core.List.{List, [], ◌∷◌, ◌++◌}
use Prim.Native.Nat.{ℕ, ◌+◌, ◌*◌, ◌≤◌, ◌<◌}
use native.Mathlib.Omega.{arith}
use lib.Dec.{ltb}
use lib.ListN.{length, get_or, get_or-append}
use lib.Seq.{get_or_at}
use Rattle.study.specs.Study.{Condition, condition_at, no_condition}
use Rattle.study.specs.Reading.{above}
use Rattle.plain.proofs.Lists.{length_more}
use Rattle.tables.specs.Tables.{HoldsConditions}
use Rattle.standing.proofs.Grows.{each_next}

pub conditions_more :
    {file : List ℕ} {place many : ℕ} {cs : List Condition} (c : Condition)
    → HoldsConditions file place many cs
    → place + 3 * many + 3 ≤ length file
    → get_or file (place + 3 * many + 1) 0 ≡ c.var
    → get_or file (place + 3 * many + 2) 0 ≡ c.value
    → HoldsConditions file place (many + 1) (cs ++ (c ∷ []))
conditions_more {file} {place} {many} {cs} c old room is_var is-value = record {
  count = omega (arith, length_more cs c);
  room = omega arith;
  var = by (λ x. x.var) 1 old.var is_var;
  value = by (λ x. x.value) 2 old.value is-value;
}
  where
    by : (f : Condition → ℕ) (j : ℕ)
        → ((k : ℕ) → k < many → get_or file (place + 3 * k + j) 0 ≡ f (condition_at cs k))
        → get_or file (place + 3 * many + j) 0 ≡ f c
        → (k : ℕ) → k < many + 1 → get_or file (place + 3 * k + j) 0 ≡ f (condition_at (cs ++ (c ∷ [])) k)
    by f j each is =
        each_next (λ k. get_or file (place + 3 * k + j) 0 ≡ f (condition_at (cs ++ (c ∷ [])) k)) many
        (λ k h. rw (get_or-append cs (c ∷ []) no_condition k (omega arith)) (each k h))
        (rw (get_or_at cs c [] no_condition many (sym old.count)) is)

-- after a condition, a variable is above where it is above that of the condition
pub above_more : (cs : List Condition) (c : Condition) (x : ℕ) → above (cs ++ (c ∷ [])) x ≡ ltb c.var x
unfolding above
above_more [] c x = refl
above_more (a ∷ []) c x = refl
above_more (a ∷ (b ∷ rest)) c x = above_more (b ∷ rest) c x
