-- `marrowkite::marrowkite_record_at` meets its contract: each case of what is found gives its numbers.
-- Assumes nothing.
use mathlib.Core.Path.{◌≡◌, sym, ap, ◌∙◌}
use Prim.Native.Nat.{ℕ, ◌-◌}
use native.Mathlib.Nat.{sub_self}
use native.Mathlib.Omega.{arith}
use Rattle.records.proofs.Laws.{there_lies}
use Rattle.marrowkite.specs.declared.Record.{Record}
use Rattle.marrowkite.specs.Told.{told}
use Rattle.marrowkite.proofs.marrowkite_record_at.Goals as goal

-- a refusal's empty body
no_length : (number place : ℕ) → ◌≡◌ {A = Record} (record { number = number; kind = 0; start = place; len = 0; next = place }) (record { number = number; kind = 0; start = place; len = place - place; next = place })
no_length number place = rw (sub_self place)

pub overflow_sub-result : goal.overflow_sub-result
overflow_sub-result c = let l = there_lies _ _ (sym c.record_at-found.ensures ∙ c.in-There.is) in omega (arith, l.starts, l.goes_on)

pub returns-in-There : goal.returns-in-There
returns-in-There c = ap told (sym c.in-There.is ∙ c.record_at-found.ensures)

pub returns-in-Unknown : goal.returns-in-Unknown
returns-in-Unknown c =
    c.refused.ensures ∙ (no_length _ _ ∙ ap told (sym c.in-Unknown.is ∙ c.record_at-found.ensures))

pub returns-in-Cut : goal.returns-in-Cut
returns-in-Cut c =
    c.refused-in-Cut.ensures ∙ (no_length _ _ ∙ ap told (sym c.in-Cut.is ∙ c.record_at-found.ensures))

pub returns-in-Ended : goal.returns-in-Ended
returns-in-Ended c =
    c.refused-in-Ended.ensures ∙ (no_length _ _ ∙ ap told (sym c.in-Ended.is ∙ c.record_at-found.ensures))
