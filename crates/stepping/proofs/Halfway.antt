-- A run that stands at step k: what is left of the list, from here, gives what all of it gives from the start.
-- Assumes nothing.
use mathlib.Core.Path.{◌≡◌, refl, ◌∙◌}
use mathlib.Core.List.{List, [], ◌∷◌}
use Prim.Native.Nat.{ℕ, ◌+◌, ◌≤◌, ◌<◌}
use native.Mathlib.Numerals.{add-one}
use lib.ListN.{length, get_or, drop, drop_of_length-le}
use lib.Seq.{drop-cons}
use Rattle.std.specs.Prelude.{Ok, Err}
use Rattle.answer.specs.declared.Answer.{Answer}
use Rattle.study.specs.Study.{Study}
use Rattle.plans.specs.Plans.{State}
use Rattle.runs.specs.Run.{stops, run_on}
use Rattle.barring.specs.Telling.{shown}
use Rattle.stepping.specs.Stepping.{Stage, Takes, Went}

pub record Halfway (t : Study) (plan first : List ℕ) (k : ℕ) (table marks : List ℕ) : Type 0 where
  pub past : List State
  pub runs : run_on t [] (shown t first) 0 plan ≡ run_on t past (shown t table) k (drop k plan)
  pub stage : Stage t past table marks

pub begins : {t : Study} (plan : List ℕ) {table marks : List ℕ} → Stage t [] table marks → Halfway t plan table 0 table marks
begins plan stage = record { past = []; runs = refl; stage = stage }

module _ {t : Study} {plan first : List ℕ} {k : ℕ} {table marks : List ℕ} (h : Halfway t plan first k table marks) where
  module _ (more : k < length plan) where
    -- the next step is the first of what is left
    runs_next : run_on t [] (shown t first) 0 plan ≡ run_on t h.past (shown t table) k (get_or plan k 0 ∷ drop (k + 1) plan)
    runs_next = h.runs ∙ (rw (add-one k, drop-cons plan k 0 more))

    pub goes_on : {table' marks' : List ℕ} → Takes t h.past k (get_or plan k 0) table table' marks' (Ok tt) → Halfway t plan first (k + 1) table' marks'
    goes_on taken = record { past = shown t table ∷ h.past; runs = runs_next ∙ taken.0 (drop (k + 1) plan); stage = taken.1 }

    pub refuses : {a : Answer} → Takes t h.past k (get_or plan k 0) table table marks (Err a) → run_on t [] (shown t first) 0 plan ≡ stops a
    refuses taken = runs_next ∙ taken (drop (k + 1) plan)

  pub ends : length plan ≤ k → Went t plan first table (Ok tt)
  unfolding run_on
  ends all = (h.runs ∙ (rw (drop_of_length-le plan {i = k} all)), h.stage.long)
