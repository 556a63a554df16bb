-- How what was loaded answers to the definition of running a list.
-- Assumes nothing.
use Rattle.std.specs.Prelude.{ℕ, ◌≡◌, List, [], Option, None, Some, Result, Ok, Err, length}
use Rattle.answer.specs.declared.Answer.{Answer}
use Rattle.study.specs.Study.{Study}
use Rattle.plans.specs.Plans.{start_state}
use Rattle.runs.specs.Run.{Failing, none, fails, ends_in, stops, run_on}
use Rattle.barring.specs.Telling.{shown}

-- the definition's answer as the code gives it
abbrev pub fails_of : Failing → Option ℕ
fails_of none = None
fails_of (fails v) = Some v

-- what a run from the start comes to: the end state, which the table shows, or the refusal
abbrev pub Ends : Study → List ℕ → List ℕ → Result (Unit {0}) Answer → Type 0
Ends t plan table (Ok done) = (run_on t [] (start_state t) 0 plan ≡ ends_in (shown t table)) × (length table ≡ 32)
Ends t plan table (Err a) = run_on t [] (start_state t) 0 plan ≡ stops a
