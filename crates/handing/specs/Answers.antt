-- What each stage's result answers, in document 01's numbers: nothing where planning goes on, or the refusal.
-- Assumes nothing.
use Rattle.std.specs.Prelude.{ℕ, Result, Ok, Err}
use Rattle.answer.specs.Answers.{done}
use Rattle.answer.specs.declared.Answer.{Answer}
use Rattle.tracing.specs.declared.NoWalk.{NoWalk}
use Rattle.tracing.specs.Steps.{value_of}
use Rattle.wanting.specs.declared.Off.{Off}
use Rattle.planning.specs.Refusals.{without_walk, off_walk}

abbrev pub not_walked : Result ℕ NoWalk → Answer
not_walked (Ok total) = done 0 0
not_walked (Err w) = without_walk w.var (value_of w.breaks)

abbrev pub not_met : Result (Unit {0}) Off → Answer
not_met (Ok tt) = done 0 0
not_met (Err o) = off_walk o.action o.var
