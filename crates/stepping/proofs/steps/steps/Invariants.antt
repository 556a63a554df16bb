-- What holds at each turn of `stepping::steps::steps`.
-- Assumes nothing.
use mathlib.Core.List.{[]}
use Rattle.study.specs.Study.{Study}
use Rattle.barring.specs.Telling.{Ready}
use Rattle.stepping.specs.Stepping.{Stage}
use Rattle.stepping.proofs.Halfway.{Halfway}
use Rattle.stepping.proofs.steps.steps.Given as goal

abbrev pub invariant-loop-k : goal.invariant-loop-k
invariant-loop-k l =
    (t : Study) → Ready l.file l.actions l.acts t → Stage t [] l.initial.state l.initial.held → Halfway t l.plan l.initial.state l.k l.state l.held
