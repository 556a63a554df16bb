-- What holds at each turn of `sampling::keep_many`.
-- Assumes nothing.
use mathlib.Core.Path.{◌≡◌}
use Prim.Native.Nat.{◌+◌, ◌*◌}
use lib.ListN.{length, drop}
use Rattle.study.specs.Study.{Study}
use Rattle.sampling.specs.Once.{CountedOnce}
use Rattle.keeping.specs.Seeds.{FirstTaken, KeptAll}
use Rattle.sampling.proofs.keep_many.Given as goal

abbrev pub invariant-loop-k : goal.invariant-loop-k
invariant-loop-k l =
    (length l.room ≡ 512) × (length l.report ≡ length l.initial.report)
    × (drop (5 + l.e.actions * l.e.total) l.report ≡ drop (5 + l.e.actions * l.e.total) l.initial.report)
    × ((t : Study) → CountedOnce l.file l.e l.acts l.vars l.steps l.wants t → FirstTaken t l.e l.initial.room → KeptAll t l.e.first l.k l.e.total 5 l.e.actions l.report)
