-- What holds at each turn of `sampling::keep_few`.
-- Assumes nothing.
use mathlib.Core.Path.{◌≡◌}
use lib.ListN.{length}
use Rattle.study.specs.Study.{Study}
use Rattle.sampling.specs.Once.{OrderedOnce}
use Rattle.keeping.specs.Seeds.{FirstTaken, KeptAll}
use Rattle.sampling.proofs.keep_few.Given as goal

abbrev pub invariant-loop-k : goal.invariant-loop-k
invariant-loop-k l =
    (length l.room ≡ 512) × (length l.kept ≡ length l.initial.kept)
    × ((t : Study) → OrderedOnce l.e l.members l.words t → FirstTaken t l.e l.initial.room → KeptAll t l.e.first l.k l.e.total 0 64 l.kept)
