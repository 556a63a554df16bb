-- What holds at each turn of `taking::take_all`.
-- Assumes nothing.
use Rattle.tables.specs.Rows.{var_column, post_column, place_column, many_column}
use Rattle.choosing.specs.OpenRight.{OpenRight}
use Rattle.taking.proofs.TakingRounds.{Underway}
use Rattle.taking.proofs.take_all.Given as goal

abbrev pub invariant-loop-k : goal.invariant-loop-k
invariant-loop-k l =
    Underway l.file l.ranks l.n l.total (var_column l.acts) (post_column l.acts) (place_column l.acts) (many_column l.acts) l.steps l.initial.wants l.initial.state l.wants l.state l.room l.held l.k
    × OpenRight l.ranks l.file (place_column l.acts) (many_column l.acts) l.steps l.wants l.state l.opened l.waiting l.n
