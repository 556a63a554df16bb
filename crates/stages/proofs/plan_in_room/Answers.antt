-- `stages::plan_in_room` meets its contract: a variable with no walk is refusal 10, else planning goes on with the walks.
-- Assumes nothing.
use mathlib.Core.Path.{refl}
use Rattle.planning.specs.Planning.{no_walk}
use Rattle.stages.proofs.Stages.{known_walkable, known_walked, given_known, given_ranked, given_walking}
use Rattle.stages.proofs.plan_in_room.Goals as goal

pub walk_all-requires : goal.walk_all-requires
walk_all-requires c =
    let (t, given) = c.requires.1 in
    (refl, known_walkable (given_known given))

pub plan_walked-requires : goal.plan_walked-requires
plan_walked-requires c =
    let (t, given) = c.requires.1 in
    (c.requires.0, (t, given_walking given (known_walked (given_known given) (c.walk_all.ensures.walks_all t)) c.in-Ok.is))

pub returns-in-Ok-clause-in_room : goal.returns-in-Ok-clause-in_room
returns-in-Ok-clause-in_room c = λ t given.
    let walked = known_walked (given_known given) (c.walk_all.ensures.walks_all t) in
    c.plan_walked.ensures.in_room t (given_walking given walked c.in-Ok.is)

pub returns-in-Err-clause-in_room : goal.returns-in-Err-clause-in_room
returns-in-Err-clause-in_room c = λ t given.
    rw c.unwalked.ensures
    (no_walk (given_ranked given) (rw c.in-Err.is at (known_walked (given_known given) (c.walk_all.ensures.walks_all t))))
