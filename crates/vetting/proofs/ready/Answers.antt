-- `vetting::ready` meets its contract: a variable with no walk is refusal 10, else the actions are ordered.
-- Assumes nothing.
use mathlib.Core.Path.{refl}
use Rattle.stages.proofs.Stages.{known_walkable, known_walked, given_walking}
use Rattle.charts.specs.Answers.{no_walk}
use Rattle.vetting.proofs.Few.{given_rising}
use Rattle.vetting.proofs.ready.Goals as goal

pub walk_all-walked-requires : goal.walk_all-walked-requires
walk_all-walked-requires c =
    let (t, x, known) = c.requires.4 in
    (refl, known_walkable known)

pub returns-in-Err : goal.returns-in-Err
returns-in-Err c =
    let e = c.in-Err.is in
    record {
      setters_len = c.requires.3;
      readies = λ t x known chart.
          rw c.unwalked.ensures (no_walk (rw e at (known_walked known (c.walk_all-walked.ensures.walks_all t))));
    }

pub order_words-requires : goal.order_words-requires
order_words-requires c =
    let (t, x, known) = c.requires.4 in
    let walking = given_walking (given_rising known) (known_walked known (c.walk_all-walked.ensures.walks_all t)) c.in-Ok.is in
    (c.requires.0, c.requires.1, c.requires.2, c.requires.3, (t, c.args.n, walking))

pub returns : goal.returns
returns c =
    record {
      setters_len = c.order_words.ensures.setters_len;
      readies = λ t x known.
          let walking = given_walking (given_rising known) (known_walked known (c.walk_all-walked.ensures.walks_all t)) c.in-Ok.is in
          c.order_words.ensures.readies t c.args.n walking;
    }
