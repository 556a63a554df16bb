-- `replaying::replay_loaded` meets its contract: an event's refusal, or the record of the log's end.
-- Assumes nothing.
use mathlib.Core.Path.{refl, subst}
use Rattle.study.specs.Study.{Study}
use Rattle.barring.specs.Telling.{Prepared}
use Rattle.barring.proofs.Loaded.{prepared, starts_shown}
use Rattle.following.specs.Following.{Came}
use Rattle.replaying.proofs.Answers.{event_refused, log_ended}
use Rattle.replaying.proofs.Records.{record_put}
use Rattle.replaying.proofs.replay_loaded.Goals as goal
use Rattle.replaying.proofs.replay_loaded.Goals.{After-follow}

-- where the log led
came :
    (c : After-follow) {t : Study} → Prepared c.args.file.now c.args.loaded.vars c.args.loaded.actions c.args.acts.now c.args.vars.now t
    → Came t c.args.log.now c.follow.new.state c.follow.result
came c known =
    let out = c.set_out.ensures in
    c.follow.ensures _ known.ready out.long (starts_shown known out)

pub follow-requires : goal.follow-requires
follow-requires c = let (crew, setters, (t, said, holds)) = c.requires in (t, (prepared crew _ _ said holds).ready)

pub returns-in-Err : goal.returns-in-Err
returns-in-Err c crew setters (t, said, holds) =
    let known = prepared crew _ _ said holds in
    event_refused _ crew said _ _ (subst (Came t _ _) c.in-Err.is (came (goal.at.returns-in-Err c).After-follow known)) c.from.ensures

pub put_end-requires : goal.put_end-requires
put_end-requires c =
    let (crew, setters, (t, said, holds)) = c.requires in
    (subst (Came t _ _) c.in-Ok.is (came (goal.at.put_end-requires c).After-follow (prepared crew _ _ said holds))).fits

pub returns : goal.returns
returns c crew setters (t, said, holds) =
    let known = prepared crew _ _ said holds in
    let end = subst (Came t _ _) c.in-Ok.is (came (goal.at.returns c).After-follow known) in
    log_ended _ crew said _ _ end.end end.comes end.done_is end.held_is c.done.ensures
    (record_put end.shows known.ready.lawful.few_variables _ known.counted
    (c.put_state.ensures end.shows.long refl) c.put_end.ensures)
