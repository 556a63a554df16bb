-- The ways a replay ends: the file's refusal, an event's, or the log's end.
-- Assumes nothing.
use mathlib.Core.Path.{◌≡◌, refl, ◌∙◌}
use mathlib.Core.List.{List}
use Prim.Native.Nat.{ℕ}
use Rattle.answer.specs.Answers.{done, refusal}
use Rattle.answer.specs.declared.Answer.{Answer}
use Rattle.study.specs.Study.{Study}
use Rattle.study.specs.Reading.{says, refused, reading_for}
use Rattle.replays.specs.Log.{log_of}
use Rattle.replays.specs.Replay.{Progress, at_start, comes_to, stops, replay_on, replayed, occupant_bytes, ReplayAllows}

pub file_refused :
    (file : List ℕ) (crew : ℕ) (log before : List ℕ) {answer : Answer} {number place : ℕ}
    → reading_for file crew ≡ refused number place → answer ≡ refusal number place → ReplayAllows file crew log before answer before
unfolding replayed
file_refused file crew log before e given = rw e (given, refl)

module _ (file : List ℕ) {t : Study} (crew : ℕ) (says_so : reading_for file crew ≡ says t) (log before : List ℕ) where
  pub event_refused :
      {answer : Answer} {number place : ℕ} → replay_on t (at_start t) 0 (log_of log) ≡ stops (refusal number place)
      → answer ≡ refusal number place → ReplayAllows file crew log before answer before
  unfolding replayed
  event_refused e given = rw (says_so, e) (given, refl)

  pub log_ended :
      {answer : Answer} {after : List ℕ} {many held : ℕ} (end : Progress) → replay_on t (at_start t) 0 (log_of log) ≡ comes_to end
      → many ≡ end.done → held ≡ end.held → answer ≡ done many held → after ≡ occupant_bytes end.occupant
      → ReplayAllows file crew log before answer after
  unfolding replayed
  log_ended end e many_is held_is given bytes = rw (says_so, e) (given ∙ (rw (many_is, held_is)), bytes)
