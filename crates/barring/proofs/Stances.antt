-- The code's stance tells the definition's, and so the variable that a run's 15 names.
-- Assumes nothing.
use mathlib.Core.Path.{◌≡◌, refl, sym, ap, ◌∙◌}
use Rattle.std.specs.Prelude.{None, Some}
use Rattle.study.specs.Study.{Action}
use Rattle.plans.specs.Plans.{State}
use Rattle.runs.specs.Run.{none, fails, barred}
use Rattle.replays.specs.Replay as Replay
use Rattle.replays.specs.Replay.{idle, waits_for, lacks}
use Rattle.replays.proofs.Waits.{variable_of, as_fifteen}
use Rattle.barring.specs.declared.Want.{Want}
use Rattle.barring.specs.Stances.{stance_of}

pub is_idle : (f : Replay.Stance) → None ≡ stance_of f → f ≡ idle
is_idle idle e = refl
is_idle (waits_for v q) e = cc

pub is_waiting : (f : Replay.Stance) (w : Want) → Some w ≡ stance_of f → f ≡ waits_for w.var w.value
is_waiting idle w e = cc
is_waiting (waits_for v q) w e = cc

module _ (s : State) (a : Action) where
  pub free : None ≡ stance_of (lacks s a) → barred s a ≡ none
  free e = sym (as_fifteen s a) ∙ ap variable_of (is_idle (lacks s a) e)

  pub bars : (w : Want) → Some w ≡ stance_of (lacks s a) → barred s a ≡ fails w.var
  bars w e = sym (as_fifteen s a) ∙ ap variable_of (is_waiting (lacks s a) w e)
