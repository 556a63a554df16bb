-- `following::looking::look` meets its contract: each return's tests are those of the definition, in its order.
-- Assumes nothing.
use Rattle.std.proofs.Common.{◌≡◌, ◌+◌, ◌<◌, true, eqb, length, get_or, sym, ◌∙◌, arith}
use Rattle.tables.specs.Rows.{out_column}
use Rattle.replays.specs.Log.{event_kind}
use Rattle.following.proofs.Places.{looks_2, looks_14, looks_20, looks_23, looks_on}
use Rattle.following.proofs.looking.look.Goals as goal
use Rattle.following.proofs.looking.look.Goals.{Else-log-at-ne16, Else-actions-wide, Else-not-in_force}

-- it is an event
module _ (c : Else-log-at-ne16) where
  some : c.args.at < length c.args.log.now
  some = omega (arith, c.requires.0)

  kind : get_or c.args.log.now c.args.at 0 ≡ event_kind
  kind = c.if-log-at-ne16.false

-- .. and its action is there
module _ (c : Else-actions-wide) where
  there : get_or c.args.log.now (c.args.at + 3) 0 < c.args.actions
  there = omega (arith, c.if-actions-wide.false, c.wide.ensures.0)

-- .. and in force
module _ (c : Else-not-in_force) where
  force : eqb (get_or (out_column c.args.acts.now) (get_or c.args.log.now (c.args.at + 3) 0) 0) 0 ≡ true
  force = rw c.wide-2.ensures.0 at (sym c.in_force.ensures ∙ c.if-not-in_force.false)

pub returns-then-log-at-ne16 : goal.returns-then-log-at-ne16
returns-then-log-at-ne16 c =
    record { sound = tt; by_index = λ file t p ready place last. rw c.at.ensures (looks_2 t p _ _ (omega (arith, c.requires.0)) c.if-log-at-ne16.true) }

pub returns-then-actions-wide : goal.returns-then-actions-wide
returns-then-actions-wide c =
    let f = (goal.at.returns-then-actions-wide c).Else-log-at-ne16 in record {
      sound = tt;
      by_index = λ file t p ready place last.
          rw c.at-then-actions-wide.ensures
          (looks_14 t p _ _ (some f) (kind f) c.requires.0 place c.requires.1 ready (omega (arith, c.if-actions-wide.true, c.wide.ensures.0)));
    }

pub returns-then-not-in_force : goal.returns-then-not-in_force
returns-then-not-in_force c =
    let f = (goal.at.returns-then-not-in_force c).Else-log-at-ne16 in record {
      sound = tt;
      by_index = λ file t p ready place last.
          rw c.at-then-not-in_force.ensures
          (looks_20 t p _ _ (some f) (kind f) c.requires.0 place c.requires.1 ready (there (goal.at.returns-then-not-in_force c).Else-actions-wide)
          (rw c.wide-2.ensures.0 at (sym c.in_force.ensures ∙ c.if-not-in_force.true)));
    }

pub returns-then-step-ge32768 : goal.returns-then-step-ge32768
returns-then-step-ge32768 c =
    let f = (goal.at.returns-then-step-ge32768 c).Else-log-at-ne16 in record {
      sound = tt;
      by_index = λ file t p ready place last.
          rw c.at-then-step-ge32768.ensures
          (looks_23 t p _ _ (some f) (kind f) c.requires.0 place c.requires.1 ready (there (goal.at.returns-then-step-ge32768 c).Else-actions-wide) (force (goal.at.returns-then-step-ge32768 c).Else-not-in_force) last
          (rw c.tick_of-tick.ensures at c.step_to-step.ensures) c.if-step-ge32768.true);
    }

pub returns : goal.returns
returns c =
    let f = (goal.at.returns c).Else-log-at-ne16 in
    let here = there (goal.at.returns c).Else-actions-wide in record {
      sound = (c.requires.0, c.requires.1, here, c.if-step-ge32768.false);
      by_index = λ file t p ready place last.
          looks_on t p _ _ (some f) (kind f) c.requires.0 place c.requires.1 ready here (force (goal.at.returns c).Else-not-in_force) last
          (rw c.tick_of-tick.ensures at c.step_to-step.ensures) c.if-step-ge32768.false c.tick_of-tick.ensures;
    }
