-- `stepping::steps::take_step` meets its contract: each return's tests are those of one step of the definition.
-- Assumes nothing.
use mathlib.Core.Bool.{not}
use mathlib.Core.Path.{ap}
use mathlib.Core.Path.{◌≡◌, sym, ◌∙◌}
use mathlib.Core.Bool.{true}
use Prim.Native.Nat.{◌<◌}
use native.Mathlib.Omega.{arith}
use lib.Dec.{eqb}
use lib.ListN.{get_or}
use borrow.Author.Tests.{not-true, not-false}
use Rattle.study.specs.Study.{Study, action_at}
use Rattle.replays.specs.Replay.{lacks}
use Rattle.tables.specs.Rows.{out_column}
use Rattle.std.specs.Prelude.{None}
use Rattle.barring.specs.Stances.{stance_of}
use Rattle.barring.specs.Telling.{Ready, Tells}
use Rattle.stepping.proofs.Turns.{mark_in_range, takes_14, takes_20, takes_15, takes_16, takes_on}
use Rattle.stepping.proofs.steps.take_step.Goals as goal
use Rattle.stepping.proofs.steps.take_step.Goals.{After-action_at-act, After-wide-v}

-- the action is there and in force, and its row was opened
module _ (c : After-action_at-act) where
  there : c.args.entry < c.args.actions
  there = c.if-actions-i.false

  force : eqb (get_or (out_column c.args.acts.now) c.args.entry 0) 0 ≡ true
  force = sym c.in_force.ensures ∙ not-false _ (ap not c.if-not-in_force.false)

  told :
      {t : Study} → Ready c.args.file.now c.args.actions c.args.acts.now t
      → Tells c.args.file.now c.action_at-act.result (action_at t.actions c.args.entry)
  told r = r.action c.args.entry there c.action_at-act.ensures

-- .. and nothing bars it
module _ (c : After-wide-v) where
  in_range_lem : (c.wide-v.result < 32) × (c.action_at-act.result.post < 16)
  in_range_lem =
      mark_in_range c.requires.1 c.args.entry ((let there_here : c.args.entry < c.args.actions = c.if-actions-i.false in there_here)) ((c.requires.1.action c.args.entry ((let there_here : c.args.entry < c.args.actions = c.if-actions-i.false in there_here)) c.action_at-act.ensures)) c.wide-v.ensures.0

  free :
      {t : Study} → Ready c.args.file.now c.args.actions c.args.acts.now t
      → None ≡ stance_of (lacks c.args.state.now (action_at t.actions c.args.entry))
  free r = sym c.in_default.is ∙ c.barred.ensures _ ((r.action c.args.entry ((let there_here : c.args.entry < c.args.actions = c.if-actions-i.false in there_here)) c.action_at-act.ensures))

pub returns-then-actions-i : goal.returns-then-actions-i
returns-then-actions-i c =
    let a = c.args in
    λ t past r s. rw c.refusal.ensures (takes_14 r s a.k a.entry c.if-actions-i.true)

pub returns-then-not-in_force : goal.returns-then-not-in_force
returns-then-not-in_force c =
    let a = c.args in
    λ t past r s. rw c.refusal-then-not-in_force.ensures (takes_20 r s a.k a.entry c.if-actions-i.false (sym c.in_force.ensures ∙ not-true _ (ap not c.if-not-in_force.true)))

pub barred-requires : goal.barred-requires
barred-requires c = (_, told c c.requires.1)

pub returns-in-Some : goal.returns-in-Some
returns-in-Some c =
    let a = c.args in
    λ t past r s.
    rw c.answer.ensures (takes_15 r s a.k a.entry (there (goal.at.returns-in-Some c).After-action_at-act) (force (goal.at.returns-in-Some c).After-action_at-act) (sym c.in-Some.is ∙ c.barred.ensures _ (told (goal.at.returns-in-Some c).After-action_at-act r)))

pub bounds-held-v : goal.bounds-held-v
bounds-held-v c = (in_range_lem (goal.at.bounds-held-v c).After-wide-v).0

pub has-requires : goal.has-requires
has-requires c = (in_range_lem (goal.at.has-requires c).After-wide-v).1

pub returns-then-has : goal.returns-then-has
returns-then-has c =
    let a = c.args in
    λ t past r s.
    rw c.answer-then-has.ensures
    (takes_16 r s a.k a.entry (there (goal.at.returns-then-has c).After-action_at-act) (force (goal.at.returns-then-has c).After-action_at-act) (free (goal.at.returns-then-has c).After-wide-v r) (told (goal.at.returns-then-has c).After-action_at-act r) c.wide-v.ensures.0 (sym c.has.ensures ∙ c.if-has.true))

pub with-requires : goal.with-requires
with-requires c = omega (arith, (in_range_lem (goal.at.with-requires c).After-wide-v).1)

pub bounds-held-v-2 : goal.bounds-held-v-2
bounds-held-v-2 c = (in_range_lem (goal.at.bounds-held-v-2 c).After-wide-v).0

pub bounds-state-v : goal.bounds-state-v
bounds-state-v c = (in_range_lem (goal.at.bounds-state-v c).After-wide-v).0

pub returns : goal.returns
returns c =
    let a = c.args in
    λ t past r s.
    takes_on r s a.k a.entry (there (goal.at.returns c).After-action_at-act) (force (goal.at.returns c).After-action_at-act) (free (goal.at.returns c).After-wide-v r) (told (goal.at.returns c).After-action_at-act r) c.wide-v.ensures.0 c.with.result c.with.ensures
    (sym c.has.ensures ∙ c.if-has.false)
