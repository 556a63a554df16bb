-- `finding::walk_past` meets its contract: each turn follows one action of the walk and keeps `Following`.
-- Assumes nothing.
use Prim.Native.Nat.{◌+◌, ◌-◌, ◌*◌, ◌<◌}
use native.Mathlib.Numerals.{add-one}
use native.Mathlib.Omega.{arith}
use lib.ListN.{get_or}
use Rattle.finding.proofs.Following.{Following, begins, value_low, few_turns, ends, action_low, goes_on}
use Rattle.finding.proofs.walk_past.Goals as goal
use Rattle.finding.proofs.walk_past.Goals.{After-wide-in-loop-turn, Else-step-lt2, In-loop-turn}

-- where a turn stands
following :
    (i : In-loop-turn)
    → let s = i.args in
    let l = i.loop-turn in
    Following s.i s.u s.value s.start s.acts.now s.steps.now l.facts l.n l.q l._turn
following i = i.loop-turn.invariant

-- where the step is read
inside : (w : After-wide-in-loop-turn) → 16 * w.wide.result + w.wide-in-loop-turn.result < 512
inside w =
    let (a, b) = value_low ((let following_here : let s = w.args in
    let l = w.loop-turn in
    Following s.i s.u s.value s.start s.acts.now s.steps.now l.facts l.n l.q l._turn = w.loop-turn.invariant in following_here)) in
    omega (arith, w.wide.ensures.0, w.wide-in-loop-turn.ensures.0)

-- the action that the step names
named-low :
    (d : Else-step-lt2)
    → let s = d.args in
    get_or s.steps.now (16 * d.wide.result + d.wide-in-loop-turn.result) 0 - 2 < 256
named-low d =
    action_low ((let following_here : let s = d.args in
    let l = d.loop-turn in
    Following s.i s.u s.value s.start s.acts.now s.steps.now l.facts l.n l.q l._turn = d.loop-turn.invariant in following_here)) d.wide.ensures.0 d.wide-in-loop-turn.ensures.0 d.if-step-lt2.false

pub loop-turn-init : goal.loop-turn-init
loop-turn-init c =
    let a = c.add-first in
    begins c.requires.1 c.add-n.ensures.value.1 (omega (arith, a.ensures.value.0, c.add-n.ensures.value.0))
    (rw a.ensures.facts_after at c.add-n.ensures.facts_after)

pub overflow_add-step : goal.overflow_add-step
overflow_add-step c = omega (arith, inside c)

pub offset_bounds-steps-wide : goal.offset_bounds-steps-wide
offset_bounds-steps-wide c = omega (arith, inside c)

pub bounds-steps-wide : goal.bounds-steps-wide
bounds-steps-wide c = inside (goal.at.bounds-steps-wide c).After-wide-in-loop-turn

pub returns-then-step-lt2 : goal.returns-then-step-lt2
returns-then-step-lt2 c =
    let f = following (goal.at.returns-then-step-lt2 c).In-loop-turn in record { upper_bound = (omega (arith, f.count), f.sized); facts_after = ends f c.wide.ensures.0 c.wide-in-loop-turn.ensures.0 c.if-step-lt2.true }

pub overflow_cast-a : goal.overflow_cast-a
overflow_cast-a c = omega (arith, named-low c)

pub action_at-act-requires : goal.action_at-act-requires
action_at-act-requires c = named-low c

pub overflow_cast-walk : goal.overflow_cast-walk
overflow_cast-walk c = omega (arith, named-low (goal.at.overflow_cast-walk c).Else-step-lt2)

pub add-n-requires-in-loop-turn : goal.add-n-requires-in-loop-turn
add-n-requires-in-loop-turn c =
    let f = following (goal.at.add-n-requires-in-loop-turn c).In-loop-turn in
    (omega arith, (omega (arith, f.count), f.sized))

pub loop-turn-preserved : goal.loop-turn-preserved
loop-turn-preserved c =
    rw add-one
    (goes_on (following (goal.at.loop-turn-preserved c).In-loop-turn) c.wide.ensures.0 c.wide-in-loop-turn.ensures.0 c.if-step-lt2.false c.add-n-in-loop-turn.ensures.value.0 c.add-n-in-loop-turn.ensures.value.1
    c.action_at-act.ensures.post c.add-n-in-loop-turn.ensures.facts_after)

pub returns : goal.returns
returns c = absurd (omega (arith, few_turns c.loop-turn.invariant, c.loop-turn-test.false))
