-- `sweeping::sweep` meets its contract: passes are moves from the start, until none can move or all walk actions are taken.
-- Assumes nothing.
use mathlib.Core.Path.{refl}
use Prim.Native.Nat.{◌-◌}
use native.Mathlib.Omega.{arith}
use Rattle.stages.proofs.Stages.{counted_variables}
use Rattle.sweeping.specs.Moving.{Guided, none}
use Rattle.sweeping.proofs.Moved.{moves_joined, guided_on, few_moves}
use Rattle.sweeping.proofs.Taken.{counted_guides, ends_stuck, ends_all}
use Rattle.sweeping.proofs.sweep.Goals as goal
use Rattle.sweeping.proofs.sweep.Goals.{At-loop-k}

pub set_out-requires : goal.set_out-requires
set_out-requires c = let (t, a, counted) = c.requires.1 in (counted_variables counted, refl)

pub loop-k-init : goal.loop-k-init
loop-k-init c = none

guided :
    (l : At-loop-k) → (let s = l.args in
    Guided s.file.now s.acts.now s.steps.now s.n s.wants.now l.set_out.new.state)
guided l =
    let p = l.requires in
    let (t, a, counted) = p.1 in
    counted_guides _ counted p.0 l.set_out.ensures

pub pass-some-requires : goal.pass-some-requires
pass-some-requires c =
    guided_on (guided (goal.at.pass-some-requires c).At-loop-k) c.loop-k.invariant

pub returns-then-some-eq0 : goal.returns-then-some-eq0
returns-then-some-eq0 c =
    let p = c.pass-some.ensures in
    λ t a counted. ends_stuck _ counted c.requires.0 c.set_out.ensures c.loop-k.invariant (p.stay c.if-some-eq0.true)

-- the moves of one more pass
pub loop-k-preserved : goal.loop-k-preserved
loop-k-preserved c = moves_joined c.loop-k.invariant c.pass-some.ensures.moves

pub overflow_add-k : goal.overflow_add-k
overflow_add-k c = omega (arith, few_moves (guided (goal.at.overflow_add-k c).At-loop-k) ((moves_joined c.loop-k.invariant c.pass-some.ensures.moves)))

pub loop-k-smaller : goal.loop-k-smaller
loop-k-smaller c = omega (arith, c.loop-k-test.true, c.if-some-eq0.false)

pub returns : goal.returns
returns c =
    λ t a counted. ends_all _ counted c.requires.0 c.set_out.ensures c.loop-k.invariant c.loop-k-test.false
