-- `choosing::best` meets its contract: each turn looks at the action of the least open rank; if it is not ready, the rank is taken out.
-- Assumes nothing.
use mathlib.Core.Path.{refl}
use native.Mathlib.Omega.{arith}
use Prim.Native.Nat.{◌+◌, ◌*◌, ◌^◌, ◌<◌}
use Rattle.bits.proofs.Counted.{counted_falls}
use Rattle.opening.specs.Conditions.{Readable}
use Rattle.choosing.proofs.Picking.{picks_none, picked_low, picked_readable, picked_held, picks_ready, picks_again}
use Rattle.choosing.proofs.best.Goals as goal
use Rattle.choosing.proofs.best.Goals.{After-action_at-a}

pub returns-in_default : goal.returns-in_default
returns-in_default c = picks_none c.loop-r.invariant c.in_default.ensures (omega arith)

-- its action's variable is one of 32
low : (c : After-action_at-a) → c.action_at-a.result.var < 32
low c =
    rw (c.action_at-a.ensures.var, c.wide-i.ensures.0) (picked_low c.loop-r.invariant c.in-Some.ensures (omega arith))

-- its action's conditions can be read
readable : (c : After-action_at-a)
    → Readable c.args.file.now c.action_at-a.result.place
    c.action_at-a.result.many
readable c =
    rw (c.action_at-a.ensures.place, c.action_at-a.ensures.many, c.wide-i.ensures.0)
    (picked_readable c.loop-r.invariant c.in-Some.ensures (omega arith))

-- .. and a place among them fits
fits : (c : After-action_at-a) → c.action_at-a.result.place + 3 * c.action_at-a.result.many < 2 ^ 64
fits c = omega (arith, (readable c).room, c.well_formed.0)

pub bounds-held-v : goal.bounds-held-v
bounds-held-v c = rw c.wide-v.ensures.0 (low (goal.at.bounds-held-v c).After-action_at-a)

pub count_held-k-requires : goal.count_held-k-requires
count_held-k-requires c = (
  readable (goal.at.count_held-k-requires c).After-action_at-a,
  rw (c.wide-v.ensures.0, c.action_at-a.ensures.many, c.action_at-a.ensures.var, c.wide-i.ensures.0)
      (picked_held c.loop-r.invariant c.in-Some.ensures (omega arith)),
)

pub returns-then-a-k : goal.returns-then-a-k
returns-then-a-k c =
    let o = c.action_at-a.ensures in
    rw c.wide-i.ensures.0
    (picks_ready c.loop-r.invariant c.in-Some.ensures (omega arith)
    (rw (o.place, o.many, c.wide-v.ensures.0, o.var, c.wide-i.ensures.0) at c.count_held-k.ensures)
    (rw (o.many, c.wide-i.ensures.0) at c.if-a-k.true))

pub overflow_add-a : goal.overflow_add-a
overflow_add-a c =
    omega (arith, fits (goal.at.overflow_add-a c).After-action_at-a, c.wide.ensures.0, c.if-a-k.false)

pub overflow_add-a-in-loop-r : goal.overflow_add-a-in-loop-r
overflow_add-a-in-loop-r c =
    omega (arith, fits (goal.at.overflow_add-a-in-loop-r c).After-action_at-a, c.wide.ensures.0, c.if-a-k.false)

pub bounds-file-a : goal.bounds-file-a
bounds-file-a c =
    omega (arith, (readable (goal.at.bounds-file-a c).After-action_at-a).room, c.wide.ensures.0, c.if-a-k.false)

pub bounds-held-v-in-loop-r : goal.bounds-held-v-in-loop-r
bounds-held-v-in-loop-r c = (rw c.wide-v.ensures.0 (low (goal.at.bounds-held-v-in-loop-r c).After-action_at-a))

-- the variable that the failing condition is on is one of 32
pub bounds-waiting-on : goal.bounds-waiting-on
bounds-waiting-on c =
    rw (c.wide-on.ensures.0, c.wide.ensures.0) ((readable (goal.at.bounds-waiting-on c).After-action_at-a).var _ c.if-a-k.false)

pub with_bit-requires : goal.with_bit-requires
with_bit-requires c = omega (arith, low (goal.at.with_bit-requires c).After-action_at-a)

pub bounds-waiting-on-in-loop-r : goal.bounds-waiting-on-in-loop-r
bounds-waiting-on-in-loop-r c = (rw (c.wide-on.ensures.0, c.wide.ensures.0) ((readable (goal.at.bounds-waiting-on-in-loop-r c).After-action_at-a).var _ c.if-a-k.false))

pub loop-r-smaller : goal.loop-r-smaller
loop-r-smaller c =
    counted_falls _ _ _ (c.in-Some.ensures.there (omega arith)) c.remove.ensures.members 256 (omega arith)

pub loop-r-preserved : goal.loop-r-preserved
loop-r-preserved c =
    let o = c.action_at-a.ensures in
    rw (c.wide-v.ensures.0, o.var, c.wide-i.ensures.0)
    (picks_again c.loop-r.invariant c.in-Some.ensures (omega arith)
    (rw (o.place, o.many, c.wide-v.ensures.0, o.var, c.wide-i.ensures.0) at c.count_held-k.ensures)
    _ (rw (c.wide-on.ensures.0, c.wide.ensures.0, o.place, c.wide-i.ensures.0) refl) (rw (o.many, c.wide-i.ensures.0) at c.if-a-k.false)
    c.remove.ensures _ (rw (o.var, c.wide-i.ensures.0) at c.with_bit.ensures))
