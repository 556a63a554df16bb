-- `taking::take_all` meets its contract: each round takes one ready action of least rank and keeps `Underway`, and the open ranks are right.
-- Assumes nothing.
use mathlib.Core.Path.{◌≡◌, refl}
use Prim.Native.Nat.{◌-◌, ◌<◌}
use native.Mathlib.Omega.{arith}
use Rattle.taking.proofs.OpenRounds.{right_begins}
use Rattle.taking.proofs.TakingRounds.{begins, guards, has_rank, notes, ends_stuck, ends_all, chosen_below, chosen_lowerable, chosen_ranked, chosen_listed, chosen_var, chosen_within, room_left, goes_on, right_stays}
use Rattle.taking.proofs.take_all.Goals as goal
use Rattle.taking.proofs.take_all.Goals.{In-Some}

pub open_all-requires : goal.open_all-requires
open_all-requires c =
    let p = c.requires in
    let u = begins {ranks = c.args.ranks.now} {room = c.args.room.now} p.0 p.1 p.2 p.3 p.4 in
    (has_rank u, refl)

pub loop-k-init : goal.loop-k-init
loop-k-init c =
    let p = c.requires in
    (begins p.0 p.1 p.2 p.3 p.4, right_begins c.open_all.ensures)

pub best-next-requires : goal.best-next-requires
best-next-requires c =
    (_, _, _, _, guards c.loop-k.invariant.0, c.loop-k.invariant.1)

pub returns-in_default : goal.returns-in_default
returns-in_default c =
    let u = c.loop-k.invariant.0 in
    ((u.within, u.room_long), ends_stuck u (rw c.in_default.is at (c.best-next.ensures _ _ _ _ (guards u) c.loop-k.invariant.1).0))

-- the action that is chosen is one of 256
below : (c : In-Some) → c.in-Some.i < 256
below c =
    let u = c.loop-k.invariant.0 in
    chosen_below u (rw c.in-Some.is at (c.best-next.ensures _ _ _ _ (guards u) c.loop-k.invariant.1).0)

-- .. and there is room for it
left : (c : In-Some)
    → c.loop-k.k < 256
left c =
    let u = c.loop-k.invariant.0 in
    room_left u (rw c.in-Some.is at (c.best-next.ensures _ _ _ _ (guards u) c.loop-k.invariant.1).0) c.loop-k-test.true

pub action_at-a-requires : goal.action_at-a-requires
action_at-a-requires c = below c

pub bounds-ranks-i : goal.bounds-ranks-i
bounds-ranks-i c =
    let u = c.loop-k.invariant.0 in
    chosen_listed u (rw c.in-Some.is at (c.best-next.ensures _ _ _ _ (guards u) c.loop-k.invariant.1).0)

pub remove-requires : goal.remove-requires
remove-requires c =
    (c.best-next.ensures _ _ _ _ (guards c.loop-k.invariant.0) c.loop-k.invariant.1).1.opened_long

pub unwant-requires : goal.unwant-requires
unwant-requires c =
    let u = c.loop-k.invariant.0 in
    let chosen = rw c.in-Some.is at (c.best-next.ensures _ _ _ _ (guards u) c.loop-k.invariant.1).0 in
    rw (c.action_at-a.ensures.place, c.action_at-a.ensures.many)
    (chosen_lowerable u chosen, chosen_ranked u chosen, u.wants_long, c.remove.ensures.long)

pub bounds-state-v : goal.bounds-state-v
bounds-state-v c =
    let u = c.loop-k.invariant.0 in
    omega (
      arith,
      c.wide-v.ensures.0,
      c.action_at-a.ensures.var,
      chosen_var u (rw c.in-Some.is at (c.best-next.ensures _ _ _ _ (guards u) c.loop-k.invariant.1).0),
    )

pub bounds-held-v : goal.bounds-held-v
bounds-held-v c = (let u = c.loop-k.invariant.0 in
    omega (
      arith,
      c.wide-v.ensures.0,
      c.action_at-a.ensures.var,
      chosen_var u (rw c.in-Some.is at (c.best-next.ensures _ _ _ _ (guards u) c.loop-k.invariant.1).0),
    ))

pub open_next-requires : goal.open_next-requires
open_next-requires c =
    let o = c.action_at-a.ensures in
    let best = c.best-next.ensures _ _ _ _ (guards c.loop-k.invariant.0) c.loop-k.invariant.1 in
    let u = notes c.loop-k.invariant.0 best.2 in
    let chosen = rw c.in-Some.is at best.0 in
    let after = goes_on u chosen c.loop-k-test.true in
    (rw (c.wide-v.ensures.0, o.var, o.post) (has_rank after _ (chosen_within u chosen)), c.unwant.ensures.1.long)

pub offset_bounds-waiting-v : goal.offset_bounds-waiting-v
offset_bounds-waiting-v c =
    let u = c.loop-k.invariant.0 in
    let chosen = chosen_var u (rw c.in-Some.is at (c.best-next.ensures _ _ _ _ (guards u) c.loop-k.invariant.1).0) in
    omega (arith, c.wide-v.ensures.0, c.action_at-a.ensures.var, chosen)

pub bounds-waiting-v : goal.bounds-waiting-v
bounds-waiting-v c = (let u = c.loop-k.invariant.0 in
    omega (
      arith,
      c.wide-v.ensures.0,
      c.action_at-a.ensures.var,
      chosen_var u (rw c.in-Some.is at (c.best-next.ensures _ _ _ _ (guards u) c.loop-k.invariant.1).0),
    ))

pub offset_bounds-waiting-v-in-loop-k : goal.offset_bounds-waiting-v-in-loop-k
offset_bounds-waiting-v-in-loop-k c =
    let u = c.loop-k.invariant.0 in
    let chosen = chosen_var u (rw c.in-Some.is at (c.best-next.ensures _ _ _ _ (guards u) c.loop-k.invariant.1).0) in
    omega (arith, c.wide-v.ensures.0, c.action_at-a.ensures.var, chosen)

pub bounds-waiting-v-in-loop-k : goal.bounds-waiting-v-in-loop-k
bounds-waiting-v-in-loop-k c = ((let u = c.loop-k.invariant.0 in
    omega (
      arith,
      c.wide-v.ensures.0,
      c.action_at-a.ensures.var,
      chosen_var u (rw c.in-Some.is at (c.best-next.ensures _ _ _ _ (guards u) c.loop-k.invariant.1).0),
    )))

pub wake-requires : goal.wake-requires
wake-requires c =
    let o = c.action_at-a.ensures in
    let best = c.best-next.ensures _ _ _ _ (guards c.loop-k.invariant.0) c.loop-k.invariant.1 in
    let u = notes c.loop-k.invariant.0 best.2 in
    let chosen = rw c.in-Some.is at best.0 in
    let after = goes_on u chosen c.loop-k-test.true in
    (rw (c.wide-v.ensures.0, o.var, o.post) (λ x h. has_rank after x (best.1.asleep _ x h).free.below), c.open_next.ensures.long)

pub overflow_cast-room : goal.overflow_cast-room
overflow_cast-room c =
    omega (arith, below (goal.at.overflow_cast-room c).In-Some)

pub overflow_add-room : goal.overflow_add-room
overflow_add-room c =
    omega (arith, left (goal.at.overflow_add-room c).In-Some)

pub bounds-room-k : goal.bounds-room-k
bounds-room-k c =
    omega (arith, left (goal.at.bounds-room-k c).In-Some)

pub loop-k-preserved : goal.loop-k-preserved
loop-k-preserved c =
    let x = c.unwant.ensures in
    let o = c.action_at-a.ensures in
    let best = c.best-next.ensures _ _ _ _ (guards c.loop-k.invariant.0) c.loop-k.invariant.1 in
    let u = notes c.loop-k.invariant.0 best.2 in
    let chosen = rw c.in-Some.is at best.0 in
    let after = goes_on u chosen c.loop-k-test.true in
    rw (x.0, c.wide-v.ensures.0, o.place, o.many, o.var, o.post) (
      after,
      right_stays u chosen best.1 (guards after) c.remove.ensures (rw (x.0, o.place, o.many) at x.1)
          (rw (x.0, c.wide-v.ensures.0, o.place, o.many, o.var, o.post) at c.open_next.ensures)
          (rw (c.wide-v.ensures.0, o.var, o.post) at c.wake.ensures),
    )

pub returns : goal.returns
returns c =
    let u = c.loop-k.invariant.0 in
    let e : c.loop-k.k ≡ c.args.total = omega (arith, u.within) in
    ((omega arith, u.room_long), rw e at (ends_all u c.loop-k-test.false))
