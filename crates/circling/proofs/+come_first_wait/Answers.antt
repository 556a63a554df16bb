-- The proof of the cycle of calls {come_first, wait}. Each call of one by the other and back puts one action more on the path, which has at most 256.
-- Assumes nothing.
use native.Mathlib.Omega.{arith}
use lib.ListN.{length-set}
use Prim.Native.Nat.{◌-◌}
use Rattle.ringing.proofs.Befores.{stuck_there, stuck_small}
use Rattle.ringing.proofs.Rows.{opened_row}
use Rattle.circling.proofs.Paths.{closes_here, room_left, goes_on, next_after, closes_later}
use Rattle.circling.proofs.+come_first_wait.Goals as goal

-- ---- come_first

pub come_first-bounds-seen-i : goal.come_first-bounds-seen-i
come_first-bounds-seen-i t c =
    let (some, wide, long, (study, stranded, rowed, pathed, next)) = c.requires in
    stuck_small stranded.lawful (next (c.args.spot.entry - 1) (omega arith)).stuck

pub come_first-offset_bounds-seen-i : goal.come_first-offset_bounds-seen-i
come_first-offset_bounds-seen-i t c =
    let (some, wide, long, (study, stranded, rowed, pathed, next)) = c.requires in
    omega (arith, stuck_small stranded.lawful (next (c.args.spot.entry - 1) (omega arith)).stuck)

pub come_first-returns-then-seen-i-ne0 : goal.come_first-returns-then-seen-i-ne0
come_first-returns-then-seen-i-ne0 t c =
    let (some, wide, long, _) = c.requires in
    record {
      seen_len = (wide, long);
      closed = λ study stranded rowed pathed next. closes_here pathed long stranded.lawful some next c.if-seen-i-ne0.true;
    }

pub come_first-wait-requires : goal.come_first-wait-requires
come_first-wait-requires t c =
    let (some, wide, long, (study, stranded, rowed, pathed, next)) = c.requires in (
      omega (arith, c.decreases),
      (wide, long, (study, stranded, rowed, pathed, (next (c.args.spot.entry - 1) (omega arith)).stuck, c.if-seen-i-ne0.false, next)),
    )

pub come_first-returns : goal.come_first-returns
come_first-returns t c =
    let (some, _, _, _) = c.requires in
    record {
      seen_len = c.wait.ensures.seen_len;
      closed =
          λ study stranded rowed pathed next.
          (c.wait.ensures.closed study stranded rowed pathed (next (c.args.spot.entry - 1) (omega (arith, some))).stuck c.if-seen-i-ne0.false next).0;
    }

-- ---- wait

pub wait-overflow_cast-path : goal.wait-overflow_cast-path
wait-overflow_cast-path t c =
    let (wide, long, (study, stranded, rowed, pathed, stuck, new, next)) = c.requires in
    omega (arith, stuck_small stranded.lawful stuck)

pub wait-bounds-path-k : goal.wait-bounds-path-k
wait-bounds-path-k t c =
    let (wide, long, (study, stranded, rowed, pathed, stuck, new, next)) = c.requires in
    room_left pathed long stranded.lawful wide stuck new

pub wait-offset_bounds-seen-j : goal.wait-offset_bounds-seen-j
wait-offset_bounds-seen-j t c =
    let (wide, long, (study, stranded, rowed, pathed, stuck, new, next)) = c.requires in
    omega (arith, stuck_small stranded.lawful stuck)

pub wait-bounds-seen-j : goal.wait-bounds-seen-j
wait-bounds-seen-j t c =
    let (wide, long, (study, stranded, rowed, pathed, stuck, new, next)) = c.requires in
    stuck_small stranded.lawful stuck

pub wait-action_at-act-requires : goal.wait-action_at-act-requires
wait-action_at-act-requires t c =
    let (wide, long, (study, stranded, rowed, pathed, stuck, new, next)) = c.requires in
    stuck_small stranded.lawful stuck

pub wait-lowest_before-i-requires : goal.wait-lowest_before-i-requires
wait-lowest_before-i-requires t c =
    let (wide, long, (study, stranded, rowed, pathed, stuck, new, next)) = c.requires in
    (study, _, stranded, opened_row rowed c.action_at-act.ensures (stuck_there stuck), stuck)

pub wait-come_first-requires : goal.wait-come_first-requires
wait-come_first-requires t c =
    let (wide, long, (study, stranded, rowed, pathed, stuck, new, next)) = c.requires in
    let opened = opened_row rowed c.action_at-act.ensures (stuck_there stuck) in (
      omega (arith, c.decreases, room_left pathed long stranded.lawful wide stuck new),
      (
        omega arith,
        simp length-set wide,
        simp length-set long,
        (
          study,
          stranded,
          rowed,
          goes_on pathed long stranded.lawful wide stuck new next,
          next_after pathed long stranded.lawful wide stuck new (c.lowest_before-i.ensures.waits_on study _ stranded opened stuck),
        ),
      ),
    )

pub wait-returns : goal.wait-returns
wait-returns t c =
    let (wide, long, _) = c.requires in
    record {
      seen_len = c.come_first.ensures.seen_len;
      closed =
          λ study stranded rowed pathed stuck new next.
          closes_later pathed long stranded.lawful wide stuck new
          (c.come_first.ensures.closed study stranded rowed
          (goes_on pathed long stranded.lawful wide stuck new next)
          (next_after pathed long stranded.lawful wide stuck new
          (c.lowest_before-i.ensures.waits_on study _ stranded (opened_row rowed c.action_at-act.ensures (stuck_there stuck)) stuck)));
    }
