-- `hanging::take_hanging` meets its contract: each round takes the least that is ready, and settles those that hung on it.
-- Assumes nothing.
use mathlib.Core.Path.{◌≡◌}
use native.Mathlib.Omega.{arith}
use Rattle.hanging.proofs.Left.{ends_all_taken}
use Rattle.hanging.proofs.Taken.{going_begins, going_on, ends_none_ready}
use Rattle.hanging.proofs.Named.{named_begins, named_on}
use Rattle.hanging.proofs.take_hanging.Goals as goal

pub loop-k-init : goal.loop-k-init
loop-k-init c = (
  c.hang_all-ready.ensures.hung_len,
  (_, (going_begins c.args.members _ c.hang_all-ready.ensures.hangs, named_begins c.args.room.now c.requires.1)),
)

pub returns-then-ready-eq0 : goal.returns-then-ready-eq0
returns-then-ready-eq0 c =
    let (list, (going, names)) = c.loop-k.invariant.1 in
    record { upper_bound = (omega arith, names.long); taken_by_name = record { list = list; greedy = ends_none_ready going c.if-ready-eq0.true; named = names.names } }

pub loop-k-preserved : goal.loop-k-preserved
loop-k-preserved c =
    let (list, (going, names)) = c.loop-k.invariant.1 in (
      c.hang_all-ready-in-loop-k.ensures.hung_len,
      (
        _,
        (
          going_on going c.lowest-y.ensures c.without_bit-left.ensures c.without_bit-others.ensures c.hang_all-ready-in-loop-k.ensures.hangs,
          named_on names c.lowest-y.result (omega (arith, c.lowest-y.ensures.room)) (omega arith),
        ),
      ),
    )

pub returns : goal.returns
returns c =
    let all : c.loop-k.k ≡ c.args.total = omega arith in
    let (list, (going, names)) = c.loop-k.invariant.1 in record {
      upper_bound = (omega arith, names.long);
      taken_by_name = record {
        list = list;
        greedy = ends_all_taken going.so c.requires.2 (omega (arith, names.count));
        named = rw all at names.names;
      };
    }
