-- `hanging::take_looking` meets its contract: each round takes the least of those left that has nothing left before it.
-- Assumes nothing.
use mathlib.Core.Path.{◌≡◌}
use mathlib.Core.List.{List}
use Prim.Native.Nat.{ℕ, ◌≤◌, ◌<◌}
use native.Mathlib.Decide.{dec_lt}
use native.Mathlib.Omega.{arith}
use Rattle.hanging.specs.Hanging.{InWord, Free, LeastFree}
use Rattle.hanging.proofs.Left.{left_begins, left_on, ends_none_free, ends_all_taken}
use Rattle.hanging.proofs.Named.{named_begins, named_on}
use Rattle.hanging.proofs.take_looking.Goals as goal

-- none that is free is below it
none-lower : {before : List ℕ} {left y : ℕ} → LeastFree before left y → (z : ℕ) → InWord left z → Free before left z → y ≤ z
none-lower {y = y} low z l f = go (dec_lt z y)
  where
    go : Dec (z < y) → y ≤ z
    go (yes h) = absurd (low.least z h l f)
    go (no n) = omega arith

pub loop-k-init : goal.loop-k-init
loop-k-init c = (_, (left_begins c.args.members c.args.before.now, named_begins c.args.room.now c.requires.1))

pub returns-in_default : goal.returns-in_default
returns-in_default c =
    let (list, (left, names)) = c.loop-k.invariant in
    record { upper_bound = (omega arith, names.long); taken_by_name = record { list = list; greedy = ends_none_free left (c.in_default.ensures.least.none (omega arith)); named = names.names } }

pub loop-k-preserved : goal.loop-k-preserved
loop-k-preserved c =
    let (list, (left, names)) = c.loop-k.invariant in
    let low = c.in-Some.ensures.least in
    let (own, free) = low.free c.in-Some.ensures.room in
    (_, (left_on left own free (none-lower low) c.without_bit-left.ensures, named_on names c.in-Some.y (omega (arith, c.in-Some.ensures.room)) (omega arith)))

pub returns : goal.returns
returns c =
    let all : c.loop-k.k ≡ c.args.total = omega arith in
    let (list, (left, names)) = c.loop-k.invariant in record { upper_bound = (omega arith, names.long); taken_by_name = record { list = list; greedy = ends_all_taken left c.requires.2 (omega (arith, names.count)); named = rw all at names.names } }
