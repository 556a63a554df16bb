-- `matching::keep` meets its contract: each turn stores one entry in the next row.
-- Assumes nothing.
use mathlib.Core.Path.{◌≡◌, refl}
use Prim.Native.Nat.{◌+◌, ◌*◌, ◌<◌, ◌≤◌}
use native.Mathlib.Omega.{arith}
use lib.ListN.{length}
use lib.Seq.{length-take-le}
use Rattle.matching.proofs.Places.{row_within}
use Rattle.matching.proofs.Keeping.{nothing_stored, one_stored, all_stored}
use Rattle.matching.proofs.keep.Goals as goal
use Rattle.matching.proofs.keep.Goals.{In-loop-p}

-- an entry of the plan is left
left : (t : In-loop-p) → t.loop-p.p < t.args.len
left t = omega (arith, length-take-le t.args.len t.args.plan.now t.requires.0)

-- the row of this turn is within the room
row : (t : In-loop-p) → t.args.base + (t.args.stride * t.loop-p.p + t.args.stride) ≤ length t.loop-p.region
row t = omega (arith, row_within t.args.stride (left t), t.loop-p.invariant.long)

pub loop-p-init : goal.loop-p-init
loop-p-init c = nothing_stored

pub overflow_mul-at : goal.overflow_mul-at
overflow_mul-at c = omega (arith, row c)

pub overflow_add-at : goal.overflow_add-at
overflow_add-at c = omega (arith, row c)

pub overflow_add-region : goal.overflow_add-region
overflow_add-region c = omega (arith, row (goal.at.overflow_add-region c).In-loop-p)

pub bounds-region-at : goal.bounds-region-at
bounds-region-at c = omega (arith, row (goal.at.bounds-region-at c).In-loop-p)

pub loop-p-preserved : goal.loop-p-preserved
loop-p-preserved c =
    one_stored _ c.loop-p.p c.loop-p.region c.requires.1 c.requires.2 (left (goal.at.loop-p-preserved c).In-loop-p) refl c.loop-p.invariant

pub returns : goal.returns
returns c =
    let whole = length-take-le c.args.len c.args.plan.now c.requires.0 in
    let all : c.loop-p.p ≡ c.args.len = omega (arith, whole) in
    let to = rw all at c.loop-p.invariant in
    record { region_unchanged = to.behind; by_index = λ plans is-k kept. all_stored c.requires.1 whole is-k to kept }
