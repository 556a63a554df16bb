-- `sampling::count_few` meets its contract: the plans are kept apart, counted, and tallied into the rows.
-- Assumes nothing.
use Prim.Native.Nat.{ℕ}
use native.Mathlib.Omega.{arith}
use lib.ListN.{length-replicate}
use Rattle.sampling.proofs.Seeded.{total_within}
use Rattle.keeping.proofs.Alike.{as_many_plans, actions_kept}
use Rattle.keeping.proofs.Writing.{figures_apart}
use Rattle.sampling.proofs.count_few.Goals as goal

pub keep_few-requires : goal.keep_few-requires
keep_few-requires c =
    let (t, once, first) = c.requires.4 in
    (c.requires.0, c.requires.1, c.requires.2, omega (arith, c.requires.2, total_within once.orderly once.actions, length-replicate {A = ℕ} 4096 0), (t, once))

pub different-different-requires : goal.different-different-requires
different-different-requires c =
    let (t, once, first) = c.requires.4 in
    (c.requires.1.few, omega (arith, c.requires.2, total_within once.orderly once.actions, length-replicate {A = ℕ} 4096 0, c.kept-2-1.given))

pub rows_from-requires : goal.rows_from-requires
rows_from-requires c =
    let (t, once, first) = c.requires.4 in
    let all = c.keep_few.ensures t once first in (
      c.requires.1.few,
      omega (arith, c.requires.2, total_within once.orderly once.actions, length-replicate {A = ℕ} 4096 0, c.kept-2-1.given),
      actions_kept all once.actions once.orderly.lawful all.kept,
      omega (arith, c.requires.3),
    )

pub returns : goal.returns
returns c =
    λ t once first.
    let all = c.keep_few.ensures t once first in
    figures_apart once.actions c.requires.1.some all
    (c.different-different.ensures.by_index _ (as_many_plans all) all.kept)
    c.head.ensures
    (c.rows_from.ensures _ (as_many_plans all) all.kept)
