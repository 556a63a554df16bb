-- `sampling::keep_few` meets its contract: the first seed gives a plan, so each does, and each is kept.
-- Assumes nothing.
use mathlib.Core.Path.{◌≡◌, refl}
use native.Mathlib.Omega.{arith}
use Rattle.sampling.proofs.Seeded.{total_few}
use Rattle.keeping.proofs.Alike.{plan_long, later_comes, first_kept, one_more_kept}
use borrow.Author.Rules.{rules}
use Rattle.sampling.proofs.keep_few.Goals as goal

pub keep-requires : goal.keep-requires
keep-requires c =
    let (t, once) = c.requires.4 in
    (c.requires.0, total_few once.orderly once.actions, omega arith, c.requires.3)

pub loop-k-init : goal.loop-k-init
loop-k-init c = (
  c.requires.0,
  refl,
  λ t once first. first_kept first (plan_long (total_few once.orderly once.actions) c.args.room.now c.requires.0) c.keep.ensures.by_index,
)

pub take_few_by-requires : goal.take_few_by-requires
take_few_by-requires c =
    (c.loop-k.invariant.0, c.requires.2, omega (arith, c.requires.1.low), omega (arith, c.requires.1.high, c.loop-k-test.true), c.requires.4)

pub keep-requires-in-loop-k : goal.keep-requires-in-loop-k
keep-requires-in-loop-k c =
    let (t, once) = c.requires.4 in
    (c.take_few_by.ensures.upper_bound.1, total_few once.orderly once.actions, omega (arith, c.loop-k-test.true, c.requires.1.few), omega (arith, c.requires.3, c.loop-k.invariant.1, c.kept-1.given))

pub loop-k-preserved : goal.loop-k-preserved
loop-k-preserved c =
    let taken = c.take_few_by.ensures in (
      taken.upper_bound.1,
      search rules,
      λ t once first.
          one_more_kept (c.loop-k.invariant.2 t once first) (later_comes _ (taken.taken t once) taken.upper_bound.1 taken.upper_bound.0 first)
          (plan_long (total_few once.orderly once.actions) c.take_few_by.new.room taken.upper_bound.1) c.keep-in-loop-k.ensures.by_index,
    )

pub returns : goal.returns
returns c =
    let all : c.loop-k.k ≡ c.args.e.seeds = omega (arith, c.loop-k-test.false, c.requires.1.some) in
    λ t once first. rw (← all) (c.loop-k.invariant.2 t once first)
