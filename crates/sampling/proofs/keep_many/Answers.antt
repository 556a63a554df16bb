-- `sampling::keep_many` meets its contract: the first seed gives a plan, so each does, and each is kept in the rows.
-- Assumes nothing.
use mathlib.Core.Path.{◌≡◌, refl, ◌∙◌}
use native.Mathlib.Omega.{arith}
use Rattle.sampling.proofs.Seeded.{total_few}
use Rattle.keeping.proofs.Alike.{plan_long, later_comes, first_kept, one_more_kept}
use borrow.Author.Rules.{rules}
use Rattle.sampling.proofs.keep_many.Goals as goal

pub keep-requires : goal.keep-requires
keep-requires c =
    let (t, counted) = c.requires.5 in
    (c.requires.0, total_few counted.orderly counted.deeds.actions, omega (arith, c.requires.3), c.requires.4)

pub loop-k-init : goal.loop-k-init
loop-k-init c = (
  c.requires.0,
  refl,
  refl,
  λ t counted first. first_kept first (plan_long (total_few counted.orderly counted.deeds.actions) c.args.room.now c.requires.0) c.keep.ensures.by_index,
)

pub take_many_by-requires : goal.take_many_by-requires
take_many_by-requires c =
    (c.loop-k.invariant.0, c.requires.1, omega (arith, c.requires.2.low), omega (arith, c.requires.2.high, c.loop-k-test.true), c.requires.5)

pub keep-requires-in-loop-k : goal.keep-requires-in-loop-k
keep-requires-in-loop-k c =
    let (t, counted) = c.requires.5 in (
      c.take_many_by.ensures.upper_bound.1,
      total_few counted.orderly counted.deeds.actions,
      omega (arith, c.loop-k-test.true, c.requires.2.few, c.requires.3),
      omega (arith, c.requires.4, c.loop-k.invariant.1, c.report-1.given),
    )

pub loop-k-preserved : goal.loop-k-preserved
loop-k-preserved c =
    let taken = c.take_many_by.ensures in (
      taken.upper_bound.1,
      search rules,
      c.keep-in-loop-k.ensures.region_unchanged ∙ c.loop-k.invariant.2,
      λ t counted first.
          one_more_kept (c.loop-k.invariant.3 t counted first) (later_comes _ (taken.taken t counted) taken.upper_bound.1 taken.upper_bound.0 first)
          (plan_long (total_few counted.orderly counted.deeds.actions) c.take_many_by.new.room taken.upper_bound.1) c.keep-in-loop-k.ensures.by_index,
    )

pub returns : goal.returns
returns c =
    let all : c.loop-k.k ≡ c.args.e.seeds = omega (arith, c.loop-k-test.false, c.requires.2.some) in
    record { report_unchanged = c.loop-k.invariant.2 ∙ c.keep.ensures.region_unchanged; kept_all = λ t counted first. rw (← all) (c.loop-k.invariant.3 t counted first) }
