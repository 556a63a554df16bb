-- `listing::first_unusable` meets its contract: each turn passes one entry that may be used.
-- Assumes nothing.
use mathlib.Core.Bool.{not}
use mathlib.Core.Path.{◌≡◌, sym, ap, ◌∙◌}
use native.Mathlib.Omega.{arith}
use lib.ListN.{length}
use Rattle.listing.proofs.Usables.{none_passed, one_passed, stops_absent, stops_out, all_passed}
use borrow.Author.Tests.{not-true, not-false}
use Rattle.listing.proofs.first_unusable.Goals as goal

pub loop-k-init : goal.loop-k-init
loop-k-init c = none_passed

pub returns-then-actions-i : goal.returns-then-actions-i
returns-then-actions-i c =
    let u = c.loop-k.invariant in
    record { there = c.loop-k-test.true; finds_unusable = stops_absent u c.loop-k-test.true c.wide-i.ensures.0 c.if-actions-i.true }

pub returns-then-not-in_force : goal.returns-then-not-in_force
returns-then-not-in_force c =
    let u = c.loop-k.invariant in
    record { there = c.loop-k-test.true; finds_unusable = stops_out u c.loop-k-test.true c.wide-i.ensures.0 (sym c.in_force.ensures ∙ not-true c.in_force.result (ap not c.if-not-in_force.true)) }

pub loop-k-preserved : goal.loop-k-preserved
loop-k-preserved c =
    one_passed c.loop-k.invariant c.loop-k-test.true c.wide-i.ensures.0 c.if-actions-i.false (sym c.in_force.ensures ∙ not-false c.in_force.result (ap not c.if-not-in_force.false))

pub returns : goal.returns
returns c =
    let all : c.loop-k.k ≡ length c.args.list.now = omega arith in
    record { there = tt; finds_unusable = rw all at (all_passed c.loop-k.invariant c.loop-k-test.false) }
