-- `setters::fill` meets its contract: each turn names one action more, or finds that it repeats one of those named.
-- Assumes nothing.
use mathlib.Core.Bool.{not}
use mathlib.Core.Path.{◌≡◌, ap}
use native.Mathlib.Omega.{arith}
use borrow.Author.Tests.{not-true, not-false}
use Rattle.setters.proofs.Naming.{none_marked, beside, one_repeats, none_repeats}
use Rattle.setters.proofs.fill.Goals as goal

pub loop-i-init : goal.loop-i-init
loop-i-init c =
    λ file situation actions holds long. (long, record { named = λ i h e. absurd (omega arith); noted = none_marked situation actions })

pub returns-then-not-name-clause-by_index : goal.returns-then-not-name-clause-by_index
returns-then-not-name-clause-by_index c =
    λ file situation actions holds long.
    let (long-too, kept) = c.loop-i.invariant file situation actions holds long in
    let one = c.name.ensures file situation _ actions (beside holds _) c.loop-i-test.true long-too in
    one_repeats c.loop-i.setters _ kept.named (one.repeats (not-true _ (ap not c.if-not-name.true)) kept)

pub loop-i-preserved : goal.loop-i-preserved
loop-i-preserved c =
    λ file situation actions holds long.
    let (long-too, kept) = c.loop-i.invariant file situation actions holds long in
    (c.name.ensures file situation _ actions (beside holds _) c.loop-i-test.true long-too).names (not-false _ (ap not c.if-not-name.false)) kept

pub returns-clause-by_index : goal.returns-clause-by_index
returns-clause-by_index c =
    let all : c.loop-i.i ≡ c.args.n = omega arith in
    λ file situation actions holds long.
    let (long-too, kept) = rw all at (c.loop-i.invariant file situation actions holds long) in
    none_repeats _ holds.count long-too kept.named
