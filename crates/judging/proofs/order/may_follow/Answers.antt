-- `judging::order::may_follow` meets its contract: the arm of each kind tests what `may_follow_lem` does.
-- Assumes nothing.
use mathlib.Core.Bool.{and-true, and-false}
use native.Mathlib.Omega.{arith}
use borrow.Author.Tests.{le-leb, lt-leb, eq-eqb, ne_eqb}
use Rattle.study.specs.Reading.{may_follow_lem}
use Rattle.judging.proofs.order.may_follow.Goals as goal

pub returns-then-last-le1 : goal.returns-then-last-le1
unfolding may_follow_lem
returns-then-last-le1 c = simp (c.in-1.is, le-leb _ _ c.if-last-le1.true)

pub returns-else-last-le1 : goal.returns-else-last-le1
unfolding may_follow_lem
returns-else-last-le1 c = simp (c.in-1.is, lt-leb _ _ c.if-last-le1.false)

pub returns-then-last-le3 : goal.returns-then-last-le3
unfolding may_follow_lem
returns-then-last-le3 c = simp (c.in-2.is, le-leb _ _ c.if-last-ge1.true, le-leb _ _ c.if-last-le3.true)

pub returns-else-last-le3 : goal.returns-else-last-le3
unfolding may_follow_lem
returns-else-last-le3 c = simp (c.in-2.is, le-leb _ _ c.if-last-ge1.true, lt-leb _ _ c.if-last-le3.false)

pub returns-else-last-ge1 : goal.returns-else-last-ge1
unfolding may_follow_lem
returns-else-last-ge1 c = simp (c.in-2.is, lt-leb _ _ c.if-last-ge1.false, ne_eqb c.args.last 7 (λ e. omega (arith, e, c.if-last-ge1.false)))

pub returns-then-last-ge2 : goal.returns-then-last-ge2
unfolding may_follow_lem
returns-then-last-ge2 c = simp (c.in-3.is, le-leb _ _ c.if-last-ge2.true)

pub returns-else-last-ge2 : goal.returns-else-last-ge2
unfolding may_follow_lem
returns-else-last-ge2 c = simp (c.in-3.is, lt-leb _ _ c.if-last-ge2.false)

pub returns-then-last-le4 : goal.returns-then-last-le4
unfolding may_follow_lem
returns-then-last-le4 c =
    simp (c.in-4.is, c.if-left.true, le-leb _ _ c.if-last-ge1-2.true, le-leb _ _ c.if-last-le4.true)

pub returns-then-last-eq7 : goal.returns-then-last-eq7
unfolding may_follow_lem
returns-then-last-eq7 c =
    simp (c.in-4.is, c.if-left.true, le-leb _ _ c.if-last-ge1-2.true, lt-leb _ _ c.if-last-le4.false, eq-eqb _ _ c.if-last-eq7.true)

pub returns-else-last-eq7 : goal.returns-else-last-eq7
unfolding may_follow_lem
returns-else-last-eq7 c =
    simp (c.in-4.is, c.if-left.true, le-leb _ _ c.if-last-ge1-2.true, lt-leb _ _ c.if-last-le4.false, ne_eqb _ _ c.if-last-eq7.false, and-true)

pub returns-else-last-ge1-2 : goal.returns-else-last-ge1-2
unfolding may_follow_lem
returns-else-last-ge1-2 c =
    simp (
      c.in-4.is,
      c.if-left.true,
      lt-leb _ _ c.if-last-ge1-2.false,
      ne_eqb c.args.last 7 (λ e. omega (arith, e, c.if-last-ge1-2.false)),
      ne_eqb c.args.last 9 (λ e. omega (arith, e, c.if-last-ge1-2.false)),
    )

pub returns-else-left : goal.returns-else-left
unfolding may_follow_lem
returns-else-left c = simp (c.in-4.is, c.if-left.false, and-false)

pub returns-then-last-eq4 : goal.returns-then-last-eq4
unfolding may_follow_lem
returns-then-last-eq4 c = simp (c.in-5.is, eq-eqb _ _ c.if-last-eq4.true)

pub returns-else-last-eq4 : goal.returns-else-last-eq4
unfolding may_follow_lem
returns-else-last-eq4 c = simp (c.in-5.is, ne_eqb _ _ c.if-last-eq4.false)

pub returns-then-last-ge2-2 : goal.returns-then-last-ge2-2
unfolding may_follow_lem
returns-then-last-ge2-2 c = simp (c.in-7.is, le-leb _ _ c.if-last-ge2-2.true)

pub returns-else-last-ge2-2 : goal.returns-else-last-ge2-2
unfolding may_follow_lem
returns-else-last-ge2-2 c = simp (c.in-7.is, lt-leb _ _ c.if-last-ge2-2.false)

pub returns-in-8 : goal.returns-in-8
unfolding may_follow_lem
returns-in-8 c = simp c.in-8.is

pub returns-in_default : goal.returns-in_default
unfolding may_follow_lem
returns-in_default c =
    let r = c.in_default.in_default-own.rest in
    simp (
      ne_eqb _ _ r.0.0.0.0.0.0.1,
      ne_eqb _ _ r.0.0.0.0.0.1,
      ne_eqb _ _ r.0.0.0.0.1,
      ne_eqb _ _ r.0.0.0.1,
      ne_eqb _ _ r.0.0.1,
      ne_eqb _ _ r.0.1,
      ne_eqb _ _ r.1,
    )
