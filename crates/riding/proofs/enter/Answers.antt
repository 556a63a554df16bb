-- `riding::enter` meets its contract: each turn enters one ride without fault.
-- Assumes nothing.
use Rattle.std.proofs.Common.{rules, arith, ◌<◌, length, ap, sym}
use Rattle.riding.specs.Tables.{fault_told}
use Rattle.riding.proofs.Entering.{none_entered, whole_ride, ends_cut, all_passed, all_hold, ends_wrong, one_entered}
use Rattle.riding.proofs.enter.Goals.{in_default-via-then-bytes-lt3, in_default-via-else-bytes-lt3+else-bytes-lt4}
use Rattle.riding.proofs.enter.Goals as goal

pub loop-k-init : goal.loop-k-init
loop-k-init c = (search rules, search rules, search rules, search (rules, none_entered))

pub returns-in_default-clause-value : goal.returns-in_default-clause-value
returns-in_default-clause-value c =
    let s = c.loop-k.invariant in
    let ((_, (_, long, more)), e, _, _) = c.in-Some.ensures.steps in
    let few : length c.loop-k.k-iterator.iter.rest.now < 3 = elim c.in_default.branch [
      | in_default-via-then-bytes-lt3 w ↦ grind (arith, s.2, long)
      | in_default-via-else-bytes-lt3+else-bytes-lt4 w ↦ absurd (grind (arith, s.2, long))
    ] in
    rw (c.refusal.ensures, e) (sym (ap fault_told (ends_cut s.3 more few)))

pub returns-in-Err-clause-value : goal.returns-in-Err-clause-value
returns-in-Err-clause-value c =
    let s = c.loop-k.invariant in
    let ((_, (split, long, _)), e, _, _) = c.in-Some.ensures.steps in
    let low : c.from-action.result < 256 = omega arith in
    rw (c.refusal-in-Err.ensures, e) (sym (ap fault_told (ends_wrong s.3 (whole_ride c.in-Some.bytes.now split (omega arith)) (rw c.from-action.ensures at low) c.in-Err.rule (rw c.from-action.ensures at c.in-Err.ensures))))

pub loop-k-preserved : goal.loop-k-preserved
loop-k-preserved c =
    let s = c.loop-k.invariant in
    let ((_, (split, _, _)), _, e, _) = c.in-Some.ensures.steps in
    let low : c.from-action.result < 256 = omega arith in (
      search rules,
      search rules,
      search rules,
      rw (e, c.from-action.ensures) (one_entered s.3 (whole_ride c.in-Some.bytes.now split (omega arith)) (rw c.from-action.ensures at low) (sym (rw c.from-action.ensures at c.in_default-tested.ensures))),
    )

pub returns-clause-value : goal.returns-clause-value
returns-clause-value c = ap fault_told (sym (all_passed c.loop-k.invariant.3 c.in-None.ensures.steps.0.1.0))

pub returns-clause-holds : goal.returns-clause-holds
returns-clause-holds c = all_hold c.loop-k.invariant.3 c.in-None.ensures.steps.0.1.0
