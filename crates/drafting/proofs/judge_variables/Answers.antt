-- `drafting::judge_variables` meets its contract: each turn judges one variable, and those behind it come next; without one, what comes behind them is out of turn.
-- Assumes nothing.
use borrow.Enum.Refused.{opened as keys_of}
use Prim.Native.Nat.{◌-◌, ◌≤◌}
use native.Mathlib.Omega.{arith}
use lib.ListN.{length}
use lib.Seq.{drop-length}
use mathlib.Core.Path.{◌≡◌}
use Rattle.drafts.proofs.Turns.{first_variable, next_variable}
use Rattle.drafts.proofs.Stops.{on_keeps, on_leads, refused_keeps, stopped_keeps, stopped_leads}
use Rattle.drafts.proofs.OneRecord.{no_variable}
use Rattle.drafts.proofs.LentBytes.{variable-lent, no_variable_lent}
use Rattle.drafting.proofs.judge_variables.Goals as goal

pub returns-then-variables-eq0 : goal.returns-then-variables-eq0
returns-then-variables-eq0 c =
    record { keeps = refused_keeps; by_index = λ file rest behind h. no_variable rest behind c.requires.1 (rw (no_variable_lent _ rest c.if-variables-eq0.true) at h) }

pub loop-i-init : goal.loop-i-init
loop-i-init c =
    let (bounds, none) = c.requires in
    (bounds, ((first_variable none, λ h. absurd (omega arith), omega arith), λ file rest h. h))

pub judge_variable-step-requires : goal.judge_variable-step-requires
judge_variable-step-requires c = let i = c.loop-i.invariant in (i.0, i.1.0.0)

pub returns-in_default : goal.returns-in_default
returns-in_default c =
    let l = c.loop-i in record {
      keeps = stopped_keeps (keys_of c.in_default.in_default-own.keys2);
      by_index = λ file rest behind h. stopped_leads (keys_of c.in_default.in_default-own.keys2)
          (c.judge_variable-step.ensures.by_index file _ (rw (variable-lent _ l.i rest c.loop-i-test.true) at (l.invariant.1.1 file rest h)));
    }

pub loop-i-preserved : goal.loop-i-preserved
loop-i-preserved c =
    let l = c.loop-i in
    let e = c.judge_variable-step.ensures in
    let k = e.keeps.on _ c.in-On.is in (
      k.0,
      (
        (next_variable k.1.0, λ h. (k.1.0, k.1.1), omega arith),
        λ file rest h. (e.by_index file _ (rw (variable-lent _ l.i rest c.loop-i-test.true) at (l.invariant.1.1 file rest h))).on _ c.in-On.is,
      ),
    )

pub returns : goal.returns
returns c =
    let l = c.loop-i in
    let at : l.i ≡ length c.args.variables.now = omega arith in
    let some : 1 ≤ l.i = omega (arith, c.if-variables-eq0.false) in
    record { keeps = on_keeps l.invariant.0 (l.invariant.1.0.1 some); by_index = λ file rest behind h. on_leads (rw (at, drop-length) at (l.invariant.1.1 file rest h)) }
