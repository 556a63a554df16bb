-- `acting::judge_conditions` meets its contract: each turn judges one condition, and those that are left come next.
-- Assumes nothing.
use borrow.Enum.Refused.{opened as keys_of}
use Prim.Native.Nat.{◌+◌, ◌-◌}
use native.Mathlib.Omega.{arith}
use mathlib.Core.Path.{◌≡◌, refl}
use Rattle.drafts.proofs.Stops.{on_keeps, on_leads, stopped_keeps, stopped_leads}
use Rattle.drafts.proofs.LentBytes.{next-condition, no_condition_lem}
use Rattle.acting.proofs.judge_conditions.Goals as goal

pub loop-left-init : goal.loop-left-init
loop-left-init c = let (bounds, low, high, in_bytes) = c.requires in (bounds, ((low, high, in_bytes, refl, refl), λ file rest h. h))

pub judge_condition-step-requires : goal.judge_condition-step-requires
judge_condition-step-requires c = let (bounds, (sure, _)) = c.loop-left.invariant in (bounds, sure.0, sure.1, sure.2)

pub returns-in_default : goal.returns-in_default
returns-in_default c =
    let l = c.loop-left in
    let here : l.left ≡ l.left - 1 + 1 = omega arith in record {
      keeps = stopped_keeps (keys_of c.in_default.in_default-own.keys2);
      by_index = λ file rest h. stopped_leads (keys_of c.in_default.in_default-own.keys2)
          (c.judge_condition-step.ensures.by_index file _ (rw (next-condition _ l.i l.left (l.left - 1) rest here) at (l.invariant.1.1 file rest h)));
    }

pub overflow_add-i : goal.overflow_add-i
overflow_add-i c = omega (arith, (c.judge_condition-step.ensures.keeps.on _ c.in-On.is).1.1)

pub loop-left-preserved : goal.loop-left-preserved
loop-left-preserved c =
    let l = c.loop-left in
    let here : l.left ≡ l.left - 1 + 1 = omega arith in
    let e = c.judge_condition-step.ensures in
    let k = e.keeps.on _ c.in-On.is in (
      k.0,
      (
        (omega (arith, k.1.0), omega (arith, k.1.0), k.1.1, omega (arith, l.invariant.1.0.3), omega (arith, k.1.2, l.invariant.1.0.4)),
        λ file rest h. (e.by_index file _ (rw (next-condition _ l.i l.left (l.left - 1) rest here) at (l.invariant.1.1 file rest h))).on _ c.in-On.is,
      ),
    )

pub returns : goal.returns
returns c =
    let (bounds, (sure, reached)) = c.loop-left.invariant in
    let none : c.loop-left.left ≡ 0 = omega arith in
    record { keeps = on_keeps bounds (sure.0, sure.1, omega (arith, sure.3), sure.4); by_index = λ file rest h. on_leads (rw (none, no_condition_lem) at (reached file rest h)) }
