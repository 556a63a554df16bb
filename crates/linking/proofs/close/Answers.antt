-- `linking::close` meets its contract: one root after another is finished, until all that a link leaves are done.
-- Assumes nothing.
use mathlib.Core.Path.{refl, sym}
use mathlib.Core.Bool.{true≢false}
use native.Mathlib.Omega.{arith}
use Rattle.bits.proofs.Members.{fresh_empty}
use Rattle.std.specs.Prelude.{Result, Ok, Err, IsErr}
use Rattle.linking.specs.Linking.{Rows, Closes, circle}
use Rattle.linking.specs.Passing.{Ring}
use Rattle.linking.specs.declared.Circle.{Circle}
use Rattle.linking.proofs.Sets.{all_inside, missing_fewer}
use Rattle.linking.proofs.Finishing.{linked_low, partly_begins, all_closed}
use Rattle.linking.proofs.close.Goals as goal

-- any error says that there is a circle
any_circle : (before after : Rows) → Ring before → (r : Result (Unit {0}) Circle) → IsErr r → Closes before after r
any_circle before after ring (Ok _) e = absurd (true≢false (sym e))
any_circle before after ring (Err _) e = circle ring.1

pub loop-root-init : goal.loop-root-init
loop-root-init c = (c.requires.0, refl, refl, partly_begins c.args.rows.now _ (fresh_empty 4))

pub returns-in_err-finish : goal.returns-in_err-finish
returns-in_err-finish c = record {
  shaped = c.in_err-finish.ensures.shaped.0;
  closes = any_circle _ _ (c.in_err-finish.ensures.ring _ c.loop-root.invariant.3) c.from_residual.result c.from_residual.ensures.0;
}

pub loop-root-smaller : goal.loop-root-smaller
loop-root-smaller c =
    let made = c.in_ok-finish.ensures.finishes in
    missing_fewer c.loop-root.done _ made.stays c.in-Some.root (omega arith) (c.in-Some.ensures.outside (omega arith)) made.reached

pub returns-clause-closes : goal.returns-clause-closes
returns-clause-closes c =
    let inv = c.loop-root.invariant in
    all_closed inv.3 (λ x y h. all_inside c.in_default.ensures refl x (linked_low c.requires.0 x y h) (c.requires.1 x y h))
