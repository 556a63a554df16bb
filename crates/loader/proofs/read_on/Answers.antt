-- `loader::read_on` meets its contract: each turn takes one record further down the file, and what is still to be read goes on from there.
-- Assumes nothing.
use borrow.Enum.Refused.{opened as keys_of}
use native.Mathlib.Omega.{arith}
use Rattle.tables.specs.Rows.{seen_all}
use Rattle.advancing.proofs.Judged.{not_on}
use Rattle.standing.proofs.Pass.{goes_on}
use Rattle.loader.proofs.Telling.{tells_the_file}
use Rattle.loader.proofs.read_on.Goals as goal

pub loop-next-init : goal.loop-next-init
loop-next-init c = (c.requires, λ h. h)

pub returns-in_default : goal.returns-in_default
returns-in_default c =
    let (safe, reached) = c.loop-next.invariant in
    let n = c.step-taken.new in
    λ h.
    tells_the_file safe (reached h) (seen_all n.acts n.vars n.setters) n.crews c.step-taken.result (λ q e. not_on (keys_of c.in_default.in_default-own.keys2) e)
    (c.step-taken.ensures.further, c.step-taken.ensures.meets) c.told.result c.told.ensures

pub loop-next-smaller : goal.loop-next-smaller
loop-next-smaller c =
    let f = rw c.in-On.is at c.step-taken.ensures.further in
    omega (arith, f.0, f.1.inside)

pub loop-next-preserved : goal.loop-next-preserved
loop-next-preserved c =
    let (safe, reached) = c.loop-next.invariant in
    let further = rw c.in-On.is at c.step-taken.ensures.further in
    let meets = rw c.in-On.is at c.step-taken.ensures.meets in
    (further.1, λ h. goes_on safe (reached h) (further, meets))
