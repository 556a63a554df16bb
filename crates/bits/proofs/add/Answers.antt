-- `bits::add` meets its contract: its bit is set in its word, and no other bit of any word changes.
-- Assumes nothing.
use mathlib.Core.Path.{refl}
use mathlib.Core.Bool.{◌||◌}
use native.Mathlib.Omega.{arith}
use borrow.Author.Rules.{rules}
use Rattle.bits.proofs.Members.{changed_member}
use Rattle.bits.proofs.add.Goals as goal

pub returns : goal.returns
returns c =
    let a = c.before.before.args in
    record { long = search rules; members = changed_member ◌||◌ (λ b. refl) a.set.now a.i _ (omega arith) c.with_bit.ensures }
