-- `facts::add` meets its contract: the rows before stay, and the new one follows them.
-- Assumes nothing.
use native.Mathlib.Numerals.{add-one}
use native.Mathlib.Omega.{arith}
use lib.Seq.{take-suc-set}
use borrow.Author.Rules.{rules}
use Rattle.facts.proofs.add.Goals as goal

pub returns : goal.returns
returns g c = record { value = search rules; facts_after = rw add-one (take-suc-set c.args.facts.now c.args.n _ (omega arith)) }
