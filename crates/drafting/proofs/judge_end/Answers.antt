-- `drafting::judge_end` meets its contract: the end comes behind a seed only; an action that repeats an earlier one is refused with 7, a variable that nobody uses with 21, and without either the file loads.
-- Assumes nothing.
use mathlib.Core.Path.{sym, subst}
use native.Mathlib.Omega.{arith}
use borrow.Author.Tests.{ne_eqb}
use Rattle.bits.specs.Bits.{LowestClear}
use Rattle.study.specs.Reading.{end, may_follow_lem}
use Rattle.standing.proofs.Unused.{unused_is, none_is_unused}
use Rattle.drafts.proofs.OneRecord.{out_of_turn}
use Rattle.drafting.proofs.Ends.{loads, unused_there, repeats_there}
use Rattle.drafting.proofs.judge_end.Goals as goal
use Rattle.drafting.proofs.judge_end.Goals.{After-wide-unused}

pub returns-then-p-ne5 : goal.returns-then-p-ne5
unfolding may_follow_lem
returns-then-p-ne5 c = λ l counts h repeated. out_of_turn end h (ne_eqb c.args.p.last 5 c.if-p-ne5.true)

pub returns-in-Some : goal.returns-in-Some
returns-in-Some c = λ l counts h repeated. repeats_there l h c.if-p-ne5.false c.in-Some.place (rw c.in-Some.is at repeated)

-- the number that is compared is the lowest bit that is clear
lowest : (c : After-wide-unused) → LowestClear 64 c.args.p.used c.wide-unused.result
lowest c = subst (LowestClear 64 _) (sym c.wide-unused.ensures.0) c.lowest_clear.ensures

pub returns-then-unused-p : goal.returns-then-unused-p
returns-then-unused-p c =
    λ l counts h repeated.
    unused_there l h c.if-p-ne5.false (rw c.in_default.is at repeated) (unused_is h.knows (lowest (goal.at.returns-then-unused-p c).After-wide-unused) c.if-unused-p.true)

pub returns : goal.returns
returns c =
    λ l counts h repeated.
    loads l h c.if-p-ne5.false (rw c.in_default.is at repeated) (none_is_unused h.knows (lowest (goal.at.returns c).After-wide-unused) (omega (arith, c.if-unused-p.false)))
