-- `tracing::setter` meets its contract: the action that the table names is in force and sets the value, or none does.
-- Assumes nothing.
use mathlib.Core.Path.{◌≡◌, sym, ◌∙◌}
use Prim.Native.Nat.{◌+◌, ◌*◌}
use lib.ListN.{get_or}
use Rattle.tracing.proofs.Setters.{none_named, is_setter, other_set}
use Rattle.tracing.proofs.setter.Goals as goal
use Rattle.tracing.proofs.setter.Goals.{After-wide-i}

named :
    (c : After-wide-i)
    → c.wide-i.result
    ≡ get_or c.args.setters.now (16 * c.args.v + c.args.q) 0
named c = rw c.wide.ensures.0 at c.wide-i.ensures.0

pub returns-then-actions-i : goal.returns-then-actions-i
returns-then-actions-i c t moves = none_named moves (named (goal.at.returns-then-actions-i c).After-wide-i) c.if-actions-i.true

pub returns-then-sets_to : goal.returns-then-sets_to
returns-then-sets_to c t moves =
    is_setter moves (named (goal.at.returns-then-sets_to c).After-wide-i) c.if-actions-i.false (sym c.sets_to.ensures ∙ c.if-sets_to.true)

pub returns : goal.returns
returns c t moves =
    other_set moves (named (goal.at.returns c).After-wide-i) c.if-actions-i.false (sym c.sets_to.ensures ∙ c.if-sets_to.false)
