-- `riding::test` meets its contract: the rules are tried in their order.
-- Assumes nothing.
use Rattle.riding.proofs.Wrong.{absent, from_high, to_high, stays, twice, right}
use Rattle.riding.proofs.test.Goals.{then-from-gt-HIGHEST-via-then-from-gt-HIGHEST, then-from-gt-HIGHEST-via-else-from-gt-HIGHEST+then-to-gt-HIGHEST}
use Rattle.riding.proofs.test.Goals as goal

pub returns-then-actions-action : goal.returns-then-actions-action
returns-then-actions-action c = let a = c.args in absent a.actions a.again a.action a.from a.to c.if-actions-action.true

pub returns-then-from-gt-HIGHEST : goal.returns-then-from-gt-HIGHEST
returns-then-from-gt-HIGHEST c =
    let a = c.args in
    elim c.then-from-gt-HIGHEST.branch [
      | then-from-gt-HIGHEST-via-then-from-gt-HIGHEST w ↦ from_high a.actions a.again a.action a.from a.to c.if-actions-action.false w.if-from-gt-HIGHEST.true
      | then-from-gt-HIGHEST-via-else-from-gt-HIGHEST+then-to-gt-HIGHEST w ↦
          to_high a.actions a.again a.action a.from a.to c.if-actions-action.false w.if-from-gt-HIGHEST.false w.if-to-gt-HIGHEST.true
    ]

pub returns-then-from-to : goal.returns-then-from-to
returns-then-from-to c =
    let a = c.args in
    stays a.actions a.again a.action a.from a.to c.if-actions-action.false c.if-from-gt-HIGHEST.false c.if-to-gt-HIGHEST.false c.if-from-to.true

pub returns-then-again : goal.returns-then-again
returns-then-again c =
    let a = c.args in
    twice a.actions a.again a.action a.from a.to c.if-actions-action.false c.if-from-gt-HIGHEST.false c.if-to-gt-HIGHEST.false c.if-from-to.false c.if-again.true

pub returns : goal.returns
returns c =
    let a = c.args in
    right a.actions a.again a.action a.from a.to c.if-actions-action.false c.if-from-gt-HIGHEST.false c.if-to-gt-HIGHEST.false c.if-from-to.false c.if-again.false
