-- `following::looking::behind` meets its contract: each return's tests are those of the definition, in its order.
-- Assumes nothing.
use Rattle.std.proofs.Common.{◌+◌, ◌≤◌, length, arith}
use Rattle.following.proofs.Places.{looks_2, looks_1, looks_19}
use Rattle.following.proofs.looking.behind.Goals as goal

pub returns-then-log-at-ne16 : goal.returns-then-log-at-ne16
returns-then-log-at-ne16 c t p place =
    rw c.at.ensures (looks_2 t p _ _ (omega (arith, c.requires.0)) c.if-log-at-ne16.true)

pub returns-then-log-at-lt4 : goal.returns-then-log-at-lt4
returns-then-log-at-lt4 c t p place =
    rw c.at-then-log-at-lt4.ensures (looks_1 t p _ _ (omega (arith, c.requires.0)) c.if-log-at-ne16.false (omega (arith, c.if-log-at-lt4.true, c.requires.0)))

pub returns : goal.returns
returns c t p place =
    let whole : c.args.at + 4 ≤ length c.args.log.now = omega (arith, c.if-log-at-lt4.false, c.requires.0) in
    rw c.at-2.ensures (looks_19 t p _ _ (omega arith) c.if-log-at-ne16.false whole place (c.requires.1 whole))
