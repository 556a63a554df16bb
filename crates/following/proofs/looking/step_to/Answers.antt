-- `following::looking::step_to` meets its contract: the difference that wraps is the step round the roll.
-- Assumes nothing.
use Rattle.std.proofs.Common.{arith, eq-eqb, ne_eqb}
use Rattle.replays.specs.Replay.{step_at}
use Rattle.following.proofs.looking.step_to.Goals as goal

pub returns-then-at-eq0 : goal.returns-then-at-eq0
unfolding step_at
returns-then-at-eq0 c = rw (eq-eqb c.args.at 0 c.if-at-eq0.true)

pub returns : goal.returns
unfolding step_at
returns c = rw (ne_eqb c.args.at 0 c.if-at-eq0.false) (omega (arith, c.wrapping_sub_u16.ensures))
