-- `hanging::hang` meets its contract: with nothing missing the number is ready, else it hangs on the lowest that is missing.
-- Assumes nothing.
use mathlib.Core.Path.{◌∙◌}
use native.Mathlib.Omega.{arith}
use lib.ListN.{length-set}
use Rattle.hanging.proofs.Settling.{hangs_free, hangs_on}
use Rattle.hanging.proofs.hang.Goals as goal

pub returns-then-missing-eq0 : goal.returns-then-missing-eq0
returns-then-missing-eq0 c =
    record {
      hung_len = c.requires.1;
      hangs = hangs_free c.args.y c.args.before.now c.args.left c.args.ready c.common-missing.result _ c.common-missing.ensures
          c.if-missing-eq0.true c.with_bit.result c.with_bit.ensures;
    }

pub returns : goal.returns
returns c =
    let hung = c.args.hung.now in record {
      hung_len = length-set hung _ _ ∙ c.requires.1;
      hangs = hangs_on c.args.y c.args.before.now c.args.left c.args.ready c.common-missing.result hung c.common-missing.ensures
          c.lowest-x.result c.with_bit-2.result c.lowest-x.ensures.there (omega (arith, c.lowest-x.ensures.room, c.requires.1))
          c.with_bit-2.ensures;
    }
