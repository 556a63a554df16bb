-- `putting::put_seed` meets its contract: the six bytes are the seed's record and the kind behind it.
-- Assumes nothing.
use native.Mathlib.Omega.{arith}
use Rattle.spelling.specs.Spelling.{spelled_record}
use Rattle.spelling.proofs.OneSpelling.{seed_spelled}
use Rattle.putting.proofs.put_seed.Goals as goal

pub put-requires : goal.put-requires
unfolding spelled_record
put-requires c = omega arith

pub returns : goal.returns
returns c =
    let a = c.args in
    rw (seed_spelled a.a a.b a.c a.d (omega arith) (omega arith) (omega arith)) c.put.ensures
