-- `explain::main` keeps to what it calls: its buffer has one byte more than the longest file.
-- Assumes nothing.
use native.Mathlib.Omega.{arith}
use Rattle.explain.proofs.main.Goals as goal

pub read-n-requires : goal.read-n-requires
read-n-requires c = omega arith
