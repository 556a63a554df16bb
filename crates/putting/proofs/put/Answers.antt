-- `putting::put` meets its contract: the bytes stand between those before the place and those behind them, as a run of stores leaves them.
-- Assumes nothing.
use mathlib.Core.Path.{◌≡◌}
use mathlib.Core.List.{List, ◌++◌, append_assoc}
use Prim.Native.Nat.{ℕ, ◌+◌, ◌≤◌}
use native.Mathlib.Omega.{arith}
use lib.ListN.{length, take, drop}
use lib.Seq.{sets, sets-eq, drop-drop}
use Rattle.putting.proofs.put.Goals as goal

in_the_middle :
    (bytes file : List ℕ) (at n : ℕ) → length bytes ≡ n → at + length bytes ≤ length file
    → take at file ++ (bytes ++ drop n (drop at file)) ≡ sets file at bytes
in_the_middle bytes file at n long fits =
    rw (sets-eq bytes file at fits, long, drop-drop n at file, append_assoc)

pub returns : goal.returns
returns g c = record {
  file = rw c.copy_from_slice.ensures.after (in_the_middle c.args.bytes c.args.file.now c.args.at _ (omega arith) c.requires);
  place = omega arith;
}
