-- What holds at each turn of `ranking::name_all`: the first places are entered.
-- Assumes nothing.
use mathlib.Core.Path.{◌≡◌}
use Prim.Native.Nat.{ℕ, ◌<◌}
use lib.ListN.{length, get_or}
use Rattle.ranks.specs.Ranks.{Apart}
use Rattle.ranking.proofs.name_all.Given as goal

abbrev pub invariant-loop-i : goal.invariant-loop-i
invariant-loop-i l =
    (length l.names ≡ 512) × (Apart l.ranks → (k : ℕ) → k < l.i → (get_or l.ranks k 0 < 256) × (get_or l.names (get_or l.ranks k 0) 0 ≡ k))
