-- Copying the front of one list over the front of another, one entry at a time.
-- Assumes nothing.
use mathlib.Core.Path.{◌≡◌}
use mathlib.Core.List.{List, ◌++◌}
use Prim.Native.Nat.{ℕ, ◌+◌, ◌<◌}
use native.Mathlib.Numerals.{add-one}
use native.Mathlib.Omega.{arith}
use lib.ListN.{length, get_or, take, drop, set}
use lib.Seq.{take-suc, drop-cons, set_at, append_snoc, length-take-le}

pub copied_one_more :
    (from to : List ℕ) (k : ℕ) → k < length from → k < length to
    → set (take k from ++ drop k to) k (get_or from k 0) ≡ take (k + 1) from ++ drop (k + 1) to
copied_one_more from to k h g =
    rw (
      add-one k,
      drop-cons to k 0 g,
      set_at (take k from) (get_or to k 0) _ (get_or from k 0) k (length-take-le k from (omega arith)),
      take-suc from k 0 h,
      append_snoc,
    )
