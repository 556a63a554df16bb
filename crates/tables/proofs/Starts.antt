-- The start state, entry after entry.
-- Assumes nothing.
use mathlib.Core.Path.{◌≡◌, ◌∙◌}
use mathlib.Core.List.{List}
use Prim.Native.Nat.{ℕ, ◌+◌, ◌<◌}
use native.Mathlib.Decide.{ℕ_discrete}
use native.Mathlib.Omega.{arith}
use lib.ListN.{get_or, set, length-set}
use lib.Seq.{get_or-set_same, get_or-set_other}
use Rattle.tables.specs.Rows.{Begins}

pub begins_more :
    {v : ℕ} {starts table : List ℕ} → Begins v starts table → v < 32 → {q : ℕ} → q ≡ get_or starts v 0
    → Begins (v + 1) starts (set table v q)
begins_more {v} {starts} {table} b small {q} e =
    record { long = length-set table v q ∙ b.long; start = λ w h. start w h (ℕ_discrete w v) }
  where
    start : (w : ℕ) → w < v + 1 → Dec (w ≡ v) → get_or (set table v q) w 0 ≡ get_or starts w 0
    start w h (yes is) = rw (is, get_or-set_same table v q 0 (omega (arith, b.long))) e
    start w h (no o) = get_or-set_other table v w q 0 o ∙ b.start w (omega arith)
