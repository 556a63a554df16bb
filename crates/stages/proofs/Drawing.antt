-- The list that a known study's seed draws: it stands in the front of the lent ranks, and is a rank list.
-- Assumes nothing.
use mathlib.Core.Path.{◌≡◌, ◌∙◌}
use mathlib.Core.List.{List, ◌++◌}
use Prim.Native.Nat.{ℕ, ◌≤◌}
use native.Mathlib.Omega.{arith}
use lib.ListN.{length, take, drop, replicate}
use lib.Seq.{take_at}
use Rattle.ranking.specs.Ranking.{tested}
use Rattle.std.specs.Prelude.{Ok}
use Rattle.ranking.proofs.Fine.{rank_list_is_fine}
use Rattle.study.specs.Study.{Study}
use Rattle.tables.specs.Tables.{ActionTables}
use Rattle.draw.specs.Draw.{drawn, draw_leaves}
use Rattle.draw.proofs.Drawn.{drawn_is_rank_list, not_refused}
use Rattle.stages.specs.Whole.{Known}

pub drawn_fine : (seed a : ℕ) → tested (drawn seed a) a ≡ Ok tt
drawn_fine seed a = rank_list_is_fine (drawn_is_rank_list seed a)

-- a seed in range leaves its list in the front of the ranks, whatever stood there
pub drawn-stands :
    (seed a : ℕ) → 1 ≤ seed → seed ≤ 2147483646 → a ≤ 256 → (before ranks : List ℕ) → a ≤ length before → ranks ≡ draw_leaves seed a before
    → take a ranks ≡ drawn seed a
drawn-stands seed a low high few before ranks enough e =
    front ∙ take_at (drawn seed a) (drop a before) a (drawn_is_rank_list seed a).an_entry_for_each
  where
    front : take a ranks ≡ take a (drawn seed a ++ drop a before)
    front = rw (e, not_refused seed a (length before) low high few enough)

module _
    {file : List ℕ} {n a x : ℕ} {acts : ActionTables} {starts goals : List ℕ} {t : Study}
    (known : Known file n a x acts starts goals t)
  where
    pub drawn_in_front : (ranks : List ℕ) → ranks ≡ draw_leaves x a (replicate 256 0) → take a ranks ≡ drawn x a
    drawn_in_front =
        λ ranks.
        drawn-stands x a (omega (arith, known.seed, known.lawful.seed_low)) (omega (arith, known.seed, known.lawful.seed_high))
        known.actions.few (replicate 256 0) ranks known.actions.few
