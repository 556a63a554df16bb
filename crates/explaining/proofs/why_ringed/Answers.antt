-- `explaining::why_ringed` meets its contract: the walk actions left over, those that want each value, and the ring among them.
-- Assumes nothing.
use Prim.Native.Nat.{ℕ}
use native.Mathlib.Omega.{arith}
use mathlib.Core.Path.{refl}
use Rattle.bits.proofs.Members.{fresh_empty}
use Rattle.study.specs.Study.{Study}
use Rattle.tables.specs.Rows.{start_column}
use Rattle.walks.specs.Walks.{Walks, Met}
use Rattle.planning.proofs.Bars.{without_bars_walks}
use Rattle.stages.specs.Whole.{KnownIn}
use Rattle.stages.proofs.Stages.{known_walkable, known_walked}
use Rattle.wanters.proofs.Fresh.{fresh_in_fours, fresh_all_empty}
use Rattle.ringing.specs.Stranded.{Stranded}
use Rattle.explaining.proofs.Ringed.{known_wishes, known_rowed, known_untaken, known_stranded}
use Rattle.explaining.proofs.why_ringed.Goals as goal
use Rattle.explaining.proofs.why_ringed.Goals.{After-note_all}

pub walk_all-walked-requires : goal.walk_all-walked-requires
walk_all-walked-requires c =
    let (t, x, i, known, walks, met, stuck) = c.requires.1 in
    (refl, known_walkable known)

pub returns-in_default : goal.returns-in_default
returns-in_default c =
    record {
      upper_bound = (omega arith, c.requires.0);
      by_index = λ x i t known walks met stuck.
          absurd (without_bars_walks (rw c.in_default.is at (known_walked known (c.walk_all-walked.ensures.walks_all t))) walks);
    }

pub left_over-requires : goal.left_over-requires
left_over-requires c =
    let (t, x, i, known, walks, met, stuck) = c.requires.1 in
    let walked = rw c.in-Ok.is at (known_walked known (c.walk_all-walked.ensures.walks_all t)) in
    (refl, (t, known_untaken _ _ _ known walks met _ walked))

pub note_all-requires : goal.note_all-requires
note_all-requires c =
    let (t, x, i, known, walks, met, stuck) = c.requires.1 in
    (refl, fresh_in_fours, (t, known_wishes _ _ _ known))

-- what is known where the ring is told
stranded :
    (n : After-note_all) (x : ℕ) (t : Study)
    → let a = n.args in
    KnownIn a.file.now a.n a.actions x a.acts.now a.vars.now a.setters.now t → Walks t → Met t
    → Stranded a.file.now (start_column a.vars.now) a.setters.now n.note_all.new.wanters
    n.left_over.new.left t
stranded n x t known walks met =
    let walked = rw n.in-Ok.is at (known_walked known (n.walk_all-walked.ensures.walks_all t)) in
    known_stranded _ _ _ known walks met (n.note_all.ensures.noted t (known_wishes _ _ _ known) fresh_all_empty)
    (n.left_over.ensures.has_just t (known_untaken _ _ _ known walks met _ walked) (fresh_empty 4))

pub ring-requires : goal.ring-requires
ring-requires c =
    let (t, x, i, known, walks, met, stuck) = c.requires.1 in
    (c.requires.0, (t, i, stranded (goal.at.ring-requires c).After-note_all x t known walks met, known_rowed _ _ _ known, stuck))

pub returns : goal.returns
returns c = record {
  upper_bound = c.ring.ensures.upper_bound;
  by_index = λ x i t known walks met stuck.
      c.ring.ensures.circled t i (stranded (goal.at.returns c).After-note_all x t known walks met) (known_rowed _ _ _ known) stuck;
}
