-- `mustering::load_for` meets its contract: what was read is what the file says, and the named crew's tasks and seed are taken from where they begin.
-- Assumes nothing.
use mathlib.Core.Path.{◌≡◌, refl, ◌∙◌}
use Prim.Native.Nat.{◌<◌}
use native.Mathlib.Omega.{arith}
use Rattle.study.specs.Reading.{says, reading}
use Rattle.study.specs.Study.{Roster, crew_at, study_of}
use Rattle.tables.specs.Tables.{HoldsRoster, HoldsCrew}
use Rattle.tables.specs.Rows.{field, seen_all}
use Rattle.tables.proofs.Columns.{column_length}
use Rattle.mustering.proofs.Crews.{crew_there, crew_held}
use Rattle.mustering.proofs.load_for.Goals as goal
use Rattle.mustering.proofs.load_for.Goals.{After-wide-place, In_ok-read}

-- what was read, where all crews were
abbrev Told : In_ok-read → Roster → Type 0
Told f r =
    (reading f.args.file.now ≡ says r)
    × HoldsRoster f.args.file.now f.in_ok-read.read.vars f.in_ok-read.read.actions f.in_ok-read.read.crews
    (seen_all f.load.new.acts f.load.new.vars f.load.new.setters)
    f.load.new.crews r

told : (f : In_ok-read) → (r : Roster) × Told f r
told f =
    let (r, said, held) = rw f.in_ok-read.was at (f.load.ensures f.requires refl) in
    (r, (said, held))

-- the named crew is there, and where it begins
abbrev Begun : After-wide-place → Roster → Type 0
Begun w r =
    HoldsCrew w.args.file.now w.wide-place.result w.in_ok-read.read.vars
    (crew_at r.crews w.args.crew)

there : (w : After-wide-place) → w.args.crew < w.in_ok-read.read.crews
there w = omega (arith, w.if-read-crew.false)

begun : (w : After-wide-place) {r : Roster} → ((reading w.args.file.now ≡ says r)
    × HoldsRoster w.args.file.now w.in_ok-read.read.vars w.in_ok-read.read.actions w.in_ok-read.read.crews
    (seen_all w.load.new.acts w.load.new.vars w.load.new.setters)
    w.load.new.crews r) → Begun w r
begun w t = rw w.wide-place.ensures.0 (t.1.crews.crew _ (there w))

pub returns : goal.returns
returns c =
    let (r, t) = told (goal.at.returns c).In_ok-read in
    let long = c.enter_tasks.ensures.vars_len.0 in (
      study_of r (crew_at r.crews _),
      crew_there _ _ t.0 (omega (arith, there (goal.at.returns c).After-wide-place, t.1.crews.count_is)),
      rw (c.seed_at.ensures, c.wide-place.ensures.0, c.enter_tasks.ensures.vars_len.1)
          (crew_held t.1 (there (goal.at.returns c).After-wide-place) (column_length (field 1) _ ∙ long) (column_length (field 2) _ ∙ long) (c.enter_tasks.ensures.holds_tasks _ (begun (goal.at.returns c).After-wide-place t))),
    )
