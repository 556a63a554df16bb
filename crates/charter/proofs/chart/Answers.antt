-- `charter::chart` meets its contract: what is loaded is what the file says, and its chart is checked by one of two ways.
-- Assumes nothing.
use mathlib.Core.Path.{◌≡◌}
use native.Mathlib.Omega.{arith}
use Rattle.study.specs.Study.{Study}
use Rattle.study.specs.Reading.{says, reading_for}
use Rattle.tables.specs.Tables.{Holds}
use Rattle.tables.specs.Rows.{seen_all}
use Rattle.tables.proofs.Fresh.{fresh_sized}
use Rattle.stages.specs.Whole.{KnownIn}
use Rattle.planner.proofs.Loading.{loaded_known}
use Rattle.charter.proofs.chart.Goals as goal
use Rattle.charter.proofs.chart.Goals.{In-Ok}

-- what is loaded: a study that the file says
module _ (f : In-Ok) where
  held :
      (t : Study) × (reading_for f.args.file.now f.args.crew ≡ says t)
      × Holds f.args.file.now f.in-Ok.loaded.vars f.in-Ok.loaded.actions f.in-Ok.loaded.seed (seen_all f.load_for.new.acts f.load_for.new.vars f.load_for.new.setters) t
  held = rw f.in-Ok.is at f.load_for.ensures

  abbrev study : Study
  study = held.0

  said : reading_for f.args.file.now f.args.crew ≡ says study
  said = held.1

  known :
      KnownIn f.args.file.now f.in-Ok.loaded.vars f.in-Ok.loaded.actions f.in-Ok.loaded.seed f.load_for.new.acts f.load_for.new.vars f.load_for.new.setters
      study
  known = loaded_known f.args.crew said held.2

pub load_for-requires : goal.load_for-requires
load_for-requires c = fresh_sized

pub returns-in-Err : goal.returns-in-Err
returns-in-Err c =
    let said = rw c.in-Err.is at c.load_for.ensures in
    rw said c.from.ensures

pub chart_many-requires : goal.chart_many-requires
chart_many-requires c =
    let f = (goal.at.chart_many-requires c).In-Ok in
    (study f, c.in-Ok.loaded.seed, known f)

pub returns-then-count-gt-FEW : goal.returns-then-count-gt-FEW
returns-then-count-gt-FEW c =
    let f = (goal.at.returns-then-count-gt-FEW c).In-Ok in
    rw (said f) (c.chart_many.ensures (study f) c.in-Ok.loaded.seed (known f))

pub chart_few-requires : goal.chart_few-requires
chart_few-requires c =
    let f = (goal.at.chart_few-requires c).In-Ok in
    (omega arith, (held f).2.sized.setters, (study f, c.in-Ok.loaded.seed, known f))

pub returns : goal.returns
returns c =
    let f = (goal.at.returns c).In-Ok in
    rw (said f) (c.chart_few.ensures (study f) c.in-Ok.loaded.seed (known f))
