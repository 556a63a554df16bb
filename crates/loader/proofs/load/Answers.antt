-- `loader::load` meets its contract: the sections that have no fault are taken first, then the end record, or whatever else comes.
-- Assumes nothing.
use mathlib.Core.Path.{◌≡◌, refl}
use mathlib.Core.List.{List}
use Prim.Native.Nat.{ℕ}
use lib.ListN.{length}
use Rattle.tables.specs.Tables.{Sized}
use Rattle.tables.specs.Rows.{seen_all}
use Rattle.standing.specs.Reads.{Safe, origin}
use Rattle.standing.specs.Halfway.{Halfway}
use Rattle.standing.proofs.Arms.{end_verdict}
use Rattle.standing.proofs.Pass.{begins}
use borrow.Author.Rules.{rules}
use Rattle.loader.proofs.Telling.{goes_nowhere, tells_the_file}
use Rattle.loader.proofs.load.Goals as goal
use Rattle.loader.proofs.load.Goals.{After-crews-manned}

safe-at-origin : (file counts : List ℕ) → Safe file origin counts
safe-at-origin file counts = search rules

-- where the sections have been taken, from the tables as they were when the function was called
sections-read :
    (c : After-crews-manned) → Sized (seen_all c.args.acts.now c.args.vars.now c.args.setters.now) → length c.args.crews.now ≡ 8
    → Halfway c.args.file.now (seen_all c.actions-acted.new.acts c.variables-varied.new.rows c.args.setters.now) c.crews-manned.new.begins c.crews-manned.result
sections-read c sized eight =
    c.crews-manned.ensures.halfway _ _ _
    (c.actions-acted.ensures.by_index _ _
    (c.variables-varied.ensures.halfway _ _
    (c.present-placed.ensures.halfway (seen_all c.args.acts.now c.args.vars.now c.args.setters.now) c.args.crews.now (safe-at-origin _ _) (begins _ sized eight))))

pub variables-varied-requires : goal.variables-varied-requires
variables-varied-requires c = (c.present-placed.ensures.by_index _ (safe-at-origin _ _)).0

pub returns-then-at_end : goal.returns-then-at_end
returns-then-at_end c sized eight =
    let safe = c.crews-manned.ensures.safe.0 in
    let (there, may) = c.at_end.ensures c.if-at_end.true in
    let read = sections-read (goal.at.returns-then-at_end c).After-crews-manned sized eight in
    tells_the_file safe read (seen_all c.actions-acted.new.acts c.variables-varied.new.rows c.on_end.new.setters) _ c.on_end.result (goes_nowhere c.on_end.ensures.by_index) (
      c.on_end.ensures.by_index _ _ _,
      λ d stands.
          rw (end_verdict _ _ _ _ (seen_all c.actions-acted.new.acts c.variables-varied.new.rows c.args.setters.now) _ safe there may d stands)
          (c.on_end.ensures.meets _ _ _ _ _ d refl stands),
    ) c.told.result c.told.ensures

pub returns : goal.returns
returns c sized eight = c.read_on.ensures (sections-read (goal.at.returns c).After-crews-manned sized eight)
