-- `pacing::step` meets its contract: a record that is there and may come is taken, any other is refused.
-- Assumes nothing.
use borrow.Enum.Refused.{opened as keys_of}
use mathlib.Core.Bool.{not}
use mathlib.Core.Path.{ap, ◌≡◌, sym, ◌∙◌}
use Rattle.records.specs.Records.{record_at_lem}
use Rattle.records.specs.declared.Found.TheVariants.{There}
use Rattle.study.proofs.Verdicts.{verdict_not_allowed}
use Rattle.tables.specs.Tables.{Tables}
use Rattle.tables.specs.Rows.{seen_all}
use Rattle.judging.proofs.Tests.{not_taken, not_left}
use Rattle.standing.proofs.Arms.{allowed_is, not_there_arm}
use Rattle.pacing.proofs.step.Goals as goal
use Rattle.pacing.proofs.step.Goals.{In-There, Start}

abbrev held : Start → Tables
held s = seen_all s.args.acts.now s.args.vars.now s.args.setters.now

is-there :
    (c : In-There)
    → record_at_lem c.args.file.now c.args.p.at
    ≡ There c.in-There.kind c.in-There.start c.in-There.next
is-there c = sym c.record_from-found.ensures ∙ c.in-There.is

pub returns-in_default : goal.returns-in_default
returns-in_default c =
    let (further, meets) = not_there_arm c.args.file.now c.args.p (held (goal.at.returns-in_default c).Start) c.args.crews.now _ (sym c.record_from-found.ensures) (keys_of c.in_default.in_default-own.keys2) in
    rw c.not_there.ensures (record { further = further; meets = meets })

pub returns-then-not-may_follow : goal.returns-then-not-may_follow
returns-then-not-may_follow c =
    record { further = tt; meets = λ d s. verdict_not_allowed _ _ d (is-there (goal.at.returns-then-not-may_follow c).In-There) (allowed_is s.knows _ ∙ not_taken c.may_follow.ensures (ap not c.if-not-may_follow.true)) }

pub take-requires : goal.take-requires
take-requires c =
    record { safe = c.requires; by_index = (_, is-there (goal.at.take-requires c).In-There, not_left c.may_follow.ensures (ap not c.if-not-may_follow.false)) }
