-- `manning::judge_opening` meets its contract: the first crew has no opening, and that of any other leads on unless it is the ninth.
-- Assumes nothing.
use mathlib.Core.Path.{refl}
use Rattle.judging.specs.Faults.{crew_fault_lem}
use Rattle.advancing.specs.Steps.{after_crew}
use Rattle.standing.proofs.Kept.{crew_kept}
use Rattle.drafts.proofs.Turns.{first_task}
use Rattle.drafts.proofs.Stops.{on_keeps, on_leads}
use Rattle.drafts.proofs.OneRecord.{keeps_unless, crew_leads}
use Rattle.manning.proofs.judge_opening.Goals as goal

pub returns-then-first : goal.returns-then-first
returns-then-first c =
    let may = rw c.if-first.true at c.requires.0 in record { by_index = λ counts bounds. on_keeps bounds may; by_index_2 = λ file counts rest h. on_leads (rw c.if-first.true at h) }

pub returns : goal.returns
returns c =
    let a = c.args in
    let last = rw c.if-first.false at c.requires.0 in
    record {
      by_index = rw c.on_crew.ensures (λ counts bounds.
          keeps_unless (λ b. counts) _ a.p (after_crew a.p _) (crew_fault_lem a.p.crews)
          (λ z. (crew_kept bounds _ z last refl, first_task refl)));
      by_index_2 = rw c.on_crew.ensures (λ file counts rest h. crew_leads last (rw c.if-first.false at h));
    }
