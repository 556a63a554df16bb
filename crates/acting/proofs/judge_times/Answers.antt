-- `acting::judge_times` meets its contract: a set of all the situations is not written, and any other leads on unless it has a fault.
-- Assumes nothing.
use mathlib.Core.Path.{refl}
use borrow.Author.Tests.{eq-eqb, ne_eqb}
use Rattle.study.specs.Study.{always}
use Rattle.judging.specs.Faults.{times_fault_lem}
use Rattle.advancing.specs.Steps.{after_times}
use Rattle.standing.proofs.Kept.{times_kept}
use Rattle.drafts.proofs.Turns.{behind_conditions, behind_situations}
use Rattle.drafts.proofs.Stops.{on_keeps, on_leads}
use Rattle.drafts.proofs.OneRecord.{keeps_unless, times_leads}
use Rattle.acting.proofs.judge_times.Goals as goal

pub returns-then-n-eq255 : goal.returns-then-n-eq255
returns-then-n-eq255 c =
    let (low, high, _) = c.requires in record { by_index = λ counts bounds. on_keeps bounds (behind_conditions low high, refl); by_index_2 = λ file counts rest h. on_leads (rw (eq-eqb c.args.n always c.if-n-eq255.true) at h) }

pub returns : goal.returns
returns c =
    let a = c.args in
    let (low, high, _) = c.requires in
    rw c.judge_times.ensures (record {
      by_index =
          λ counts bounds.
          keeps_unless (λ b. counts) _ a.p (after_times a.p _) (times_fault_lem a.n)
          (λ z. (times_kept bounds _ low high refl, (behind_situations refl, refl)));
      by_index_2 = λ file counts rest h. times_leads a.n low high (rw (ne_eqb a.n always c.if-n-eq255.false) at h);
    })
