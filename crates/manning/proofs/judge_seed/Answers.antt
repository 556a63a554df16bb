-- `manning::judge_seed` meets its contract: a seed whose turn it is not is refused with 3, any other by its fault, and without one it leads on.
-- Assumes nothing.
use mathlib.Core.Bool.{not}
use mathlib.Core.Path.{ap}
use mathlib.Core.Path.{refl}
use Rattle.study.specs.Reading.{seed}
use Rattle.judging.specs.Faults.{seed_fault_lem}
use Rattle.judging.proofs.Tests.{not_taken, not_left}
use Rattle.advancing.specs.Steps.{after_seed}
use Rattle.standing.proofs.Kept.{seed_kept}
use Rattle.drafts.proofs.Turns.{task_early}
use Rattle.drafts.proofs.Stops.{refused_keeps}
use Rattle.drafts.proofs.OneRecord.{keeps_unless, not_in_turn, seed_leads}
use Rattle.manning.proofs.judge_seed.Goals as goal

pub returns-then-not-may_follow : goal.returns-then-not-may_follow
returns-then-not-may_follow c = record { by_index = λ counts bounds. refused_keeps; by_index_2 = λ file counts rest h. not_in_turn (seed _) h (not_taken c.may_follow.ensures (ap not c.if-not-may_follow.true)) }

pub returns : goal.returns
returns c =
    let a = c.args in
    record {
      by_index = rw c.judge_seed.ensures (λ counts bounds.
          keeps_unless (λ b. counts) _ a.p (after_seed a.p _) (seed_fault_lem a.n)
          (λ z. (seed_kept bounds _ (task_early c.requires.0) refl, refl)));
      by_index_2 = rw c.judge_seed.ensures (λ file counts rest h. seed_leads a.n (not_left c.may_follow.ensures (ap not c.if-not-may_follow.false)) h);
    }
