-- `drafting::judge_present` meets its contract: situation 0 is not written, and any other leads on unless it has a fault.
-- Assumes nothing.
use mathlib.Core.Path.{refl}
use mathlib.Core.Logic.{inl, inr}
use native.Mathlib.Omega.{arith}
use borrow.Author.Tests.{eq-eqb, ne_eqb}
use Rattle.judging.specs.Faults.{present_fault_lem}
use Rattle.judging.proofs.Bounds.{present_bounds}
use Rattle.advancing.specs.Steps.{after_present}
use Rattle.standing.specs.Reads.{origin}
use Rattle.standing.proofs.Kept.{present_kept}
use Rattle.drafts.proofs.Stops.{on_keeps, on_leads}
use Rattle.drafts.proofs.OneRecord.{keeps_unless, present_leads}
use Rattle.drafting.proofs.Starts.{origin_bounds}
use Rattle.drafting.proofs.judge_present.Goals as goal

pub returns-then-n-eq0 : goal.returns-then-n-eq0
returns-then-n-eq0 c = record { by_index = λ counts. on_keeps (origin_bounds counts) (inl refl, omega arith); by_index_2 = λ file counts rest h. on_leads (rw (eq-eqb c.args.n 0 c.if-n-eq0.true) at h) }

pub returns : goal.returns
returns c =
    let n = c.args.n in
    record {
      by_index = rw c.on_present.ensures (λ counts.
          keeps_unless (λ b. counts) _ origin (after_present origin n 2) (present_fault_lem n)
          (λ z. (present_kept (origin_bounds counts) 2 n z refl refl, (inr refl, present_bounds z))));
      by_index_2 = rw c.on_present.ensures (λ file counts rest h. present_leads n refl (rw (ne_eqb n 0 c.if-n-eq0.false) at h));
    }
