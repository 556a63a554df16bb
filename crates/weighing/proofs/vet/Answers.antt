-- `weighing::vet` meets its contract: the list is vetted, and where it is in order, the pairs.
-- Assumes nothing.
use native.Mathlib.Omega.{arith}
use Rattle.listing.proofs.Amiss.{member_low}
use Rattle.weighing.proofs.Known.{known_force}
use Rattle.weighing.proofs.vet.Goals as goal

pub vet_list-requires : goal.vet_list-requires
vet_list-requires c =
    let (t, x, known, plannable) = c.requires.1 in
    record {
      room = omega (arith, known.actions.count, known.lawful.few_actions);
      few_members = member_low _ c.requires.0;
      known = (t, known.actions.count, known_force known);
    }

pub vet_pairs-requires : goal.vet_pairs-requires
vet_pairs-requires c = (c.in-Ok.ensures.set_of, c.requires.1)

pub returns-in-Ok : goal.returns-in-Ok
returns-in-Ok c t x known plannable walks =
    c.vet_pairs.ensures t x known
    (c.in-Ok.ensures.listed t record { plannable = plannable; actions = known.actions.count; force = known_force known; walks = walks })

pub returns-in-Err : goal.returns-in-Err
returns-in-Err c t x known plannable walks =
    c.in-Err.ensures.refused t record { plannable = plannable; actions = known.actions.count; force = known_force known; walks = walks }
