-- `vetting::vet_list` meets its contract: too many actions or pairs, an entry that may not be used, an action amiss; else the list is in order.
-- Assumes nothing.
use mathlib.Core.Path.{refl}
use native.Mathlib.Omega.{arith}
use Rattle.charts.specs.Charts.{chart_of}
use Rattle.charts.specs.Answers.{too_many_actions, too_many_pairs}
use Rattle.vetting.proofs.Vetting.{found_unusable, found_amiss, found_listed}
use Rattle.vetting.proofs.vet_list.Goals as goal

pub returns-then-actions-gt-MOST_ACTIONS : goal.returns-then-actions-gt-MOST_ACTIONS
returns-then-actions-gt-MOST_ACTIONS g c =
    record { refused = λ t told. rw c.refusal.ensures (too_many_actions told.plannable (omega arith)); listed = λ t told. tt; set_of = tt }

pub returns-then-many-gt-MOST_PAIRS : goal.returns-then-many-gt-MOST_PAIRS
returns-then-many-gt-MOST_PAIRS g c =
    let many = c.many_pairs-many.ensures c.args.pairs.now refl in
    record {
      refused = λ t told. rw (c.refusal-then-many-gt-MOST_PAIRS.ensures, ← many) (too_many_pairs told.plannable (omega arith) (omega (arith, many)));
      listed = λ t told. tt;
      set_of = tt;
    }

pub returns-in-Some : goal.returns-in-Some
returns-in-Some g c =
    let many = c.many_pairs-many.ensures c.args.pairs.now refl in
    record {
      refused = λ t told.
          rw c.refusal-in-Some.ensures
          (found_unusable (chart_of c.args.actions.now c.args.pairs.now) told.plannable (omega arith) (omega (arith, many))
          (c.in-Some.ensures.finds_unusable t told.actions told.force) c.in-Some.ensures.there);
      listed = λ t told. tt;
      set_of = tt;
    }

pub lowest_amiss-requires : goal.lowest_amiss-requires
lowest_amiss-requires g c =
    let (t, actions, force) = c.requires.known in
    let usable = (c.in_default.ensures.finds_unusable t actions force).all refl in
    record { entries = λ k h. omega (arith, (usable k h).there, actions, c.requires.room); few_members = c.requires.few_members }

pub returns-in-Some-lowest_amiss : goal.returns-in-Some-lowest_amiss
returns-in-Some-lowest_amiss g c =
    let many = c.many_pairs-many.ensures c.args.pairs.now refl in
    record {
      refused = λ t told.
          rw c.refusal-in-Some-lowest_amiss.ensures
          (found_amiss (chart_of c.args.actions.now c.args.pairs.now) told.plannable (omega arith) (omega (arith, many))
          (c.in_default.ensures.finds_unusable t told.actions told.force) refl (c.in-Some-lowest_amiss.ensures.finds_amiss t told.walks) (omega arith));
      listed = λ t told. tt;
      set_of = tt;
    }

pub returns : goal.returns
returns g c =
    let many = c.many_pairs-many.ensures c.args.pairs.now refl in
    record {
      refused = λ t told. tt;
      listed = λ t told.
          found_listed (chart_of c.args.actions.now c.args.pairs.now) told.plannable (omega arith) (omega (arith, many))
          (c.in_default.ensures.finds_unusable t told.actions told.force) refl (c.in_default-lowest_amiss.ensures.finds_amiss t told.walks) refl;
      set_of = c.in_default-lowest_amiss.ensures.set_of refl;
    }
