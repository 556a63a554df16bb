-- `charter::ready_many` meets its contract: a variable with no walk is refusal 10, a condition off its walk 11, a ring 12; else there is a plan, and the walk actions are gathered.
-- Assumes nothing.
use Prim.Native.Nat.{ℕ}
use native.Mathlib.Omega.{arith}
use mathlib.Core.Path.{refl}
use lib.ListN.{length}
use Rattle.plain.proofs.Lists.{all_zeros}
use Rattle.ranks.specs.Ranks.{rising}
use Rattle.study.specs.Study.{Study}
use Rattle.stages.specs.Whole.{KnownIn, WalkingIn, WantsCountedIn}
use Rattle.stages.proofs.Stages.{rowed_walks, known_walkable, known_walked, given_walking, walking_rowed, walking_counted}
use Rattle.charts.specs.Answers.{no_walk, off_walk_lem, ring}
use Rattle.vetting.proofs.Few.{given_rising}
use Rattle.weighing.proofs.Known.{known_wishes}
use Rattle.charter.proofs.ready_many.Goals as goal
use Rattle.charter.proofs.ready_many.Goals.{In-Ok, In_default}

-- what is known of the tables' study once the walks are entered
walking_of :
    (m : In-Ok) (t : Study) (x : ℕ)
    → KnownIn m.args.file.now m.args.n m.args.count x m.args.acts.now m.args.vars.now m.args.setters.now t
    → WalkingIn m.args.file.now (rising m.args.count) m.args.n m.in-Ok.total m.args.acts.now m.args.vars.now m.args.setters.now m.walk_all-walked.new.steps t
walking_of m t x known = given_walking (given_rising known) (known_walked known (m.walk_all-walked.ensures.walks_all t)) m.in-Ok.is

-- .. and the conditions are on walks
counted_of :
    (e : In_default) (t : Study) (x : ℕ)
    → KnownIn e.args.file.now e.args.n e.args.count x e.args.acts.now e.args.vars.now e.args.setters.now t
    → WantsCountedIn e.args.file.now e.args.n (length (rising e.args.count)) e.in-Ok.total e.args.acts.now e.args.vars.now e.walk_all-walked.new.steps e.want_all.new.wants t
counted_of e t x known =
    let walking = given_walking (given_rising known) (known_walked known (e.walk_all-walked.ensures.walks_all t)) e.in-Ok.is in
    let (met, counts) = rw e.in_default.is at (e.want_all.ensures.wants_all t (known_wishes known) (walking_rowed walking)) in
    walking_counted walking _ met counts

pub walk_all-walked-requires : goal.walk_all-walked-requires
walk_all-walked-requires c =
    let (t, x, known) = c.requires.2 in
    (refl, known_walkable known)

pub returns-in-Err : goal.returns-in-Err
returns-in-Err c =
    let e = c.in-Err.is in
    let told = c.unwalked.ensures in
    record {
      members_len = c.requires.0;
      charts = λ t x known chart.
          rw told (no_walk (rw e at (known_walked known (c.walk_all-walked.ensures.walks_all t))));
      plannable = λ t x known. tt;
    }

pub want_all-requires : goal.want_all-requires
want_all-requires c =
    let (t, x, known) = c.requires.2 in
    (refl, all_zeros 512, (t, known_wishes known))

pub returns-in-Err-want_all : goal.returns-in-Err-want_all
returns-in-Err-want_all c =
    let e = c.in-Err-want_all.is in
    let told = c.unmet.ensures in
    record {
      members_len = c.requires.0;
      charts = λ t x known chart.
          let walking = walking_of (goal.at.returns-in-Err-want_all c).In-Ok t x known in
          let off = rw e at (c.want_all.ensures.wants_all t (known_wishes known) (walking_rowed walking)) in
          rw told (off_walk_lem (rowed_walks walking.variables walking.rowed) off);
      plannable = λ t x known. tt;
    }

pub sweep-taken-requires : goal.sweep-taken-requires
sweep-taken-requires c =
    let (t, x, known) = c.requires.2 in
    (c.want_all.ensures.wants_len, (t, _, counted_of (goal.at.sweep-taken-requires c).In_default t x known))

pub returns-then-taken-total : goal.returns-then-taken-total
returns-then-taken-total c =
    record {
      members_len = c.requires.0;
      charts = λ t x known chart.
          let counted = counted_of (goal.at.returns-then-taken-total c).In_default t x known in
          let ((y, on_ring), free) = (c.sweep-taken.ensures t _ counted).fewer (omega arith) in
          rw c.refusal.ensures (ring counted.orderly.walks counted.orderly.met on_ring free);
      plannable = λ t x known. tt;
    }

pub gather_walks-requires : goal.gather_walks-requires
gather_walks-requires c =
    let (t, x, known) = c.requires.2 in
    (c.requires.0, c.requires.1, (t, _, known_wishes known))

pub returns : goal.returns
returns c =
    record {
      members_len = c.gather_walks.ensures.members_len;
      charts = λ t x known. tt;
      plannable = λ t x known.
          let walking = walking_of (goal.at.returns c).In-Ok t x known in
          let swept = c.sweep-taken.ensures t _ (counted_of (goal.at.returns c).In_default t x known) in
          (swept.all (omega (arith, swept.most)), c.gather_walks.ensures.set_of_walks t _ (known_wishes known) (walking_rowed walking));
    }
