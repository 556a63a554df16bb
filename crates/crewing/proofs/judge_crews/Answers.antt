-- `crewing::judge_crews` meets its contract: each turn judges one crew with its tasks and its seed, and those behind it come next; behind one that is not lent whole comes the end.
-- Assumes nothing.
use borrow.Enum.Refused.{opened as keys_of}
use Prim.Native.Nat.{ℕ, ◌+◌, ◌-◌, ◌*◌, ◌≤◌}
use mathlib.Core.Path.{◌≡◌, refl, subst}
use mathlib.Core.Bool.{Bool, true, false}
use mathlib.Core.List.{List}
use native.Mathlib.Omega.{arith}
use lib.ListN.{length}
use borrow.Author.Tests.{ne_eqb, not-true, not-false}
use Rattle.tables.specs.Rows.{count_column}
use Rattle.advancing.specs.declared.Progress.{Progress}
use Rattle.advancing.specs.declared.Step.{Step}
use Rattle.advancing.specs.declared.Step.TheVariants.{On}
use Rattle.spelling.specs.Lists.{crew_records}
use Rattle.spelling.specs.Lent.{errands_in, crews_in}
use Rattle.drafts.specs.Drafts.{Drafted, Keeps, Leads}
use Rattle.drafts.proofs.Turns.{not_far}
use Rattle.drafts.proofs.Stops.{on_keeps, on_leads, stopped_keeps, stopped_leads}
use Rattle.drafts.proofs.LentBytes.{no_crew_lem}
use Rattle.crewing.specs.Crewing.{LentAs}
use Rattle.crewing.proofs.OneCrew.{behind_it, crew_comes}
use Rattle.crewing.proofs.judge_crews.Goals as goal
use Rattle.crewing.proofs.judge_crews.Goals.{After-judge_crew-step}

-- whatever else is kept, the place is near
near : {counts : List ℕ} {P : Progress → Type 0} {r : Step} → Keeps counts P r → Keeps counts (λ q. q.at ≤ 30000) r
near k = record { on = λ q e. ((k.on q e).0, not_far (k.on q e).0) }

-- a crew comes: it is judged
module _ (c : After-judge_crew-step) where
  -- bytes or tasks are left
  some : length c.args.crews.now ≤ c.loop-i.i → length c.args.tasks.now ≤ c.loop-i.used → ⊥
  some x y = grind arith

  leads :
      (whole : Bool) → c.crew_at-lent.result.whole ≡ whole → (file : List ℕ)
      → Drafted file (count_column c.args.rows.now) c.args.begin (crew_records (crews_in c.args.crews.now (errands_in c.args.tasks.now)))
      → Leads file (count_column c.args.rows.now)
      (behind_it c.args.crews.now c.loop-i.i c.args.tasks.now c.loop-i.used c.crew_at-lent.result.many whole) c.judge_crew-step.result
  leads whole e file h =
      c.judge_crew-step.ensures.by_index file _
      (rw (crew_comes c.args.crews.now c.loop-i.i c.args.tasks.now c.loop-i.used c.crew_at-lent.result.many c.crew_at-lent.result.seed whole
      (subst (LentAs _ _ _ _ _) e c.crew_at-lent.ensures) some) at (c.loop-i.invariant.1.1 file h))

  lent-whole : c.crew_at-lent.result.whole ≡ true → c.loop-i.i + 5 ≤ length c.args.crews.now
  lent-whole e = (subst (LentAs c.args.crews.now c.loop-i.i _ _ _) e c.crew_at-lent.ensures).0

  -- where it goes on, its tasks were lent
  fits : {q : Progress} → c.judge_crew-step.result ≡ On q → c.loop-i.used + 3 * c.crew_at-lent.result.many ≤ length c.args.tasks.now
  fits on = (c.judge_crew-step.ensures.keeps.on _ on).1.1

pub loop-i-init : goal.loop-i-init
loop-i-init c = let (bounds, may) = c.requires in (bounds, ((may, omega arith, omega arith), λ file h. h))

pub crew_at-lent-requires : goal.crew_at-lent-requires
crew_at-lent-requires c = c.loop-i.invariant.1.0.1

pub judge_crew-step-requires : goal.judge_crew-step-requires
judge_crew-step-requires c = let i = c.loop-i.invariant in (i.0, i.1.0.0, i.1.0.2)

pub returns-in_default : goal.returns-in_default
returns-in_default c = record { keeps = stopped_keeps (keys_of c.in_default.in_default-own.keys2); by_index = λ file h. stopped_leads (keys_of c.in_default.in_default-own.keys2) (leads (goal.at.returns-in_default c).After-judge_crew-step _ refl file h) }

pub returns-then-not-lent : goal.returns-then-not-lent
returns-then-not-lent c =
    let on = c.in-On.is in record { keeps = subst (Keeps _ _) on (near c.judge_crew-step.ensures.keeps); by_index = λ file h. subst (Leads file _ _) on (leads (goal.at.returns-then-not-lent c).After-judge_crew-step false (not-true _ c.if-not-lent.true) file h) }

pub overflow_mul-used : goal.overflow_mul-used
overflow_mul-used c = omega (arith, c.well_formed, fits (goal.at.overflow_mul-used c).After-judge_crew-step c.in-On.is)

pub overflow_add-used : goal.overflow_add-used
overflow_add-used c = omega (arith, c.well_formed, fits (goal.at.overflow_add-used c).After-judge_crew-step c.in-On.is)

pub loop-i-smaller : goal.loop-i-smaller
loop-i-smaller c =
    omega (arith, lent-whole (goal.at.loop-i-smaller c).After-judge_crew-step (not-false c.crew_at-lent.result.whole c.if-not-lent.false))

pub loop-i-preserved : goal.loop-i-preserved
loop-i-preserved c =
    let on = c.in-On.is in
    let k = c.judge_crew-step.ensures.keeps.on _ on in
    let whole = not-false c.crew_at-lent.result.whole c.if-not-lent.false in
    let later = ne_eqb (c.loop-i.i + 5) 0 (λ z. omega arith) in (
      k.0,
      ((rw later k.1.0, lent-whole (goal.at.loop-i-preserved c).After-judge_crew-step whole, k.1.1), λ file h. (leads (goal.at.loop-i-preserved c).After-judge_crew-step true whole file h).on _ on),
    )

pub returns : goal.returns
returns c =
    let a = c.args in record {
      keeps = on_keeps c.loop-i.invariant.0 (not_far c.loop-i.invariant.0);
      by_index = λ file h.
          on_leads
          (rw (no_crew_lem a.crews.now c.loop-i.i a.tasks.now c.loop-i.used c.if-i-crews.false c.if-used-tasks.false) at (c.loop-i.invariant.1.1 file h));
    }
