-- `finding::trace_back` meets its contract: each turn goes back over one action and keeps `Backward`.
-- Assumes nothing.
use mathlib.Core.Path.{◌≡◌, sym, subst, ◌∙◌}
use mathlib.Core.Bool.{false}
use Prim.Native.Nat.{ℕ, ◌<◌}
use native.Mathlib.Numerals.{add-one}
use native.Mathlib.Omega.{arith}
use lib.ListN.{length}
use Rattle.bits.specs.Bits.{bit}
use Rattle.study.specs.Study.{Study}
use Rattle.tracing.specs.Facts.{MovesIn}
use Rattle.tracing.specs.Steps.{SetterIs}
use Rattle.std.specs.Prelude.{Option}
use Rattle.tracing.proofs.Ranges.{few_actions}
use Rattle.finding.proofs.Backward.{Backward, begins, few_turns, ends_round, ends_unset, further}
use Rattle.finding.proofs.trace_back.Goals as goal
use Rattle.finding.proofs.trace_back.Goals.{After-setter-found, In-Some, In-loop-turn}

backward :
    (i : In-loop-turn)
    → let s = i.args in
    let l = i.loop-turn in
    Backward s.v s.goal s.actions s.setters.now s.acts.now l.facts l.n l.passed l.q l._turn
backward i = i.loop-turn.invariant

has_room : (i : In-loop-turn) → (i.loop-turn.n < 288) × (length i.loop-turn.facts ≡ 288)
has_room i = (omega (arith, (backward i).count), (backward i).sized)

not-passed : (found : After-setter-found) → bit found.loop-turn.passed found.loop-turn.q ≡ false
not-passed found = sym found.holds.ensures ∙ found.if-holds.false

-- .. and what is said of it
setter-is :
    (found : After-setter-found) {x : Option ℕ} → found.setter-found.result ≡ x → (t : Study)
    → let s = found.args in
    MovesIn s.actions s.setters.now s.acts.now t → SetterIs t s.v found.loop-turn.q x
setter-is found e t moves =
    subst (λ (x : Option ℕ). SetterIs t found.args.v found.loop-turn.q x) e
    (rw found.from.ensures at (found.setter-found.ensures t moves))

-- the action that is named
named-low : (f : In-Some) → f.in-Some.i < 256
named-low f =
    let (t, moves) = f.requires.3 in
    omega (
      arith,
      few_actions moves,
      moves.actions,
      ((subst (λ (x : Option ℕ). SetterIs t f.args.v f.loop-turn.q x) f.in-Some.is
          (rw f.from.ensures at (f.setter-found.ensures t moves)))).0.there,
    )

pub loop-turn-init : goal.loop-turn-init
loop-turn-init c = begins c.requires.3 c.add-n.ensures.value.1 c.add-n.ensures.value.0 c.requires.1 c.add-n.ensures.facts_after

pub holds-requires : goal.holds-requires
holds-requires c = omega (arith, (backward c).low)

pub add-requires : goal.add-requires
add-requires c = (omega arith, has_room (goal.at.add-requires c).In-loop-turn)

pub returns-then-holds : goal.returns-then-holds
returns-then-holds c =
    let a = c.add in record { upper_bound = (omega (arith, a.ensures.value.0, has_room (goal.at.returns-then-holds c).In-loop-turn), a.ensures.value.1); traced_from_goal = ends_round (backward (goal.at.returns-then-holds c).In-loop-turn) a.new.facts a.result (sym c.holds.ensures ∙ c.if-holds.true) a.ensures.facts_after }

pub setter-found-requires : goal.setter-found-requires
setter-found-requires c =
    let p = c.requires in
    (omega (arith, c.from.ensures, p.0), (backward (goal.at.setter-found-requires c).In-loop-turn).low, few_actions p.3.1)

pub add-requires-in_default : goal.add-requires-in_default
add-requires-in_default c = (omega arith, has_room (goal.at.add-requires-in_default c).In-loop-turn)

pub returns-in_default : goal.returns-in_default
returns-in_default c =
    record {
      upper_bound = (omega (arith, c.add-in_default.ensures.value.0, has_room (goal.at.returns-in_default c).In-loop-turn), c.add-in_default.ensures.value.1);
      traced_from_goal = ends_unset (backward (goal.at.returns-in_default c).In-loop-turn) c.add-in_default.new.facts c.add-in_default.result (not-passed (goal.at.returns-in_default c).After-setter-found)
          (setter-is (goal.at.returns-in_default c).After-setter-found c.in_default.is) c.add-in_default.ensures.facts_after;
    }

pub action_at-act-requires : goal.action_at-act-requires
action_at-act-requires c = named-low c

pub overflow_cast-set : goal.overflow_cast-set
overflow_cast-set c = omega (arith, named-low (goal.at.overflow_cast-set c).In-Some)

pub add-n-requires-in-loop-turn : goal.add-n-requires-in-loop-turn
add-n-requires-in-loop-turn c = (omega arith, has_room (goal.at.add-n-requires-in-loop-turn c).In-loop-turn)

pub with_bit-passed-requires : goal.with_bit-passed-requires
with_bit-passed-requires c = omega (arith, (backward (goal.at.with_bit-passed-requires c).In-loop-turn).low)

pub loop-turn-preserved : goal.loop-turn-preserved
loop-turn-preserved c =
    let b = c.add-n-in-loop-turn in
    rw add-one
    (further (backward (goal.at.loop-turn-preserved c).In-loop-turn) b.new.facts b.result (not-passed (goal.at.loop-turn-preserved c).After-setter-found) (setter-is (goal.at.loop-turn-preserved c).After-setter-found c.in-Some.is)
    c.action_at-act.ensures.pre b.ensures.value.0 b.ensures.value.1 b.ensures.facts_after c.with_bit-passed.ensures)

pub returns : goal.returns
returns c = absurd (omega (arith, few_turns c.loop-turn.invariant, c.loop-turn-test.false))
