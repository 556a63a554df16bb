-- `ringing::order` meets its contract: by the first rule that applies.
-- Assumes nothing.
use mathlib.Core.Path.{◌≡◌, sym, ◌∙◌}
use Prim.Native.Nat.{◌<◌}
use lib.ListN.{length}
use Rattle.study.specs.Study.{Study}
use Rattle.ringing.specs.Stranded.{Opened, Rowed}
use Rattle.ringing.proofs.Rows.{opened_row}
use Rattle.ringing.proofs.Rules.{by_next, by_sets, by_leaves}
use Rattle.ringing.proofs.order.Goals as goal
use Rattle.ringing.proofs.order.Goals.{After-action_at-other, Joined-else-one-other, else-one-other-via-then-one-other+else-one-other-2, else-one-other-via-else-one-other}

module _ (o : After-action_at-other) (t : Study) (rowed : Rowed o.args.file.now o.args.acts.now t) where
  is-i :
      o.args.i < length t.actions
      → Opened o.args.file.now o.action_at-one.result t o.args.i
  is-i there = opened_row rowed (rw o.wide.ensures.0 at o.action_at-one.ensures) there

  is-j :
      o.args.j < length t.actions → Opened o.args.file.now o.action_at-other.result t o.args.j
  is-j there = opened_row rowed (rw o.wide-2.ensures.0 at o.action_at-other.ensures) there

-- past the first test, the one does not set what the other leaves
sets-other :
    (d : Joined-else-one-other)
    → d.action_at-one.result.var ≡ d.action_at-other.result.var
    → d.action_at-one.result.post ≡ d.action_at-other.result.pre → ⊥
sets-other d e f =
    elim d.else-one-other.branch [
      | else-one-other-via-then-one-other+else-one-other-2 w ↦ w.if-one-other-2.false f
      | else-one-other-via-else-one-other w ↦ w.if-one-other.false e
    ]

pub returns-then-one-other-2 : goal.returns-then-one-other-2
returns-then-one-other-2 c =
    let o = (goal.at.returns-then-one-other-2 c).After-action_at-other in
    record {
      value = c.add.ensures.value;
      facts_after =
          λ t rowed i-there j-there.
          rw (by_next (is-i o t rowed i-there) (is-j o t rowed j-there) c.if-one-other.true c.if-one-other-2.true) at c.add.ensures.facts_after;
    }

pub wants-requires : goal.wants-requires
wants-requires c =
    let (_, _, (t, rowed, i-there, j-there)) = c.requires in
    (t, _, is-j (goal.at.wants-requires c).After-action_at-other t rowed j-there)

pub returns-then-wants : goal.returns-then-wants
returns-then-wants c =
    let o = (goal.at.returns-then-wants c).After-action_at-other in
    record {
      value = c.add-then-wants.ensures.value;
      facts_after =
          λ t rowed i-there j-there.
          rw
          (by_sets (is-i o t rowed i-there) (is-j o t rowed j-there) (sets-other (goal.at.returns-then-wants c).Joined-else-one-other)
          (sym c.if-wants.true ∙ c.wants.ensures t _ (is-j o t rowed j-there)))
          at c.add-then-wants.ensures.facts_after;
    }

pub returns : goal.returns
returns c =
    let o = (goal.at.returns c).After-action_at-other in
    record {
      value = c.add-2.ensures.value;
      facts_after =
          λ t rowed i-there j-there.
          rw
          (by_leaves (is-i o t rowed i-there) (is-j o t rowed j-there) (sets-other (goal.at.returns c).Joined-else-one-other)
          (sym c.if-wants.false ∙ c.wants.ensures t _ (is-j o t rowed j-there)))
          at c.add-2.ensures.facts_after;
    }
