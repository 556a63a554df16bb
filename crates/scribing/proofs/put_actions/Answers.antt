-- `scribing::put_actions` meets its contract: at each turn an action's own bytes are put, then its conditions, which end at a place, then its situations.
-- Assumes nothing.
use mathlib.Core.Path.{◌≡◌, refl}
use mathlib.Core.List.{List, [], ◌∷◌, ◌++◌}
use Prim.Native.Nat.{ℕ, ◌+◌, ◌*◌, ◌-◌, ◌≤◌}
use native.Mathlib.Omega.{arith}
use lib.ListN.{length, get_or, take, drop, length-drop}
use lib.Seq.{length-take-le}
use Rattle.study.specs.Study.{always}
use Rattle.putting.specs.Put.{Put}
use Rattle.spelling.proofs.Chunks.{Chunk, chunk_at}
use Rattle.putting.proofs.Putting.{Left, in_front, first_fits, first_put, none_left}
use Rattle.putting.proofs.Entries.{conditions_from, actions_from, unless_bytes, no_action-left, announced_first, action_first}
use Rattle.scribing.proofs.put_actions.Goals as goal

abbrev own : List ℕ → List ℕ
own entry = 2 ∷ get_or entry 0 0 ∷ get_or entry 1 0 ∷ get_or entry 2 0 ∷ []

abbrev its-conditions : List ℕ → ℕ → ℕ → List ℕ
its-conditions conditions used next = conditions_from (take (next - used) (drop used conditions)) 0

abbrev its-situations : List ℕ → List ℕ
its-situations entry = unless_bytes always 7 (get_or entry 3 0)

module _
    (conditions : List ℕ) (used next : ℕ) {actions entry whole before now : List ℕ} {k begin at : ℕ}
    (left : Left whole begin before (actions_from actions conditions (5 * k) used) at now) (c : Chunk 5 actions k entry)
    (e : next ≡ used + 2 * get_or entry 4 0) (few : next ≤ length conditions) where
  own_put :
      {after : List ℕ} {on : ℕ} → Put (own entry) at now after on
      → Left whole begin before (its-conditions conditions used next ++ (its-situations entry ++ actions_from actions conditions (5 * (k + 1)) next)) on after
  own_put = first_put left (action_first c conditions used next e few)

  conditions-put :
      {after later : List ℕ} {on further : ℕ} → Put (own entry) at now after on → Put (its-conditions conditions used next) on after later further
      → Left whole begin before (its-situations entry ++ actions_from actions conditions (5 * (k + 1)) next) further later
  conditions-put put = first_put (own_put put) (in_front (its-conditions conditions used next) _)

pub put-at-requires : goal.put-at-requires
put-at-requires c =
    let entries = c.as_chunks.ensures in
    let entry = chunk_at 5 _ entries.front entries.front_len c.loop-var.var-index c.loop-var-test.true in
    let many = announced_first entry in
    (omega arith, first_fits c.loop-var.invariant.left (action_first entry c.args.conditions.now c.loop-var.used _ refl (omega arith)) c.requires.2)

pub slice_bounds-put_conditions-end : goal.slice_bounds-put_conditions-end
slice_bounds-put_conditions-end c =
    let entries = c.as_chunks.ensures in
    let many = announced_first (chunk_at 5 _ entries.front entries.front_len c.loop-var.var-index c.loop-var-test.true) in
    omega arith

pub put_conditions-at-requires : goal.put_conditions-at-requires
put_conditions-at-requires c =
    let entries = c.as_chunks.ensures in
    let entry = chunk_at 5 _ entries.front entries.front_len c.loop-var.var-index c.loop-var-test.true in
    let many = announced_first entry in
    let next = c.loop-var.used + 2 * c.from.result in
    let put = own_put c.args.conditions.now c.loop-var.used next c.loop-var.invariant.left entry (omega arith) (omega arith) c.put-at.ensures in (
      omega (arith, length-take-le (next - c.loop-var.used) (drop c.loop-var.used c.args.conditions.now) (omega (arith, length-drop c.loop-var.used c.args.conditions.now))),
      first_fits put (in_front (its-conditions c.args.conditions.now c.loop-var.used next) _) c.requires.2,
    )

pub put_unless-at-requires : goal.put_unless-at-requires
put_unless-at-requires c =
    let entries = c.as_chunks.ensures in
    let entry = chunk_at 5 _ entries.front entries.front_len c.loop-var.var-index c.loop-var-test.true in
    let many = announced_first entry in
    let put =
    conditions-put c.args.conditions.now c.loop-var.used (c.loop-var.used + 2 * c.from.result) c.loop-var.invariant.left entry
    (omega arith) (omega arith) c.put-at.ensures c.put_conditions-at.ensures in
    first_fits put (in_front (its-situations (get_or c.as_chunks.result.0.now c.loop-var.var-index [])) _) c.requires.2

pub loop-var-preserved : goal.loop-var-preserved
loop-var-preserved c =
    let entries = c.as_chunks.ensures in
    let entry = chunk_at 5 _ entries.front entries.front_len c.loop-var.var-index c.loop-var-test.true in
    let many = announced_first entry in
    let put =
    conditions-put c.args.conditions.now c.loop-var.used (c.loop-var.used + 2 * c.from.result) c.loop-var.invariant.left entry
    (omega arith) (omega arith) c.put-at.ensures c.put_conditions-at.ensures in
    record {
      taken = omega arith;
      left = first_put put (in_front (its-situations (get_or c.as_chunks.result.0.now c.loop-var.var-index [])) _) c.put_unless-at.ensures;
    }

pub returns : goal.returns
returns c =
    none_left (rw (no_action-left c.args.actions.now c.args.conditions.now (5 * c.loop-var.var-index) c.loop-var.used (omega arith) c.loop-var.invariant.taken) at c.loop-var.invariant.left)
