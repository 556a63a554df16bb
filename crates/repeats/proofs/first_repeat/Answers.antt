-- `repeats::first_repeat` meets its contract: at each turn the marks tell what the actions before the entry set, and none of those repeats.
-- Assumes nothing.
use mathlib.Core.Path.{◌≡◌, refl, sym, ◌∙◌}
use Prim.Native.Nat.{◌*◌}
use native.Mathlib.Omega.{arith}
use lib.ListN.{length, length-drop, take}
use borrow.Author.Tests.{not-true, not-false}
use Rattle.std.proofs.lemmas.List.{length-take-le}
use Rattle.spelling.proofs.Chunks.{chunk_at}
use Rattle.repeats.proofs.Places.{place_next, place_behind_first}
use Rattle.repeats.proofs.Looking.{nothing_looked, none_left, found, out_of_force, in_force_and_new}
use Rattle.repeats.proofs.first_repeat.Goals.{then-in_force+else-not-insert, else-in_force}
use Rattle.repeats.proofs.first_repeat.Goals as goal

pub loop-k-init : goal.loop-k-init
loop-k-init c conditions small = nothing_looked _ _ _ _ conditions refl small

pub returns-then-not-insert : goal.returns-then-not-insert
returns-then-not-insert c =
    let entries = c.as_chunks.ensures in
    let entry = chunk_at 5 _ entries.front entries.front_len c.loop-k.k c.loop-k-test.true in
    let first : length (take c.loop-k.k c.as_chunks.result.0.now) ≡ c.loop-k.k = length-take-le c.loop-k.k c.as_chunks.result.0.now (omega arith) in
    let behind = c.place_behind.ensures ∙ place_behind_first c.args.front c.as_chunks.result.0.now c.loop-k.k _ first in
    λ conditions small.
    rw behind
    (found _ _ _ _ (c.loop-k.invariant conditions small) entry (sym c.in_force.ensures ∙ c.if-in_force.true)
    (rw c.from-v.ensures at (not-false _ (sym c.insert.ensures.new ∙ c.if-not-insert.true))))

pub loop-k-preserved : goal.loop-k-preserved
loop-k-preserved c =
    let entries = c.as_chunks.ensures in
    let entry = chunk_at 5 _ entries.front entries.front_len c.loop-k.k c.loop-k-test.true in
    let looked = c.loop-k.invariant in
    let holds = c.in_force.ensures in
    let next = place_next c.args.front c.as_chunks.result.0.now c.loop-k.k refl in
    elim c.if-in_force.branch [
      | then-in_force+else-not-insert w ↦
          let e = w.from-v.ensures in
          rw (w.marks-is, next)
          (λ conditions small.
          in_force_and_new _ _ _ _ (looked conditions small) entry (sym holds ∙ w.if-in_force.true)
          (rw e at (not-true _ (sym w.insert.ensures.new ∙ w.if-not-insert.false))) (λ v q. rw e at (w.insert.ensures.besides v q)))
      | else-in_force w ↦
          rw (w.marks-is, next) (λ conditions small. out_of_force _ _ _ _ (looked conditions small) entry (sym holds ∙ w.if-in_force.false))
    ]

pub returns : goal.returns
returns c =
    λ conditions small.
    none_left _ _ _ _ (omega (arith, length-drop (5 * c.loop-k.k) c.args.actions.now)) (c.loop-k.invariant conditions small)
