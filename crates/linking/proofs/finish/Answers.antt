-- `linking::finish` meets its contract: each turn puts a number on the path, or finishes the top and takes it off, or meets the path again.
-- Assumes nothing.
use mathlib.Core.Path.{◌≡◌, refl, sym, ◌∙◌}
use mathlib.Core.Bool.{false}
use mathlib.Core.List.{List, ◌∷◌}
use Prim.Native.Nat.{ℕ, ◌-◌, ◌<◌}
use native.Mathlib.Omega.{arith}
use lib.ListN.{get_or}
use Rattle.bits.specs.Bits.{within}
use Rattle.linking.proofs.Searching.{Going, going_begins, has_top, path_fits}
use Rattle.linking.proofs.Searching.{going_off, off_fewer, going_round, path_room, going_on, on_fewer}
use Rattle.linking.proofs.finish.Goals as goal
use Rattle.linking.proofs.finish.Goals.{Else-contains, In-Some, In-loop-depth}

-- the top stands where the code reads it
the-top : (i : In-loop-depth)
    → let l = i.loop-depth in (rest : List ℕ) × Going i.args.root i.args.rows.now i.args.done.now l.rows l.done l.path l.begun l.depth
    (get_or l.path (l.depth - 1) 0 ∷ rest)
the-top i = has_top i.loop-depth.invariant.0 i.loop-depth.invariant.1 i.loop-depth-test.true

next_low : (s : In-Some) → s.in-Some.next < 256
next_low s = omega arith

fresh : (e : Else-contains) → within e.loop-depth.begun e.in-Some.next ≡ false
fresh e = sym e.contains.ensures ∙ e.if-contains.false

path-left : (e : Else-contains) → e.loop-depth.depth < 256
path-left e =
    path_room ((has_top e.loop-depth.invariant.0 e.loop-depth.invariant.1 e.loop-depth-test.true)).1 e.in-Some.ensures (omega arith) (fresh e)

pub loop-depth-init : goal.loop-depth-init
loop-depth-init c =
    (_, going_begins c.args.path.now c.requires.0 c.requires.1 c.requires.2 c.requires.3 c.add.ensures)

pub bounds-path-depth : goal.bounds-path-depth
bounds-path-depth c = omega (arith, path_fits c.loop-depth.invariant.1)

pub returns-then-contains-clause-ring : goal.returns-then-contains-clause-ring
returns-then-contains-clause-ring c =
    let met = sym c.contains.ensures ∙ c.if-contains.true in
    let (_, g) = the-top (goal.at.returns-then-contains-clause-ring c).In-loop-depth in
    λ before partly. going_round g c.in-Some.ensures (next_low (goal.at.returns-then-contains-clause-ring c).In-Some) met before partly

pub bounds-path-depth-in-Some : goal.bounds-path-depth-in-Some
bounds-path-depth-in-Some c = path-left (goal.at.bounds-path-depth-in-Some c).Else-contains

pub overflow_add-depth : goal.overflow_add-depth
overflow_add-depth c = omega (arith, path-left (goal.at.overflow_add-depth c).Else-contains)

pub loop-depth-smaller-in-Some : goal.loop-depth-smaller-in-Some
loop-depth-smaller-in-Some c =
    on_fewer (the-top (goal.at.loop-depth-smaller-in-Some c).In-loop-depth).1 c.in-Some.ensures (next_low (goal.at.loop-depth-smaller-in-Some c).In-Some) (fresh (goal.at.loop-depth-smaller-in-Some c).Else-contains) c.add-in-Some.ensures

pub loop-depth-preserved-in-Some : goal.loop-depth-preserved-in-Some
loop-depth-preserved-in-Some c =
    (_, going_on (the-top (goal.at.loop-depth-preserved-in-Some c).In-loop-depth).1 c.in-Some.ensures (next_low (goal.at.loop-depth-preserved-in-Some c).In-Some) (fresh (goal.at.loop-depth-preserved-in-Some c).Else-contains) c.add-in-Some.ensures)

pub loop-depth-smaller : goal.loop-depth-smaller
loop-depth-smaller c =
    off_fewer (the-top (goal.at.loop-depth-smaller c).In-loop-depth).1 c.in-None.ensures refl c.add-in-None.ensures

pub loop-depth-preserved : goal.loop-depth-preserved
loop-depth-preserved c =
    let top = the-top (goal.at.loop-depth-preserved c).In-loop-depth in
    (_, going_off top.1 c.in-None.ensures refl c.add-in-None.ensures c.gather.ensures)
