-- `explain::why` meets its contract: the number tells which reason is asked for, and what planning answers, that there is one.
-- Assumes nothing.
use native.Mathlib.Omega.{arith}
use mathlib.Core.Path.{◌≡◌, refl}
use Prim.Native.Nat.{ℕ}
use Rattle.orders.proofs.Rings.{ring_behind}
use Rattle.walks.specs.Walks.{OnAWalk, ComesBefore}
use Rattle.tables.proofs.Fresh.{fresh_sized}
use Rattle.planner.proofs.Loading.{loaded_known}
use Rattle.recounting.proofs.Planned.{loads_holds}
use Rattle.explain.proofs.Refused.{seeded_bars, bars_10, bars_11, bars_12, why_10, why_11, why_12}
use Rattle.explain.proofs.why.Goals as goal

pub load_for-requires : goal.load_for-requires
load_for-requires c = fresh_sized

pub returns-in_default : goal.returns-in_default
returns-in_default c =
    let said = rw c.in_default.is at c.load_for.ensures in record { upper_bound = (omega arith, c.requires.0); why = λ t says-it. absurd (let z : ◌≡◌ {A = ℕ} 0 1 = cc in omega arith); by_index = λ n place refused-it. refl }

pub why_broken-requires : goal.why_broken-requires
why_broken-requires c =
    let (t, said, holds) = rw c.in-Ok.is at c.load_for.ensures in
    let known = loaded_known _ said holds in
    let (buffer, plans) = c.requires.2 in
    (c.requires.0, (t, _, _, _, known, (bars_10 (seeded_bars c.args.file.now c.args.crew buffer known.lawful said plans c.requires.1) c.if-number.true).there))

pub returns-then-number : goal.returns-then-number
returns-then-number c =
    let (buffer, plans) = c.requires.2 in
    let loads = rw c.in-Ok.is at c.load_for.ensures in record {
      upper_bound = c.why_broken.ensures.upper_bound;
      why = λ t said.
          let known = loaded_known _ said (loads_holds c.args.file.now c.args.crew t said loads) in
          let l10 = bars_10 (seeded_bars c.args.file.now c.args.crew buffer known.lawful said plans c.requires.1) c.if-number.true in
          let (list, (traced, rows)) = c.why_broken.ensures.by_index _ _ _ t known l10.there in
          (list, (why_10 c.if-number.true traced, rows));
      by_index = λ n place refused-it. absurd (let e = loads.1 in let z : ◌≡◌ {A = ℕ} 0 1 = cc in omega arith);
    }

pub why_off-requires : goal.why_off-requires
why_off-requires c =
    let (t, said, holds) = rw c.in-Ok.is at c.load_for.ensures in
    let known = loaded_known _ said holds in
    let (buffer, plans) = c.requires.2 in
    let (walks, lowest) = bars_11 (seeded_bars c.args.file.now c.args.crew buffer known.lawful said plans c.requires.1) c.if-number-2.true in
    (c.requires.0, (t, _, known, walks, lowest))

pub returns-then-number-2 : goal.returns-then-number-2
returns-then-number-2 c =
    let (buffer, plans) = c.requires.2 in
    let loads = rw c.in-Ok.is at c.load_for.ensures in record {
      upper_bound = c.why_off.ensures.upper_bound;
      why = λ t said.
          let known = loaded_known _ said (loads_holds c.args.file.now c.args.crew t said loads) in
          let (walks, lowest) = bars_11 (seeded_bars c.args.file.now c.args.crew buffer known.lawful said plans c.requires.1) c.if-number-2.true in
          let (list, (past, rows)) = c.why_off.ensures.by_index _ t known walks lowest in
          (list, (why_11 c.if-number-2.true past, rows));
      by_index = λ n place refused-it. absurd (let e = loads.1 in let z : ◌≡◌ {A = ℕ} 0 1 = cc in omega arith);
    }

pub why_ringed-requires : goal.why_ringed-requires
why_ringed-requires c =
    let (t, said, holds) = rw c.in-Ok.is at c.load_for.ensures in
    let known = loaded_known _ said holds in
    let (buffer, plans) = c.requires.2 in
    let ringed = bars_12 (seeded_bars c.args.file.now c.args.crew buffer known.lawful said plans c.requires.1) c.if-number.false c.if-number-2.false in
    (c.requires.0, (t, _, _, known, ringed.walks, ringed.met, ring_behind (OnAWalk t) (ComesBefore t) ringed.on_ring))

pub returns : goal.returns
returns c =
    let (buffer, plans) = c.requires.2 in
    let loads = rw c.in-Ok.is at c.load_for.ensures in record {
      upper_bound = c.why_ringed.ensures.upper_bound;
      why = λ t said.
          let known = loaded_known _ said (loads_holds c.args.file.now c.args.crew t said loads) in
          let ringed = bars_12 (seeded_bars c.args.file.now c.args.crew buffer known.lawful said plans c.requires.1) c.if-number.false c.if-number-2.false in
          let (list, (circled, rows)) =
          c.why_ringed.ensures.by_index _ _ t known ringed.walks ringed.met (ring_behind (OnAWalk t) (ComesBefore t) ringed.on_ring) in
          (list, (why_12 ringed.is_12 ringed.second circled, rows));
      by_index = λ n place refused-it. absurd (let e = loads.1 in let z : ◌≡◌ {A = ℕ} 0 1 = cc in omega arith);
    }
