-- `writing::put_crews` meets its contract: at each turn a crew's tasks are put, which end at a place, then its seed and what is behind it.
-- Assumes nothing.
use mathlib.Core.Path.{◌≡◌}
use mathlib.Core.List.{List, [], ◌++◌}
use Prim.Native.Nat.{ℕ, ◌+◌, ◌*◌, ◌/◌, ◌-◌, ◌%◌, ◌<◌}
use native.Mathlib.Omega.{arith}
use native.Mathlib.Decide.{dec_lt}
use lib.Dec.{ltb}
use lib.ListN.{length, get_or, take, drop, length-drop}
use lib.Seq.{length-take-le}
use borrow.Author.Tests.{lt-ltb, le-ltb}
use Rattle.spelling.specs.Lent.{tasks_announced}
use Rattle.spelling.proofs.Chunks.{Chunk, chunk_at}
use Rattle.putting.specs.Put.{Fits, Put}
use Rattle.putting.proofs.Putting.{Left, in_front, first_fits, first_put}
use Rattle.putting.proofs.Entries.{tasks_from, crews_from, seed_bytes, tasks_announced_first, crew_first}
use Rattle.writing.proofs.put_crews.Invariants.{whole}
use Rattle.writing.proofs.put_crews.Goals as goal

-- another entry is one whose bytes are there
another : (k m n : ℕ) → m ≡ n / 5 → n % 5 ≡ 0 → ltb (k + 1) m ≡ ltb (5 * (k + 1)) n
another k m n e whole = from (dec_lt (k + 1) m)
  where
    from : Dec (k + 1 < m) → ltb (k + 1) m ≡ ltb (5 * (k + 1)) n
    from (yes more) = rw (lt-ltb (k + 1) m more, lt-ltb (5 * (k + 1)) n (omega arith))
    from (no none) = rw (le-ltb (k + 1) m (omega arith), le-ltb (5 * (k + 1)) n (omega arith))

abbrev its-tasks : List ℕ → ℕ → ℕ → List ℕ
its-tasks tasks used next = tasks_from (take (next - used) (drop used tasks)) 0

module _
    (tasks : List ℕ) (used next : ℕ) {crews crew before now : List ℕ} {k begin at : ℕ}
    (left : Left (whole crews tasks) begin before (crews_from crews tasks (5 * k) used) at now) (c : Chunk 5 crews k crew)
    (e : next ≡ used + 3 * get_or crew 0 0) (all : next + 3 * tasks_announced (drop (5 * (k + 1)) crews) ≡ length tasks) where
  tasks-fit : Fits (whole crews tasks) begin before → Fits (its-tasks tasks used next) at now
  tasks-fit = first_fits left (crew_first c tasks used next e all)

  tasks-put :
      {after : List ℕ} {on : ℕ} → Put (its-tasks tasks used next) at now after on
      → Left (whole crews tasks) begin before (seed_bytes crews crew (5 * (k + 1)) ++ crews_from crews tasks (5 * (k + 1)) next) on after
  tasks-put = first_put left (crew_first c tasks used next e all)

pub slice_bounds-put_tasks-end : goal.slice_bounds-put_tasks-end
slice_bounds-put_tasks-end c =
    let entries = c.as_chunks.ensures in
    let many = tasks_announced_first (chunk_at 5 _ entries.front entries.front_len c.loop-k.k c.loop-k-test.true) in
    omega arith

pub put_tasks-at-requires : goal.put_tasks-at-requires
put_tasks-at-requires c =
    let entries = c.as_chunks.ensures in
    let crew = chunk_at 5 _ entries.front entries.front_len c.loop-k.k c.loop-k-test.true in
    let many = tasks_announced_first crew in
    let next = c.loop-k.used + 3 * c.from.result in (
      omega (arith, length-take-le (next - c.loop-k.used) (drop c.loop-k.used c.args.tasks.now) (omega (arith, length-drop c.loop-k.used c.args.tasks.now))),
      tasks-fit c.args.tasks.now c.loop-k.used next c.loop-k.invariant.left crew (omega arith) (omega arith) c.requires.3,
    )

pub put_seed-at-requires : goal.put_seed-at-requires
put_seed-at-requires c =
    let entries = c.as_chunks.ensures in
    let crew = chunk_at 5 _ entries.front entries.front_len c.loop-k.k c.loop-k-test.true in
    let many = tasks_announced_first crew in
    let put =
    tasks-put c.args.tasks.now c.loop-k.used (c.loop-k.used + 3 * c.from.result) c.loop-k.invariant.left crew (omega arith) (omega arith) c.put_tasks-at.ensures in
    rw (c.kind_behind-behind.ensures, another c.loop-k.k _ _ entries.front_len c.requires.1) (first_fits put (in_front (seed_bytes c.args.crews.now (get_or c.as_chunks.result.0.now c.loop-k.k []) (5 * (c.loop-k.k + 1))) _) c.requires.3)

pub loop-k-preserved : goal.loop-k-preserved
loop-k-preserved c =
    let entries = c.as_chunks.ensures in
    let crew = chunk_at 5 _ entries.front entries.front_len c.loop-k.k c.loop-k-test.true in
    let many = tasks_announced_first crew in
    let put =
    tasks-put c.args.tasks.now c.loop-k.used (c.loop-k.used + 3 * c.from.result) c.loop-k.invariant.left crew (omega arith) (omega arith) c.put_tasks-at.ensures in
    record {
      taken = omega arith;
      left =
          first_put put (in_front (seed_bytes c.args.crews.now (get_or c.as_chunks.result.0.now c.loop-k.k []) (5 * (c.loop-k.k + 1))) _)
          (rw (c.kind_behind-behind.ensures, another c.loop-k.k _ _ entries.front_len c.requires.1) at c.put_seed-at.ensures);
    }
