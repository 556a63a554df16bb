-- The circle that a path ends in: its orders, one after another, and that it is what is told of refusal 12.
-- Assumes nothing.
use mathlib.Core.Path.{◌≡◌, refl, sym, ap, ◌∙◌}
use mathlib.Core.List.{List, [], ◌∷◌, ◌++◌, map-append}
use Prim.Native.Nat.{ℕ, suc, ◌+◌, ◌≤◌, ◌<◌}
use native.Mathlib.Numerals.{add-one}
use native.Mathlib.Omega.{arith}
use lib.ListN.{length, get_or, take, drop}
use lib.Seq.{length-take-le, get_or-take, take-suc, drop-cons, drop-append-le, slice, slice_empty, split_at}
use Rattle.study.specs.Study.{Study}
use Rattle.orders.proofs.Lists.{entry_in}
use Rattle.tables.specs.Rows.{Row}
use Rattle.facts.specs.declared.Fact.{Fact as FactRow}
use Rattle.explained.specs.Facts.{Fact, row_of, rows_of}
use Rattle.explained.specs.Rings.{Stuck, WaitsOn, WaitAlong, order_fact, order_facts, Circled}
use Rattle.ringing.specs.Stranded.{Rowed}
use Rattle.ringing.specs.Path.{Closed, AreActions, circle_facts}
use Rattle.ringing.proofs.Befores.{stuck_there}
use Rattle.ringing.specs.declared.Circle.{Circle}

-- ---- the orders

-- one action more, at the end
orders_one_more : (t : Study) (xs : List ℕ) (i end : ℕ) → order_facts t (xs ++ (i ∷ [])) end ≡ order_facts t xs i ++ (order_fact t end i ∷ [])
orders_one_more t [] i end = refl
orders_one_more t (j ∷ []) i end = refl
orders_one_more t (j ∷ y ∷ rest) i end = ap (λ (l : List Fact). order_fact t y j ∷ l) (orders_one_more t (y ∷ rest) i end)

slice_one_more :
    (path : List ℕ) (from k : ℕ) → from ≤ k → k < length path → slice from (k + 1) path ≡ slice from k path ++ (get_or path k 0 ∷ [])
slice_one_more path from k l h =
    rw (add-one k, take-suc path k 0 h) (drop-append-le from (take k path) (get_or path k 0 ∷ []) (omega (arith, length-take-le k path (omega arith))))

-- where the pass stands: the orders of the path from its entry `from` to its entry k are told
pub record Telling (file : List ℕ) (acts : List Row) (path : List ℕ) (from to : ℕ) (facts : List FactRow) (n k : ℕ) : Type 0 where
  pub some : (t : Study) × Rowed file acts t × AreActions t path to
  pub wide : length path ≡ 256
  pub long : length facts ≡ 288
  pub high : to ≤ 256
  pub count : from + n ≡ k
  pub below : k < to
  pub so_far_lem : (t : Study) → Rowed file acts t → AreActions t path to → take n facts ≡ rows_of (order_facts t (slice from k path) (get_or path k 0))

pub begins :
    {file : List ℕ} {acts : List Row} {path : List ℕ} {from to : ℕ} {facts : List FactRow}
    → (t : Study) × Rowed file acts t × AreActions t path to
    → length path ≡ 256 → length facts ≡ 288 → from < to → to ≤ 256 → Telling file acts path from to facts 0 from
begins {path = path} {from = from} some wide long low high = record {
  some = some;
  wide = wide;
  long = long;
  high = high;
  count = omega arith;
  below = low;
  so_far_lem = λ t rowed there. rw (slice_empty from path);
}

module _
    {file : List ℕ} {acts : List Row} {path : List ℕ} {from to : ℕ} {facts : List FactRow} {n k : ℕ}
    (telling : Telling file acts path from to facts n k) where
  -- one order more, of any action before this one
  one_told :
      (end : ℕ) (t : Study) → Rowed file acts t → AreActions t path to
      → take n facts ++ (row_of (order_fact t end (get_or path k 0)) ∷ []) ≡ rows_of (order_facts t (slice from (k + 1) path) end)
  one_told end t rowed there =
      rw (
        telling.so_far_lem t rowed there,
        slice_one_more path from k (omega (arith, telling.count)) (omega (arith, telling.below, telling.high, telling.wide)),
        orders_one_more t (slice from k path) (get_or path k 0) end,
        map-append,
      )

  pub goes_on :
      k + 1 < to → {facts' : List FactRow} {r : ℕ} → r ≡ n + 1 → length facts' ≡ 288
      → ((t : Study) → Rowed file acts t → get_or path (k + 1) 0 < length t.actions → get_or path k 0 < length t.actions
      → take r facts' ≡ take n facts ++ (row_of (order_fact t (get_or path (k + 1) 0) (get_or path k 0)) ∷ []))
      → Telling file acts path from to facts' r (k + 1)
  goes_on h e long told = record {
    some = telling.some;
    wide = telling.wide;
    long = long;
    high = telling.high;
    count = omega (arith, telling.count);
    below = h;
    so_far_lem = λ t rowed there. told t rowed (there (k + 1) h) (there k telling.below) ∙ one_told (get_or path (k + 1) 0) t rowed there;
  }

  -- the last order, of the entry `from` before the last
  pub ends :
      (facts' : List FactRow) (r : ℕ) → to ≤ k + 1
      → ((t : Study) → Rowed file acts t → get_or path from 0 < length t.actions → get_or path k 0 < length t.actions
      → take r facts' ≡ take n facts ++ (row_of (order_fact t (get_or path from 0) (get_or path k 0)) ∷ []))
      → (t : Study) → Rowed file acts t → AreActions t path to → take r facts' ≡ rows_of (order_facts t (slice from to path) (get_or path from 0))
  ends facts' r h told t rowed there =
      let last : k + 1 ≡ to = omega (arith, telling.below) in
      told t rowed (there from (omega (arith, telling.count, telling.below))) (there k telling.below)
      ∙ rw last at (one_told (get_or path from 0) t rowed there)

-- ---- what is told of refusal 12

pub closed_are_actions : {t : Study} {before after : List ℕ} {k : ℕ} {c : Circle} → length after ≡ 256 → Closed t before after k c → AreActions t after c.to
closed_are_actions {after = after} {c = c} long closed m h =
    stuck_there (closed.stuck (get_or after m 0)
    (rw (get_or-take c.to after m 0 h) at (entry_in (take c.to after) m (omega (arith, length-take-le c.to after (omega (arith, closed.high)))))))

wait_along :
    (t : Study) (l : List ℕ) (end : ℕ)
    → ((m : ℕ) → suc m < length l → WaitsOn t (get_or l m 0) (get_or l (suc m) 0))
    → ((m : ℕ) → suc m ≡ length l → WaitsOn t (get_or l m 0) end)
    → WaitAlong t l end
wait_along t [] end each last = tt
wait_along t (j ∷ []) end each last = last 0 (omega arith)
wait_along t (j ∷ i ∷ rest) end each last =
    (each 0 (omega arith), wait_along t (i ∷ rest) end (λ m h. each (suc m) (omega arith)) (λ m e. last (suc m) (omega arith)))

pub circle_told :
    {t : Study} {before after : List ℕ} {c : Circle} {first : ℕ}
    → length after ≡ 256 → Stuck t first → ((k : ℕ) → k < first → Stuck t k → ⊥)
    → Closed t before after 0 c → get_or after 0 0 ≡ first → Circled t (circle_facts t after c)
circle_told {t} {before} {after} {c} {first} long stuck lowest closed begins-so =
    record {
      first = first;
      first_stuck = stuck;
      lowest = lowest;
      front = take c.from walked;
      again = again;
      others = drop (suc c.from) walked;
      path_rest = drop 1 walked;
      begins = joined ∙ (drop-cons walked 0 0 (omega (arith, size, closed.low)) ∙ ap (λ (x : ℕ). x ∷ drop 1 walked) (at 0 (omega (arith, closed.low)) ∙ begins-so));
      once = rw joined closed.once;
      along = rw joined (wait_along t walked again each last);
      told = rw (← at c.from closed.low, drop-cons walked c.from 0 (omega (arith, size, closed.low)));
    }
  where
    walked : List ℕ
    walked = take c.to after

    size : length walked ≡ c.to
    size = length-take-le c.to after (omega (arith, closed.high))

    again : ℕ
    again = get_or walked c.from 0

    at : (m : ℕ) → m < c.to → get_or walked m 0 ≡ get_or after m 0
    at m h = get_or-take c.to after m 0 h

    joined : take c.from walked ++ (again ∷ drop (suc c.from) walked) ≡ walked
    joined = sym (split_at walked c.from 0 (omega (arith, size, closed.low)))

    each : (m : ℕ) → suc m < length walked → WaitsOn t (get_or walked m 0) (get_or walked (suc m) 0)
    each m h = let b : suc m < c.to = omega (arith, size) in rw (at m (omega arith), at (suc m) b) (closed.waits m b)

    last : (m : ℕ) → suc m ≡ length walked → WaitsOn t (get_or walked m 0) again
    last m e = rw (at m (omega (arith, size)), at c.from closed.low) (closed.closes m (e ∙ size))
