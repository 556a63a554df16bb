-- The path from action to action: it has room for one more that is not on it, goes on by it, and closes where one comes again.
-- Assumes nothing.
use mathlib.Core.Path.{◌≡◌, refl, sym, ap, ◌∙◌}
use mathlib.Core.Logic.{inl, inr, ◌≢◌}
use mathlib.Core.List.{List, [], ◌∷◌, ◌++◌}
use Prim.Native.Nat.{ℕ, suc, ◌+◌, ◌-◌, ◌≤◌, ◌<◌}
use native.Mathlib.Numerals.{add-one}
use native.Mathlib.Omega.{arith}
use native.Mathlib.Decide.{ℕ_discrete, dec_lt}
use lib.ListN.{length, get_or, take, set}
use lib.Seq.{length-take-le, get_or-take, take-suc-set, take-set-le, take-take, get_or-set_same, get_or-set_other}
use borrow.Author.Count.{below_more}
use Rattle.study.specs.Study.{Study}
use Rattle.lawful.specs.Lawful.{Lawful}
use Rattle.orders.specs.Orders.{In}
use Rattle.orders.proofs.Lists.{entry_in, in_has_place, in_append_left, in_append_right, in_append_cases, distinct_append, distinct_below}
use Rattle.explained.specs.Rings.{Stuck, WaitsOn}
use Rattle.ringing.specs.Path.{Pathed, Next, Closed}
use Rattle.ringing.specs.declared.Circle.{Circle}
use Rattle.ringing.proofs.Befores.{stuck_small}

module _ {t : Study} {seen path : List ℕ} {k : ℕ} (pathed : Pathed t seen path k) (long : length path ≡ 256) where
  on_path : (m : ℕ) → m < k → In (get_or path m 0) (take k path)
  on_path m h = rw (get_or-take k path m 0 h) at (entry_in (take k path) m (omega (arith, length-take-le k path (omega (arith, pathed.room)))))

  place_on_path : (i : ℕ) → In i (take k path) → (m : ℕ) × ((m < k) × (get_or path m 0 ≡ i))
  place_on_path i h =
      let (m, (b, e)) = in_has_place i (take k path) h in
      let l : m < k = omega (arith, length-take-le k path (omega (arith, pathed.room))) in
      (m, (l, sym (get_or-take k path m 0 l) ∙ e))

  seen_on_path : (i : ℕ) → In i (take k path) → get_or seen i 0 ≢ 0
  seen_on_path i h z = let (m, (b, e)) = place_on_path i h in omega (arith, sym (pathed.seen_there m b) ∙ ap (λ (x : ℕ). get_or seen x 0) e ∙ z)

  -- the next is on the path already
  pub closes_here :
      Lawful t → {i : ℕ} → 0 < k → Next t path k i → get_or seen i 0 ≢ 0
      → Closed t path path k (record { from = get_or seen i 0 - 1; to = k })
  closes_here lawful {i} some next again =
      record {
        low = omega (arith, is_place);
        high = pathed.room;
        longer = omega arith;
        kept = refl;
        once = pathed.once;
        stuck = pathed.stuck;
        waits = pathed.waits;
        closes = λ m e. rw comes_again (next m e);
      }
    where
      waited : WaitsOn t (get_or path (k - 1) 0) i
      waited = next (k - 1) (omega arith)

      place : (m : ℕ) × ((m < k) × (get_or path m 0 ≡ i))
      place = place_on_path i (pathed.seen_only i (stuck_small lawful waited.stuck) again)

      seen_so : get_or seen i 0 ≡ suc place.0
      seen_so = rw place.1.1 at (pathed.seen_there place.0 place.1.0)

      is_place : (get_or seen i 0 - 1 ≡ place.0) × (place.0 < k)
      is_place = (omega (arith, seen_so), place.1.0)

      comes_again : get_or path (get_or seen i 0 - 1) 0 ≡ i
      comes_again = rw is_place.0 place.1.1

  -- the next is new to the path
  module _ (lawful : Lawful t) (wide : length seen ≡ 256) {j : ℕ} (stuck : Stuck t j) (new : get_or seen j 0 ≡ 0) where
    not_on_path : In j (take k path) → ⊥
    not_on_path h = seen_on_path j h new

    small : j < 256
    small = stuck_small lawful stuck

    pub room_left : k < 256
    room_left =
        omega (
          arith,
          length-take-le k path (omega (arith, pathed.room)),
          distinct_below (j ∷ take k path) 256 (not_on_path, pathed.once)
              (λ x h. elim h [ inl e ↦ rw e small | inr g ↦ stuck_small lawful (pathed.stuck x g) ]),
        )

    longer : take (k + 1) (set path k j) ≡ take k path ++ (j ∷ [])
    longer = rw (add-one k) (take-suc-set path k j (omega (arith, room_left)))

    last_is : get_or (set path k j) k 0 ≡ j
    last_is = get_or-set_same path k j 0 (omega (arith, room_left))

    entry_stays : (m : ℕ) → m < k → get_or (set path k j) m 0 ≡ get_or path m 0
    entry_stays m h = get_or-set_other path k m j 0 (λ e. omega arith)

    seen_is : get_or (set seen j (k + 1)) j 0 ≡ suc k
    seen_is = get_or-set_same seen j (k + 1) 0 (omega (arith, small)) ∙ add-one k

    seen_stays : (i : ℕ) → i ≢ j → get_or (set seen j (k + 1)) i 0 ≡ get_or seen i 0
    seen_stays i d = get_or-set_other seen j i (k + 1) 0 d

    pub goes_on : Next t path k j → Pathed t (set seen j (k + 1)) (set path k j) (k + 1)
    goes_on next = record {
      room = omega (arith, room_left);
      once = rw longer (distinct_append (take k path) (j ∷ []) pathed.once ((λ h. h), tt) apart);
      stuck = λ i h. elim (in_append_cases i (take k path) (j ∷ []) (rw longer at h)) [ inl g ↦ pathed.stuck i g | inr g ↦ is_stuck i g ];
      waits = λ m h. waits m (dec_lt (suc m) k) (omega arith);
      seen_there = below_more (λ m. get_or (set seen j (k + 1)) (get_or (set path k j) m 0) 0 ≡ suc m) k before_there (rw last_is seen_is);
      seen_only = λ i b h. rw longer (only i b h (ℕ_discrete i j));
    }
      where
        apart : (x : ℕ) → In x (take k path) → In x (j ∷ []) → ⊥
        apart x h (inl e) = not_on_path (rw e at h)
        apart x h (inr g) = g

        is_stuck : (i : ℕ) → In i (j ∷ []) → Stuck t i
        is_stuck i (inl e) = rw e stuck
        is_stuck i (inr g) = absurd g

        waits : (m : ℕ) → Dec (suc m < k) → suc m ≤ k → WaitsOn t (get_or (set path k j) m 0) (get_or (set path k j) (suc m) 0)
        waits m (yes h) b = rw (entry_stays m (omega arith), entry_stays (suc m) h) (pathed.waits m h)
        waits m (no n) b =
            let e : suc m ≡ k = omega arith in
            rw (entry_stays m (omega arith), ap (λ (x : ℕ). get_or (set path k j) x 0) e, last_is) (next m e)

        before_there : (m : ℕ) → m < k → get_or (set seen j (k + 1)) (get_or (set path k j) m 0) 0 ≡ suc m
        before_there m h =
            rw (entry_stays m h, seen_stays (get_or path m 0) (λ e. not_on_path (rw e at (on_path m h)))) (pathed.seen_there m h)

        only : (i : ℕ) → i < 256 → get_or (set seen j (k + 1)) i 0 ≢ 0 → Dec (i ≡ j) → In i (take k path ++ (j ∷ []))
        only i b h (yes e) = in_append_right i (take k path) (j ∷ []) (inl e)
        only i b h (no d) = in_append_left i (take k path) (j ∷ []) (pathed.seen_only i b (λ z. h (seen_stays i d ∙ z)))

    pub next_after : {i : ℕ} → WaitsOn t j i → Next t (set path k j) (k + 1) i
    next_after waits m e = let f : m ≡ k = omega arith in rw (f, last_is) waits

    -- what closes the longer path closes the shorter
    pub closes_later :
        {after : List ℕ} {c : Circle} → Closed t (set path k j) after (k + 1) c
        → Closed t path after k c × (k < c.to) × (get_or after k 0 ≡ j)
    closes_later {after} {c} closed = (
      record {
        low = closed.low;
        high = closed.high;
        longer = omega (arith, closed.longer);
        kept =
            sym (take-take k (k + 1) after (omega arith)) ∙ ap (take k) closed.kept
            ∙ take-take k (k + 1) (set path k j) (omega arith) ∙ take-set-le k path k j (omega arith);
        once = closed.once;
        stuck = closed.stuck;
        waits = closed.waits;
        closes = closed.closes;
      },
      omega (arith, closed.longer),
      sym (get_or-take (k + 1) after k 0 (omega arith)) ∙ ap (λ (l : List ℕ). get_or l k 0) closed.kept
          ∙ get_or-take (k + 1) (set path k j) k 0 (omega arith) ∙ last_is,
    )

-- a path of none
pub none_on_path : {t : Study} {seen path : List ℕ} → ((i : ℕ) → i < 256 → get_or seen i 0 ≡ 0) → Pathed t seen path 0
none_on_path zeros = record {
  room = omega arith;
  once = tt;
  stuck = λ j h. absurd h;
  waits = λ m h. absurd (omega arith);
  seen_there = λ m h. absurd (omega arith);
  seen_only = λ i b h. absurd (h (zeros i b));
}
