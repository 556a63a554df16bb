-- What was taken greedily of members that are tied: fewer than all, and there is a circle; or all, each behind what is tied before it.
-- Assumes nothing.
use mathlib.Core.Path.{◌≡◌, refl, sym, ap, ◌∙◌}
use mathlib.Core.Logic.{inl, inr}
use mathlib.Core.Bool.{Bool, true, false, false≢true}
use mathlib.Core.List.{List, [], ◌∷◌, map}
use Prim.Native.Nat.{ℕ, zero, suc, ◌<◌, ◌≤◌}
use native.Mathlib.Omega.{arith}
use native.Mathlib.Decide.{dec_lt}
use lib.ListN.{length, get_or, drop, length-drop, get_or-eq_default}
use lib.Seq.{get_or-take, get_or-drop, length-take-le}
use Rattle.bits.specs.Bits.{bit}
use Rattle.bits.proofs.Words.{bit_zero}
use Rattle.orders.specs.Orders.{In, Distinct, StandsBefore, None, Takes, Order, OnRing, Counted}
use Rattle.orders.proofs.Lists.{fewer_miss_one, distinct_fills, entry_in, in_has_place, distinct_entries_differ}
use Rattle.orders.proofs.Members.{takes_distinct, takes_members, all_taken_is_order}
use Rattle.orders.proofs.Grown.{greedy_so_far, greedy_so_far_takes, greedy_none_ready, none_ready_same, by_all}
use Rattle.orders.proofs.Stuck.{stuck_has_ring}
use Rattle.orders.proofs.Standing.{order_stands, stands_before_in}
use Rattle.orders.proofs.Rings.{ring_bars_orders}
use Rattle.orders.proofs.Chains.{chain-within}
use Rattle.linking.specs.Linking.{Anyone}
use Rattle.hanging.specs.Hanging.{InWord, DirectlyBefore, TakenByName}
use Rattle.tying.specs.Tying.{Tied, Low, Among, InPlace, entry, Sorts}

-- ---- what stands before another has a lower place

pub stands_place :
    (a b : ℕ) (list : List ℕ) → Distinct list → StandsBefore a b list → (j : ℕ) → get_or list j 0 ≡ b → j < length list
    → (i : ℕ) × ((i < j) × (get_or list i 0 ≡ a))
stands_place a b [] d s j e h = absurd s
stands_place a b (x ∷ list) d (inl (f, g)) zero e h = absurd (d.0 (rw e g))
stands_place a b (x ∷ list) d (inl (f, g)) (suc j) e h = (0, (omega arith, sym f))
stands_place a b (x ∷ list) d (inr s) zero e h = absurd (d.0 (rw e (stands_before_in a b list s)))
stands_place a b (x ∷ list) d (inr s) (suc j) e h =
    let (i, (l, f)) = stands_place a b list d.1 s j e (omega arith) in
    (suc i, (omega arith, f))

-- ---- ties as what comes directly before

directly_tied : (words : List ℕ) → length words ≡ 64 → (x y : ℕ) → DirectlyBefore words x y → Tied words x y
directly_tied words long x y w = go (dec_lt y 64)
  where
    go : Dec (y < 64) → Tied words x y
    go (yes low) = (low, w)
    go (no h) = absurd (false≢true (sym (bit_zero x) ∙ rw (get_or-eq_default words 0 {n = y} (omega (arith, long))) at w))

is_decided : (b : Bool) → Dec (b ≡ true)
is_decided true = yes refl
is_decided false = no false≢true

-- ---- what was taken

length-map : (f : ℕ → ℕ) (l : List ℕ) → length (map f l) ≡ length l
length-map f [] = refl
length-map f (x ∷ l) = ap suc (length-map f l)

same_places : (names : List ℕ) → InPlace names → (l : List ℕ) → ((x : ℕ) → In x l → x < 64) → map (λ x. get_or names x 0) l ≡ l
same_places names places [] f = refl
same_places names places (x ∷ l) f = rw (places x (f x (inl refl)), same_places names places l (λ y h. f y (inr h)))

module _
    (members : ℕ) {total : ℕ} (words : List ℕ) {names room : List ℕ} {k : ℕ} (all : Counted (InWord members) total)
    (few : k ≤ 256) (sized : length room ≡ 512) (taken : TakenByName members words names k room)
  where
    abbrev list : List ℕ
    list = taken.list

    abbrev Before : ℕ → ℕ → Type 0
    Before = DirectlyBefore words

    takes : Takes (InWord members) Before None list
    takes = greedy_so_far_takes (InWord members) Before (λ x. x) None list (greedy_so_far (InWord members) Before (λ x. x) None list taken.greedy)

    as_many : length list ≡ k
    as_many =
        sym (length-map (λ x. get_or names x 0) list) ∙ ap length (sym taken.named)
        ∙ length-take-le k (drop 256 room) (omega (arith, length-drop 256 room))

    -- fewer than all: some are on a ring
    pub fewer_is_circle : length words ≡ 64 → k < total → (x : ℕ) × OnRing Anyone (Tied words) x
    fewer_is_circle long h =
        let (x, (i, n)) = fewer_miss_one list all.list all.once (omega (arith, as_many, all.long)) in
        let (y, ring) =
        stuck_has_ring (InWord members) Before all.list all.all all.only (λ a b. is_decided (bit (get_or words b 0) a)) list takes
        (none_ready_same (InWord members) Before (by_all list) (greedy_none_ready (InWord members) Before (λ x. x) None list taken.greedy))
        x (all.only x i) n in
        (y, chain-within (λ a b _ _ d. (tt, (tt, directly_tied words long a b d))) ring)

    -- all
    module _ (every : total ≤ k) (among : Among members words) where
      in_order : Order (InWord members) Before list
      in_order =
          all_taken_is_order (InWord members) Before list takes
          (λ x m.
          distinct_fills list all.list (takes_distinct (InWord members) Before None list takes)
          (λ y i. all.all y (takes_members (InWord members) Before None list takes y i)) (omega (arith, as_many, all.long)) x (all.all x m))

      pub none_circled : (x : ℕ) → OnRing Anyone (Tied words) x → ⊥
      none_circled x ring =
          ring_bars_orders (InWord members) Before list
          (chain-within (λ a b _ _ t. let (m, n) = among a b t in (m, (n, t.1))) ring) in_order

      module _ (most : k ≤ total) (places : InPlace names) (lows : Low members) where
        list_low : (x : ℕ) → In x list → x < 64
        list_low x h = lows x (takes_members (InWord members) Before None list takes x h)

        named : (j : ℕ) → j < total → entry room j ≡ get_or list j 0
        named j h =
            sym (get_or-drop 256 room j 0) ∙ sym (get_or-take k (drop 256 room) j 0 (omega arith))
            ∙ ap (λ (l : List ℕ). get_or l j 0) (taken.named ∙ same_places names places list list_low)

        pub all_sorted : Sorts room total words
        all_sorted =
            let stands = order_stands (InWord members) Before list in_order in
            record {
              low = λ j h. rw (named j h) (list_low (get_or list j 0) (entry_in list j (omega (arith, as_many))));
              once = λ i j b h. rw (named i (omega arith), named j h) (distinct_entries_differ list stands.none_twice i j b (omega (arith, as_many)));
              there = λ x y t.
                  let (j, (l, e)) = in_has_place y list (stands.all_members y (among x y t).1) in
                  let h : j < total = omega (arith, as_many) in
                  (j, (h, named j h ∙ e));
              behind = λ x j h t.
                  let (m, n) = among x (entry room j) t in
                  let (i, (b, e)) =
                  stands_place x (entry room j) list stands.none_twice (stands.keeps_before x (entry room j) m n t.1) j (sym (named j h))
                  (omega (arith, as_many)) in
                  (i, (b, named i (omega arith) ∙ e));
            }
