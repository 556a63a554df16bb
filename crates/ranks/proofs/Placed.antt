-- Any list of different numbers below n has a rank list under which its entries have the ranks 0, 1, 2 and so on.
-- Assumes nothing.
use mathlib.Core.Path.{◌≡◌, sym, ap, ◌∙◌}
use mathlib.Core.Logic.{◌≢◌}
use mathlib.Core.List.{List, [], ◌∷◌}
use Prim.Native.Nat.{ℕ, zero, suc, ◌<◌, ◌≤◌, suc-le-suc}
use native.Mathlib.Omega.{arith}
use native.Mathlib.Decide.{ℕ_discrete, dec_lt}
use borrow.Author.Tests.{ne_eqb}
use lib.ListN.{length, get_or, set, length-set}
use lib.Seq.{get_or-set_same, get_or-set_other}
use Rattle.ranks.specs.Ranks.{one, count, RankList, rising, exchanged}
use Rattle.ranks.proofs.Laws.{exchanged_keeps_rank_list, rising_is_rank_list}
use Rattle.ranks.proofs.Entries.{entry_of_rank_list_below, entries_of_rank_list_differ}

-- ---- where a rank list has a rank

pub record At (l : List ℕ) (k : ℕ) : Type 0 where
  pub place : ℕ
  pub there : place < length l
  pub holds : get_or l place 0 ≡ k

pub place_of_counted : (k : ℕ) (l : List ℕ) → 1 ≤ count k l → At l k
place_of_counted k [] c = absurd (omega arith)
place_of_counted k (x ∷ xs) c = go (ℕ_discrete x k) (place_of_counted k xs)
  where
    go : Dec (x ≡ k) → (1 ≤ count k xs → At xs k) → At (x ∷ xs) k
    go (yes e) _ = record { place = 0; there = omega arith; holds = e }
    go (no d) later =
        let a = later (omega (arith, ap one (ne_eqb x k d))) in
        record { place = suc a.place; there = suc-le-suc a.there; holds = a.holds }

pub rank_list_apart : {n : ℕ} {l : List ℕ} → RankList n l → (i j : ℕ) → i < n → j < n → get_or l i 0 ≡ get_or l j 0 → i ≡ j
rank_list_apart r i j hi hj e = go (dec_lt i j) (dec_lt j i)
  where
    go : Dec (i < j) → Dec (j < i) → i ≡ j
    go (yes b) _ = absurd (entries_of_rank_list_differ r i j b hj e)
    go (no _) (yes b) = absurd (entries_of_rank_list_differ r j i b hi (sym e))
    go (no b) (no c) = omega arith

-- ---- what an exchange does to the entries

pub exchanged_second : (l : List ℕ) (i j : ℕ) → j < length l → get_or (exchanged l i j) j 0 ≡ get_or l i 0
exchanged_second l i j h = get_or-set_same (set l i (get_or l j 0)) j (get_or l i 0) 0 (simp length-set h)

pub exchanged_other : (l : List ℕ) (i j k : ℕ) → k ≢ i → k ≢ j → get_or (exchanged l i j) k 0 ≡ get_or l k 0
exchanged_other l i j k a b =
    get_or-set_other (set l i (get_or l j 0)) j k (get_or l i 0) 0 b ∙ get_or-set_other l i k (get_or l j 0) 0 a

-- ---- one entry after another is given its rank

module _ (n : ℕ) (zs : List ℕ)
    (differ : (i j : ℕ) → i < j → j < length zs → get_or zs i 0 ≢ get_or zs j 0)
    (below : (i : ℕ) → i < length zs → get_or zs i 0 < n) where
  record Placed (m : ℕ) : Type 0 where
    ranks : List ℕ
    rank_list : RankList n ranks
    placed_so_far : (k : ℕ) → k < m → get_or ranks (get_or zs k 0) 0 ≡ k

  -- the entry m has a rank from m on, as the lower ones are given
  rank_from : (m : ℕ) → m < length zs → (p : Placed m) → m ≤ get_or p.ranks (get_or zs m 0) 0
  rank_from m h p = go (dec_lt (get_or p.ranks (get_or zs m 0) 0) m)
    where
      go : Dec (get_or p.ranks (get_or zs m 0) 0 < m) → m ≤ get_or p.ranks (get_or zs m 0) 0
      go (no b) = omega arith
      go (yes b) =
          let k = get_or p.ranks (get_or zs m 0) 0 in
          absurd (differ k m b h
          (rank_list_apart p.rank_list (get_or zs k 0) (get_or zs m 0) (below k (omega arith)) (below m h) (p.placed_so_far k b)))

  next : (m : ℕ) → m < length zs → Placed m → Placed (suc m)
  next m h p = record {
    ranks = exchanged l i j;
    rank_list = exchanged_keeps_rank_list i j i_below (below m h) p.rank_list;
    placed_so_far = λ k g. here k (ℕ_discrete k m) g;
  }
    where
      l : List ℕ
      l = p.ranks

      j : ℕ
      j = get_or zs m 0

      at_m : At l m
      at_m =
          place_of_counted m l
          (omega (
            arith,
            p.rank_list.holds_each_once m
                (omega (arith, rank_from m h p, entry_of_rank_list_below p.rank_list j (below m h))),
          ))

      i : ℕ
      i = at_m.place

      i_below : i < n
      i_below = omega (arith, at_m.there, p.rank_list.an_entry_for_each)

      here : (k : ℕ) → Dec (k ≡ m) → k < suc m → get_or (exchanged l i j) (get_or zs k 0) 0 ≡ k
      here k (yes e) g =
          rw e (exchanged_second l i j (omega (arith, below m h, p.rank_list.an_entry_for_each)) ∙ at_m.holds)
      here k (no d) g =
          let b : k < m = omega arith in
          exchanged_other l i j (get_or zs k 0)
          (λ e. d (sym (p.placed_so_far k b) ∙ ap (λ (v : ℕ). get_or l v 0) e ∙ at_m.holds)) (differ k m b h)
          ∙ p.placed_so_far k b

  placed_to : (m : ℕ) → m ≤ length zs → Placed m
  placed_to zero h = record { ranks = rising n; rank_list = rising_is_rank_list n; placed_so_far = λ k g. absurd (omega arith) }
  placed_to (suc m) h = next m h (placed_to m (omega arith))

  pub placed : (l : List ℕ) × (RankList n l × ((k : ℕ) → k < length zs → get_or l (get_or zs k 0) 0 ≡ k))
  placed = let p = placed_to (length zs) (omega arith) in (p.ranks, (p.rank_list, p.placed_so_far))
