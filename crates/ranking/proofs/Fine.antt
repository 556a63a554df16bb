-- What the test of a rank list says, exactly: it is fine, its length is wrong, or an entry is the first that is too large or repeats an earlier one.
-- Assumes nothing.
use mathlib.Core.Path.{◌≡◌, refl, ap, ◌∙◌}
use mathlib.Core.Logic.{◌⊎◌, inl, inr, ◌≢◌, ◌↔◌}
use mathlib.Core.Bool.{Bool, true, false, ◌||◌}
use mathlib.Core.List.{List, [], ◌∷◌}
use Prim.Native.Nat.{ℕ, suc, ◌+◌, ◌≤◌, ◌<◌}
use native.Mathlib.Decide.{ℕ_discrete}
use native.Mathlib.Omega.{arith}
use lib.Dec.{leb, eqb}
use lib.ListN.{length, get_or}
use borrow.Author.Tests.{eqb-true, eqb-false, eq-eqb, leb-true, leb-false}
use Rattle.plain.proofs.Tests.{picked, either}
use Rattle.ranks.specs.Ranks.{RankList}
use Rattle.ranks.proofs.Entries.{entry_of_rank_list_below, entries_of_rank_list_differ, rank_list_of_entries}
use Rattle.std.specs.Prelude.{Ok, Err}
use Rattle.ranking.specs.declared.Unranked.TheVariants.{Length, Entry}
use Rattle.ranking.specs.Ranking.{Tested, among, tested_from, tested}

-- an entry repeats an earlier one
abbrev pub Repeats : List ℕ → ℕ → Type 0
Repeats ranks k = (i : ℕ) × ((i < k) × (get_or ranks i 0 ≡ get_or ranks k 0))

-- the entries before k are below n, and none repeats an earlier one
pub record GoodTo (ranks : List ℕ) (n k : ℕ) : Type 0 where
  pub small : (j : ℕ) → j < k → get_or ranks j 0 < n
  pub differ : (i j : ℕ) → i < j → j < k → get_or ranks i 0 ≢ get_or ranks j 0

-- k is the first entry that is n or more, or repeats an earlier one
pub record FirstBad (ranks : List ℕ) (n k : ℕ) : Type 0 where
  pub long : length ranks ≡ n
  pub there : k < n
  pub bad : (n ≤ get_or ranks k 0) ⊎ Repeats ranks k
  pub good : GoodTo ranks n k

-- ---- what the test may say

data Says (ranks : List ℕ) (n : ℕ) : Tested → Type 0 where
  all_good : length ranks ≡ n → GoodTo ranks n n → Says ranks n (Ok tt)
  other_length : length ranks ≢ n → Says ranks n (Err Length)
  bad_at : {k : ℕ} → FirstBad ranks n k → Says ranks n (Err (Entry k))

neither : (a b : Bool) → (a || b) ≡ false → (a ≡ false) × (b ≡ false)
neither true b e = let z : ◌≡◌ {A = ℕ} 0 1 = cc in absurd (omega arith)
neither false b e = (refl, e)

good_one_more : {ranks : List ℕ} {n k : ℕ} → GoodTo ranks n k → get_or ranks k 0 < n → (Repeats ranks k → ⊥) → GoodTo ranks n (k + 1)
good_one_more {ranks} {n} {k} good small new = record {
  small = λ j h. low j h (ℕ_discrete j k);
  differ = λ i j b h. apart i j b h (ℕ_discrete j k);
}
  where
    low : (j : ℕ) → j < k + 1 → Dec (j ≡ k) → get_or ranks j 0 < n
    low j h (yes e) = rw e small
    low j h (no d) = good.small j (omega arith)

    apart : (i j : ℕ) → i < j → j < k + 1 → Dec (j ≡ k) → get_or ranks i 0 ≢ get_or ranks j 0
    apart i j b h (yes e) = rw e (λ f. new (i, (omega arith, f)))
    apart i j b h (no d) = good.differ i j b (omega arith)

-- the numbers among the earlier ones are the entries before k
record Earlier (ranks earlier : List ℕ) (k : ℕ) : Type 0 where
  all : (i : ℕ) → i < k → among earlier (get_or ranks i 0) ≡ true
  only : (x : ℕ) → among earlier x ≡ true → (i : ℕ) × ((i < k) × (get_or ranks i 0 ≡ x))

earlier_one_more : {ranks earlier : List ℕ} {k : ℕ} → Earlier ranks earlier k → Earlier ranks (get_or ranks k 0 ∷ earlier) (k + 1)
unfolding among
earlier_one_more {ranks} {earlier} {k} e = record {
  all = λ i h. there i h (ℕ_discrete i k);
  only = λ x h. back x (either (eqb (get_or ranks k 0) x) (among earlier x) h);
}
  where
    there : (i : ℕ) → i < k + 1 → Dec (i ≡ k) → (eqb (get_or ranks k 0) (get_or ranks i 0) || among earlier (get_or ranks i 0)) ≡ true
    there i h (yes f) = rw (f, eq-eqb (get_or ranks k 0) (get_or ranks k 0) refl)
    there i h (no d) = rw (e.all i (omega arith)) (or_true (eqb (get_or ranks k 0) (get_or ranks i 0)))
      where
        or_true : (b : Bool) → (b || true) ≡ true
        or_true true = refl
        or_true false = refl

    back : (x : ℕ) → (eqb (get_or ranks k 0) x ≡ true) ⊎ (among earlier x ≡ true) → (i : ℕ) × ((i < k + 1) × (get_or ranks i 0 ≡ x))
    back x (inl f) = (k, (omega arith, eqb-true (get_or ranks k 0) x f))
    back x (inr f) = let p = e.only x f in (p.0, (omega (arith, p.1.0), p.1.1))

module _ (ranks : List ℕ) (n : ℕ) (long : length ranks ≡ n) where
  says_from :
      (earlier : List ℕ) (k : ℕ) (rest : List ℕ) → k + length rest ≡ n → ((i : ℕ) → get_or rest i 0 ≡ get_or ranks (k + i) 0)
      → Earlier ranks earlier k → GoodTo ranks n k → Says ranks n (tested_from n earlier k rest)
  unfolding tested_from
  says_from earlier k [] all same e good = let z : k ≡ n = omega arith in all_good long (rw z at good)
  says_from earlier k (x ∷ rest) all same e good =
      picked (Says ranks n) (leb n x || among earlier x)
      (λ h. bad_at (record { long = long; there = omega arith; bad = bad (either (leb n x) (among earlier x) h); good = good }))
      (λ h.
      let (low, new) = neither (leb n x) (among earlier x) h in
      says_from (x ∷ earlier) (k + 1) rest (omega arith) (λ i. same (suc i) ∙ ap (λ (j : ℕ). get_or ranks j 0) (omega arith))
      (rw (← here) at (earlier_one_more e))
      (good_one_more good (rw (← here) (leb-false n x low)) (not_met_lem new)))
    where
      here : x ≡ get_or ranks k 0
      here = same 0 ∙ ap (λ (j : ℕ). get_or ranks j 0) (omega arith)

      bad : (leb n x ≡ true) ⊎ (among earlier x ≡ true) → (n ≤ get_or ranks k 0) ⊎ Repeats ranks k
      bad (inl h) = inl (rw (← here) (leb-true n x h))
      bad (inr h) = let (i, (b, f)) = e.only x h in inr (i, (b, f ∙ here))

      not_met_lem : among earlier x ≡ false → Repeats ranks k → ⊥
      not_met_lem new (i, (b, f)) =
          let old : among earlier x ≡ true = rw (here, ← f) (e.all i b) in
          let z : ◌≡◌ {A = ℕ} 0 1 = cc in
          omega arith

  none_earlier : Earlier ranks [] 0
  unfolding among
  none_earlier = record { all = λ i h. absurd (omega arith); only = λ x h. let z : ◌≡◌ {A = ℕ} 0 1 = cc in absurd (omega arith) }

  says_entries : Says ranks n (tested_from n [] 0 ranks)
  says_entries =
      says_from [] 0 ranks (omega arith) (λ i. ap (λ (j : ℕ). get_or ranks j 0) (omega arith)) none_earlier
      (record { small = λ j h. absurd (omega arith); differ = λ i j b h. absurd (omega arith) })

says : (ranks : List ℕ) (n : ℕ) → Says ranks n (tested ranks n)
unfolding tested
says ranks n =
    picked (Says ranks n) (eqb (length ranks) n) (λ e. says_entries ranks n (eqb-true (length ranks) n e))
    (λ e. other_length (eqb-false (length ranks) n e))

-- ---- and exactly that

says_fine : {ranks : List ℕ} {n : ℕ} {r : Tested} → Says ranks n r → r ≡ Ok tt → (length ranks ≡ n) × GoodTo ranks n n
says_fine (all_good e good) h = (e, good)
says_fine (other_length o) h = let z : ◌≡◌ {A = ℕ} 0 1 = cc in absurd (omega arith)
says_fine (bad_at b) h = let z : ◌≡◌ {A = ℕ} 0 1 = cc in absurd (omega arith)

says_length : {ranks : List ℕ} {n : ℕ} {r : Tested} → Says ranks n r → r ≡ Err Length → length ranks ≢ n
says_length (all_good e good) h = let z : ◌≡◌ {A = ℕ} 0 1 = cc in absurd (omega arith)
says_length (other_length o) h = o
says_length (bad_at b) h = let z : ◌≡◌ {A = ℕ} 0 1 = cc in absurd (omega arith)

says_entry : {ranks : List ℕ} {n k : ℕ} {r : Tested} → Says ranks n r → r ≡ Err (Entry k) → FirstBad ranks n k
says_entry (all_good e good) h = let z : ◌≡◌ {A = ℕ} 0 1 = cc in absurd (omega arith)
says_entry (other_length o) h = let z : ◌≡◌ {A = ℕ} 0 1 = cc in absurd (omega arith)
says_entry {k = k} (bad_at {k = j} b) h = let z : j ≡ k = cc in rw z at b

-- an entry is not both good and bad
good_not_bad : {ranks : List ℕ} {n k m : ℕ} → FirstBad ranks n k → GoodTo ranks n m → k < m → ⊥
good_not_bad {ranks} {n} {k} {m} b good h = go b.bad
  where
    go : (n ≤ get_or ranks k 0) ⊎ Repeats ranks k → ⊥
    go (inl l) = omega (arith, good.small k h)
    go (inr (i, (l, e))) = good.differ i k l h e

pub fine_is_rank_list : {ranks : List ℕ} {n : ℕ} → tested ranks n ≡ Ok tt → RankList n ranks
fine_is_rank_list {ranks} {n} h = let (e, good) = says_fine (says ranks n) h in rank_list_of_entries ranks e good.small good.differ

pub rank_list_is_fine : {ranks : List ℕ} {n : ℕ} → RankList n ranks → tested ranks n ≡ Ok tt
rank_list_is_fine {ranks} {n} r = go (says ranks n)
  where
    go : {s : Tested} → Says ranks n s → s ≡ Ok tt
    go (all_good e good) = refl
    go (other_length o) = absurd (o r.an_entry_for_each)
    go (bad_at b) = absurd (good_not_bad b (record { small = entry_of_rank_list_below r; differ = entries_of_rank_list_differ r }) b.there)

pub length_is_wrong : (ranks : List ℕ) (n : ℕ) → (tested ranks n ≡ Err Length) ↔ (length ranks ≢ n)
length_is_wrong ranks n = (says_length (says ranks n), λ o. go o (says ranks n))
  where
    go : {s : Tested} → length ranks ≢ n → Says ranks n s → s ≡ Err Length
    go o (all_good e good) = absurd (o e)
    go o (other_length _) = refl
    go o (bad_at b) = absurd (o b.long)

pub entry_is_first_bad : (ranks : List ℕ) (n k : ℕ) → (tested ranks n ≡ Err (Entry k)) ↔ FirstBad ranks n k
entry_is_first_bad ranks n k = (says_entry (says ranks n), λ b. go b (says ranks n))
  where
    go : {s : Tested} → FirstBad ranks n k → Says ranks n s → s ≡ Err (Entry k)
    go b (all_good e good) = absurd (good_not_bad b good b.there)
    go b (other_length o) = absurd (o b.long)
    go b (bad_at {k = j} c) = let z : j ≡ k = omega (arith, good_not_bad b c.good, good_not_bad c b.good) in rw z
