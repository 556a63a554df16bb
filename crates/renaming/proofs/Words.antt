-- The numbers of a word put under their ranks one after another, and then one word after another.
-- Assumes nothing.
use mathlib.Core.Path.{◌≡◌, refl, sym, ap, ◌∙◌}
use mathlib.Core.Logic.{inl, inr, ◌≢◌}
use mathlib.Core.Bool.{true, false≢true, not, ◌&&◌, ◌||◌}
use mathlib.Core.List.{List}
use Prim.Native.Nat.{ℕ, ◌+◌, ◌<◌}
use native.Mathlib.Decide.{ℕ_discrete}
use native.Mathlib.Omega.{arith}
use lib.Dec.{eqb}
use lib.ListN.{length, get_or, set}
use lib.Seq.{get_or-set_same, get_or-set_other}
use Rattle.bits.specs.Bits.{bit}
use Rattle.bits.proofs.Words.{bit_zero}
use Rattle.bits.proofs.Changed.{put_here, put_stays, put_only, out_stays, out_only, common_both}
use Rattle.ranks.specs.Ranks.{Apart}
use Rattle.renaming.specs.Renaming.{Below, Renamed, Standing, Reworded}

pub none_in_zero : {word : ℕ} → word ≡ 0 → (i : ℕ) → bit word i ≡ true → ⊥
none_in_zero e i h = false≢true (sym (bit_zero i) ∙ ap (λ (n : ℕ). bit n i) (sym e) ∙ h)

-- ---- one word

-- of the word all are put under their ranks but the rest
pub record RenamedTo (ranks : List ℕ) (word rest under : ℕ) : Type 0 where
  pub rest_of : (i : ℕ) → bit rest i ≡ true → bit word i ≡ true
  pub has : (i : ℕ) → bit word i ≡ true → (bit rest i ≡ true → ⊥) → bit under (get_or ranks i 0) ≡ true
  pub only : (r : ℕ) → bit under r ≡ true → (i : ℕ) × ((bit word i ≡ true) × (get_or ranks i 0 ≡ r))

pub renamed_begins : (ranks : List ℕ) (word : ℕ) → RenamedTo ranks word word 0
renamed_begins ranks word = record {
  rest_of = λ i h. h;
  has = λ i h n. absurd (n h);
  only = λ r h. absurd (none_in_zero refl r h);
}

module _ {ranks : List ℕ} {word rest under : ℕ} (to : RenamedTo ranks word rest under) where
  pub renamed_on :
      (k rest' under' : ℕ) → bit rest k ≡ true → ((j : ℕ) → bit rest' j ≡ (not (eqb k j) && bit rest j))
      → ((j : ℕ) → bit under' j ≡ (eqb (get_or ranks k 0) j || bit under j)) → RenamedTo ranks word rest' under'
  renamed_on k rest' under' there out put = record {
    rest_of = λ i h. to.rest_of i (out_only k rest rest' out i h).1;
    has = λ i h n. go i h n (ℕ_discrete i k);
    only = λ r h.
        elim (put_only (get_or ranks k 0) under under' put r h) [ inl e ↦ (k, (to.rest_of k there, sym e)) | inr g ↦ to.only r g ];
  }
    where
      go : (i : ℕ) → bit word i ≡ true → (bit rest' i ≡ true → ⊥) → Dec (i ≡ k) → bit under' (get_or ranks i 0) ≡ true
      go i h n (yes e) = rw e (put_here (get_or ranks k 0) under under' put)
      go i h n (no d) =
          put_stays (get_or ranks k 0) under under' put (get_or ranks i 0) (to.has i h (λ g. n (out_stays k rest rest' out i d g)))

  pub renamed_ends : rest ≡ 0 → Renamed ranks word under
  renamed_ends e = record { has = λ i h. to.has i h (none_in_zero e i); only = to.only }

-- ---- one word after another

-- the words of all members but the rest are put under their ranks
pub record RewordedTo (members rest : ℕ) (words ranks by_rank : List ℕ) : Type 0 where
  pub has :
      (i j : ℕ) → bit members i ≡ true → bit members j ≡ true → (bit rest j ≡ true → ⊥) → bit (get_or words j 0) i ≡ true
      → bit (get_or by_rank (get_or ranks j 0) 0) (get_or ranks i 0) ≡ true
  pub only : (r s : ℕ) → bit (get_or by_rank r 0) s ≡ true → Standing members words ranks r s

pub reworded_begins : (members : ℕ) (words ranks by_rank : List ℕ) → ((j : ℕ) → get_or by_rank j 0 ≡ 0) → RewordedTo members members words ranks by_rank
reworded_begins members words ranks by_rank empty = record {
  has = λ i j h g n b. absurd (n g);
  only = λ r s h. absurd (none_in_zero (empty r) s h);
}

module _ {members rest : ℕ} {words ranks by_rank : List ℕ} (below : Below (length ranks) members) (apart : Apart ranks)
    (rest_of : (i : ℕ) → bit rest i ≡ true → bit members i ≡ true) (to : RewordedTo members rest words ranks by_rank) where
  module _ (k rest' before under : ℕ) (there : bit rest k ≡ true) (low : get_or ranks k 0 < length by_rank)
      (out : (j : ℕ) → bit rest' j ≡ (not (eqb k j) && bit rest j))
      (common : (j : ℕ) → bit before j ≡ (bit (get_or words k 0) j && bit members j))
      (renamed : Renamed ranks before under) where
    abbrev after : List ℕ
    after = set by_rank (get_or ranks k 0) under

    here : get_or after (get_or ranks k 0) 0 ≡ under
    here = get_or-set_same by_rank (get_or ranks k 0) under 0 low

    member : bit members k ≡ true
    member = rest_of k there

    has_on :
        (i j : ℕ) → bit members i ≡ true → bit members j ≡ true → (bit rest' j ≡ true → ⊥) → bit (get_or words j 0) i ≡ true → Dec (j ≡ k)
        → bit (get_or after (get_or ranks j 0) 0) (get_or ranks i 0) ≡ true
    has_on i j h g n b (yes e) = rw (e, here) (renamed.has i (common i ∙ rw (rw e at b, h)))
    has_on i j h g n b (no d) =
        rw (get_or-set_other by_rank (get_or ranks k 0) (get_or ranks j 0) under 0 (λ e. d (apart j k (below j g) (below k member) e)))
        (to.has i j h g (λ l. n (out_stays k rest rest' out j d l)) b)

    only_on : (r s : ℕ) → bit (get_or after r 0) s ≡ true → Dec (r ≡ get_or ranks k 0) → Standing members words ranks r s
    only_on r s h (yes e) =
        let (i, (within, is)) = renamed.only s (rw (e, here) at h) in
        let (comes, also) = common_both (get_or words k 0) members before common i within in
        record { one = i; other = k; one_member = also; other_member = member; one_rank = is; other_rank = sym e; before = comes }
    only_on r s h (no d) = to.only r s (rw (get_or-set_other by_rank (get_or ranks k 0) r under 0 d) at h)

    pub reworded_on : RewordedTo members rest' words ranks (set by_rank (get_or ranks k 0) under)
    reworded_on = record {
      has = λ i j h g n b. has_on i j h g n b (ℕ_discrete j k);
      only = λ r s h. only_on r s h (ℕ_discrete r (get_or ranks k 0));
    }

  pub reworded_ends : rest ≡ 0 → Reworded members words ranks by_rank
  reworded_ends e = record { has = λ i j h g. to.has i j h g (none_in_zero e j); only = to.only }
