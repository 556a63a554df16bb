-- One pass over the pairs: those passed are not astray, and just they are linked; for any links, and for rows.
-- Assumes nothing.
use mathlib.Core.Path.{◌≡◌, refl, sym, ◌∙◌}
use mathlib.Core.Logic.{◌⊎◌, inl, inr, ◌≢◌, ◌↔◌}
use mathlib.Core.Bool.{Bool, true, false, not, true≢false}
use mathlib.Core.List.{List, [], ◌∷◌, ◌++◌}
use Prim.Native.Nat.{ℕ, ◌+◌, ◌*◌, ◌/◌, ◌<◌}
use native.Mathlib.Numerals.{add-one}
use native.Mathlib.Omega.{arith}
use native.Mathlib.Decide.{ℕ_discrete}
use lib.ListN.{length, get_or, take, set, length-set}
use lib.Seq.{take-suc, take-length, get_or-set_same, get_or-set_other}
use borrow.Author.Count.{below_more}
use Rattle.bits.specs.Bits.{within, Added}
use Rattle.bits.proofs.Members.{added_there, added_keeps, added_only, not_both}
use Rattle.orders.specs.Orders.{In}
use Rattle.charts.specs.Charts.{Pair, Paired, pair, pairs_of}
use Rattle.charts.specs.Faults.{Astray, this_unlisted, that_unlisted, itself, pair_at}
use Rattle.linking.specs.Linking.{Rows, Linked, Shaped}
use Rattle.listing.specs.Listing.{LinkedBy, TellsStray, LinksTo}
use Rattle.listing.proofs.Pairs.{length_pairs, pair_at_lem, lone_pair}

-- ---- one pair

-- a test tells what is listed
module _ (list : List ℕ) (listed : ℕ → Bool) (is : (i : ℕ) → (listed i ≡ true) ↔ In i list) {x y : ℕ} where
  pub stray_same : x ≡ y → TellsStray list (pair x y) true
  stray_same e = record { astray = λ _. itself e; fine = λ f. absurd (true≢false f) }

  pub stray_first : listed x ≡ false → TellsStray list (pair x y) true
  stray_first out = record { astray = λ _. this_unlisted (λ h. not_both ((is x).1 h) out); fine = λ f. absurd (true≢false f) }

  -- where the first is listed and another, the second tells
  pub second_told : x ≢ y → listed x ≡ true → (r : Bool) → r ≡ listed y → TellsStray list (pair x y) (not r)
  second_told apart one true e = record { astray = λ f. absurd (true≢false (sym f)); fine = λ _. go }
    where
      go : Astray list (pair x y) → ⊥
      go (this_unlisted out) = out ((is x).0 one)
      go (that_unlisted out) = out ((is y).0 (sym e))
      go (itself f) = apart f
  second_told apart one false e = record { astray = λ _. that_unlisted (λ h. not_both ((is y).1 h) (sym e)); fine = λ f. absurd (true≢false f) }

-- ---- one pair more in the rows

paired_left : (ps : List Pair) (p : Pair) (x y : ℕ) → Paired ps x y → Paired (ps ++ (p ∷ [])) x y
paired_left [] p x y h = absurd h
paired_left (r ∷ ps) p x y (inl h) = inl h
paired_left (r ∷ ps) p x y (inr h) = inr (paired_left ps p x y h)

paired_last : (ps : List Pair) (p : Pair) → Paired (ps ++ (p ∷ [])) p.this p.that
paired_last [] p = inl (refl, refl)
paired_last (r ∷ ps) p = inr (paired_last ps p)

paired_cases : (ps : List Pair) (p : Pair) (x y : ℕ) → Paired (ps ++ (p ∷ [])) x y → Paired ps x y ⊎ ((p.this ≡ x) × (p.that ≡ y))
paired_cases [] p x y (inl h) = inr h
paired_cases [] p x y (inr h) = absurd h
paired_cases (r ∷ ps) p x y (inl h) = inl (inl h)
paired_cases (r ∷ ps) p x y (inr h) = elim (paired_cases ps p x y h) [ inl g ↦ inl (inr g) | inr g ↦ inr g ]

-- links with 'x before y' besides
abbrev pub OneMore : (x y : ℕ) → (linked linked' : ℕ → ℕ → Type 0) → Type 0
OneMore x y linked linked' = (a b : ℕ) → linked' a b ↔ (linked a b ⊎ ((x ≡ a) × (y ≡ b)))

linked_more :
    (ps : List Pair) {linked linked' : ℕ → ℕ → Type 0} (x y : ℕ) → LinkedBy ps linked → OneMore x y linked linked'
    → LinkedBy (ps ++ (pair x y ∷ [])) linked'
linked_more ps {linked} {linked'} x y is more a b = (λ l. there ((more a b).0 l), λ p. (more a b).1 (back (paired_cases ps (pair x y) a b p)))
  where
    there : linked a b ⊎ ((x ≡ a) × (y ≡ b)) → Paired (ps ++ (pair x y ∷ [])) a b
    there (inl l) = paired_left ps (pair x y) a b ((is a b).0 l)
    there (inr (e, f)) = rw (← e, ← f) (paired_last ps (pair x y))

    back : Paired ps a b ⊎ ((x ≡ a) × (y ≡ b)) → linked a b ⊎ ((x ≡ a) × (y ≡ b))
    back (inl p) = inl ((is a b).1 p)
    back (inr e) = inr e

-- ---- where the pass stands

pub record PassedTo (bytes : List ℕ) (holds : List ℕ → Type 0) (linked : ℕ → ℕ → Type 0) (k : ℕ) : Type 0 where
  pub fine : (list : List ℕ) → holds list → (j : ℕ) → j < k → Astray list (pair_at (pairs_of bytes) j) → ⊥
  pub by_pairs : LinkedBy (take k (pairs_of bytes)) linked

pub none_passed : {bytes : List ℕ} {holds : List ℕ → Type 0} {linked : ℕ → ℕ → Type 0} → ((x y : ℕ) → linked x y → ⊥) → PassedTo bytes holds linked 0
none_passed none = record {
  fine = λ list is j h. absurd (omega arith);
  by_pairs = λ x y. (λ l. absurd (none x y l), λ p. absurd p);
}

module _ {bytes : List ℕ} {holds : List ℕ → Type 0} {linked : ℕ → ℕ → Type 0} {k : ℕ} (under : PassedTo bytes holds linked k) where
  module _ (h : k < length bytes / 2) where
    there : k < length (pairs_of bytes)
    there = omega (arith, length_pairs bytes)

    here : pair_at (pairs_of bytes) k ≡ pair (get_or bytes (2 * k) 0) (get_or bytes (2 * k + 1) 0)
    here = pair_at_lem bytes k (2 * k) refl (omega arith)

    pub breaks_off :
        ((list : List ℕ) → holds list → TellsStray list (pair (get_or bytes (2 * k) 0) (get_or bytes (2 * k + 1) 0)) true)
        → (list : List ℕ) → holds list → LinksTo list (pairs_of bytes) linked k
    breaks_off stray list is = record {
      most = omega (arith, there);
      first = λ _. record { there = there; astray = rw here ((stray list is).astray refl); before = under.fine list is };
      none = λ e. absurd (omega (arith, there));
      by_pairs = λ e. absurd (omega (arith, there));
    }

    pub goes_on :
        {linked' : ℕ → ℕ → Type 0}
        → ((list : List ℕ) → holds list → TellsStray list (pair (get_or bytes (2 * k) 0) (get_or bytes (2 * k + 1) 0)) false)
        → OneMore (get_or bytes (2 * k) 0) (get_or bytes (2 * k + 1) 0) linked linked'
        → PassedTo bytes holds linked' (k + 1)
    goes_on fine more = record {
      fine =
          λ list is. below_more (λ j. Astray list (pair_at (pairs_of bytes) j) → ⊥) k (under.fine list is)
          (rw here ((fine list is).fine refl));
      by_pairs =
          rw (add-one k, take-suc (pairs_of bytes) k (pair 0 0) there, here)
          (linked_more (take k (pairs_of bytes)) (get_or bytes (2 * k) 0) (get_or bytes (2 * k + 1) 0) under.by_pairs more);
    }

  -- all whole pairs are passed, and a last byte may stand alone
  pub ends : k ≡ length bytes / 2 → (list : List ℕ) → holds list → LinksTo list (pairs_of bytes) linked k
  ends h list is = go (ℕ_discrete (2 * k) (length bytes))
    where
      go : Dec (2 * k ≡ length bytes) → LinksTo list (pairs_of bytes) linked k
      go (yes e) =
          let all : k ≡ length (pairs_of bytes) = omega (arith, length_pairs bytes) in
          record {
            most = omega arith;
            first = λ l. absurd (omega arith);
            none = λ _ j l. under.fine list is j (omega arith);
            by_pairs = λ _. rw (all, take-length) at under.by_pairs;
          }
      go (no d) =
          let lone : 2 * k + 1 ≡ length bytes = omega arith in
          let there : k < length (pairs_of bytes) = omega (arith, length_pairs bytes) in
          record {
            most = omega arith;
            first = λ _. record {
              there = there;
              astray = rw (lone_pair bytes k (2 * k) refl lone) (itself refl);
              before = under.fine list is;
            };
            none = λ e. absurd (omega arith);
            by_pairs = λ e. absurd (omega arith);
          }

-- ---- one pair more in the rows

pub rows_more :
    (rows : Rows) (row : List ℕ) (x y : ℕ) → x < length rows → Added y (get_or rows x []) row → OneMore x y (Linked rows) (Linked (set rows x row))
rows_more rows row x y h added a b = go (ℕ_discrete a x)
  where
    own : (within row b ≡ true) ↔ ((within (get_or rows x []) b ≡ true) ⊎ ((x ≡ x) × (y ≡ b)))
    own = (
      λ w. elim (added_only added b w) [ inl g ↦ inl g | inr e ↦ inr (refl, e) ],
      λ p. elim p [ inl g ↦ added_keeps added b g | inr g ↦ rw g.1 at (added_there added) ],
    )

    go : Dec (a ≡ x) → (within (get_or (set rows x row) a []) b ≡ true) ↔ ((within (get_or rows a []) b ≡ true) ⊎ ((x ≡ a) × (y ≡ b)))
    go (yes e) = rw (e, get_or-set_same rows x row [] h) own
    go (no d) = rw (get_or-set_other rows x a row [] d) (λ w. inl w, λ p. elim p [ inl g ↦ g | inr g ↦ absurd (d (sym g.0)) ])

pub shaped_kept : (rows : Rows) (x : ℕ) (row : List ℕ) → x < 256 → Shaped rows → length row ≡ 4 → Shaped (set rows x row)
shaped_kept rows x row low shaped four = record { long = length-set rows x row ∙ shaped.long; fours = λ a h. go a h (ℕ_discrete a x) }
  where
    go : (a : ℕ) → a < 256 → Dec (a ≡ x) → length (get_or (set rows x row) a []) ≡ 4
    go a h (yes e) = rw (e, get_or-set_same rows x row [] (omega (arith, shaped.long))) four
    go a h (no d) = rw (get_or-set_other rows x a row [] d) (shaped.fours a h)
