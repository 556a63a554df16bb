-- Sets that grow by one number or lose one, and what they have then.
-- Assumes nothing.
use mathlib.Core.Path.{◌≡◌, refl, sym, ap, subst, ◌∙◌}
use mathlib.Core.Logic.{inl, inr, ◌≢◌}
use mathlib.Core.Bool.{true, false, or-true, true≢false}
use mathlib.Core.List.{List, [], ◌∷◌, ◌++◌}
use Prim.Native.Nat.{ℕ, ◌+◌, ◌-◌, ◌≤◌, ◌<◌}
use native.Mathlib.Numerals.{add-one}
use native.Mathlib.Omega.{arith}
use native.Mathlib.Decide.{ℕ_discrete}
use lib.Dec.{eqb}
use lib.ListN.{length, get_or, take, drop, length-drop}
use lib.Seq.{take-suc, take_all}
use borrow.Author.Tests.{eq-eqb, ne_eqb}
use borrow.Author.Count.{below_more}
use Rattle.bits.specs.Bits.{within, Added, Removed}
use Rattle.orders.specs.Orders.{In}
use Rattle.orders.proofs.Lists.{in_append_left, in_append_right, in_append_cases}
use Rattle.stranding.specs.Left.{HasJust, Less}

-- ---- one number more or less

module _ {x : ℕ} {before after : List ℕ} where
  added_own : Added x before after → within after x ≡ true
  added_own added = rw (added.members x, eq-eqb x x refl)

  added_kept : Added x before after → (y : ℕ) → within before y ≡ true → within after y ≡ true
  added_kept added y h = rw (added.members y, h) (or-true (eqb x y))

  added_other : Added x before after → (y : ℕ) → y ≢ x → within after y ≡ true → within before y ≡ true
  added_other added y other h = rw (added.members y, ne_eqb x y (λ e. other (sym e))) at h

  removed_own : Removed x before after → within after x ≡ false
  removed_own removed = rw (removed.members x, eq-eqb x x refl)

  removed_other : Removed x before after → (y : ℕ) → y ≢ x → within after y ≡ within before y
  removed_other removed y other = rw (removed.members y, ne_eqb x y (λ e. other (sym e)))

-- ---- a set that is put together

-- the set has those of the first n numbers that P is so of, and none besides
pub record HasFirst (P : ℕ → Type 0) (n : ℕ) (set : List ℕ) : Type 0 where
  pub all : (x : ℕ) → x < n → P x → within set x ≡ true
  pub only : (x : ℕ) → within set x ≡ true → (x < n) × P x

pub none_first : {P : ℕ → Type 0} {set : List ℕ} → ((i : ℕ) → within set i ≡ false) → HasFirst P 0 set
none_first empty = record { all = λ x h. absurd (omega arith); only = λ x h. absurd (true≢false (sym h ∙ empty x)) }

module _ {P : ℕ → Type 0} {i : ℕ} {set : List ℕ} (has : HasFirst P i set) where
  pub first_skipped : (P i → ⊥) → HasFirst P (i + 1) set
  first_skipped not_so = record {
    all = below_more (λ x. P x → within set x ≡ true) i has.all (λ so. absurd (not_so so));
    only = λ x h. let (low, so) = has.only x h in (omega arith, so);
  }

  pub first_added : {set' : List ℕ} → P i → Added i set set' → HasFirst P (i + 1) set'
  first_added {set'} so added = record {
    all = below_more (λ x. P x → within set' x ≡ true) i (λ x h p. added_kept added x (has.all x h p)) (λ _. added_own added);
    only = λ x h. from x h (ℕ_discrete x i);
  }
    where
      from : (x : ℕ) → within set' x ≡ true → Dec (x ≡ i) → (x < i + 1) × P x
      from x h (yes e) = rw e (omega arith, so)
      from x h (no d) = let (low, p) = has.only x (added_other added x d h) in (omega arith, p)

  pub first_all : ((x : ℕ) → P x → x < i) → HasJust P set
  first_all low x _ = (λ h. (has.only x h).1, λ p. has.all x (low x p) p)

-- ---- a set that a list is taken out of

pub less_none : (set : List ℕ) → Less [] set set
less_none set x _ = (λ h. (h, λ n. n), λ h. h.0)

less_last :
    (list before : List ℕ) {set set' : List ℕ} {y : ℕ} → Less list before set → Removed y set set' → Less (list ++ (y ∷ [])) before set'
less_last list before {set} {set'} {y} less removed x low = (there (ℕ_discrete x y), back (ℕ_discrete x y))
  where
    there : Dec (x ≡ y) → within set' x ≡ true → (within before x ≡ true) × (In x (list ++ (y ∷ [])) → ⊥)
    there (yes e) h = absurd (true≢false (sym h ∙ rw e (removed_own removed)))
    there (no d) h =
        let (b, out) = (less x low).0 (sym (removed_other removed x d) ∙ h) in
        (b, λ m. elim (in_append_cases x list (y ∷ []) m) [ inl k ↦ out k | inr k ↦ elim k [ inl e ↦ d e | inr n ↦ n ] ])

    back : Dec (x ≡ y) → (within before x ≡ true) × (In x (list ++ (y ∷ [])) → ⊥) → within set' x ≡ true
    back (yes e) (b, out) = absurd (out (in_append_right x list (y ∷ []) (inl e)))
    back (no d) (b, out) =
        removed_other removed x d ∙ (less x low).1 (b, λ m. out (in_append_left x list (y ∷ []) m))

-- the list's next entry is taken out
pub less_next :
    (list before : List ℕ) {set set' : List ℕ} (k : ℕ) → k < length list
    → Less (take k list) before set → Removed (get_or list k 0) set set'
    → Less (take (k + 1) list) before set'
less_next list before k h less removed =
    rw (add-one k, take-suc list k 0 h) (less_last (take k list) before less removed)

-- the list is the room's part behind 256
pub less_all :
    (room before set : List ℕ) (n k : ℕ) → length (take (256 + n - 256) (drop 256 room)) ≤ k
    → Less (take k (take (256 + n - 256) (drop 256 room))) before set → Less (take n (drop 256 room)) before set
less_all room before set n k h less =
    let few : 256 + n - 256 ≡ n = omega arith in
    let whole : take k (take (256 + n - 256) (drop 256 room)) ≡ take n (drop 256 room) = take_all k _ h ∙ ap (λ (m : ℕ). take m (drop 256 room)) few in
    subst (λ (list : List ℕ). Less list before set) whole less
