-- The chain from one order to another has as many exchanges as there are pairs that the two have differently, and no chain of exchanges has fewer.
-- Assumes nothing.
use Prim.Native.Nat.{ℕ, zero, suc, ◌+◌, ◌*◌, ◌≤◌}
use native.Mathlib.Omega.{arith}
use native.Mathlib.Nat.{suc-mul, mul-suc}
use native.Mathlib.Decide.{ℕ_discrete}
use mathlib.Core.Path.{◌≡◌, refl, sym, ap, ◌∙◌}
use mathlib.Core.Logic.{◌⊎◌, inl, inr, ◌≢◌}
use mathlib.Core.Bool.{Bool, true, false}
use mathlib.Core.List.{List, [], ◌∷◌, ◌++◌, map}
use lib.ListN.{length, length-append, length-map}
use borrow.Author.Tests.{eq-eqb, ne_eqb}
use Rattle.ranks.specs.Ranks.{one}
use Rattle.orders.specs.Orders.{In, Distinct, None, Plus, OrderFrom, Order}
use Rattle.orders.proofs.Members.{order_takes, takes_distinct}
use Rattle.swaps.specs.Swaps.{Exchange, here, later, Exchanged, without, each, bringing, chain, earlier, earlier_of, differing, pairs_of}
use Rattle.swaps.proofs.Joined.{front_order, in_order, none_left}

-- ---- who is earlier in a list with one more in front

module _ (y : ℕ) (ys : List ℕ) where
  first_earlier : (x : ℕ) → earlier (y ∷ ys) y x ≡ true
  unfolding earlier
  first_earlier x = rw (eq-eqb y y refl)

  none_before_first : (z : ℕ) → z ≢ y → earlier (y ∷ ys) z y ≡ false
  unfolding earlier
  none_before_first z d = rw (ne_eqb y z (λ e. d (sym e)), eq-eqb y y refl)

  others_same : (z x : ℕ) → z ≢ y → x ≢ y → earlier (y ∷ ys) z x ≡ earlier ys z x
  unfolding earlier
  others_same z x d e = rw (ne_eqb y z (λ f. d (sym f)), ne_eqb y x (λ f. e (sym f)))

  -- .. and how many of some are
  none_of : (rest : List ℕ) → (In y rest → ⊥) → earlier_of (y ∷ ys) y rest ≡ 0
  unfolding earlier_of
  none_of [] n = refl
  none_of (z ∷ rest) n = rw (none_before_first z (λ e. n (inl (sym e))), none_of rest (λ h. n (inr h)))

  same_of : (x : ℕ) → x ≢ y → (rest : List ℕ) → (In y rest → ⊥) → earlier_of (y ∷ ys) x rest ≡ earlier_of ys x rest
  unfolding earlier_of
  same_of x d [] n = refl
  same_of x d (z ∷ rest) n = rw (others_same z x (λ e. n (inl (sym e))) d, same_of x d rest (λ h. n (inr h)))

  one_more_of : (x : ℕ) → x ≢ y → (rest : List ℕ) → Distinct rest → In y rest → earlier_of (y ∷ ys) x rest ≡ suc (earlier_of ys x (without y rest))
  unfolding earlier_of without
  one_more_of x d [] p h = absurd h
  one_more_of x d (z ∷ rest) (n, p) h = go (ℕ_discrete z y) h (one_more_of x d rest p)
    where
      go : Dec (z ≡ y) → In y (z ∷ rest) → (In y rest → earlier_of (y ∷ ys) x rest ≡ suc (earlier_of ys x (without y rest)))
          → earlier_of (y ∷ ys) x (z ∷ rest) ≡ suc (earlier_of ys x (without y (z ∷ rest)))
      go (yes e) h on =
          let first : earlier (y ∷ ys) z x ≡ true = rw e (first_earlier x) in
          rw (eq-eqb z y e, first, same_of x d rest (λ g. n (rw e g))) (omega arith)
      go (no f) (inl e) on = absurd (f (sym e))
      go (no f) (inr h) on = rw (ne_eqb z y f, others_same z x f d, on h) (omega arith)

  differing_same : (xs : List ℕ) → (In y xs → ⊥) → differing xs (y ∷ ys) ≡ differing xs ys
  unfolding differing
  differing_same [] n = refl
  differing_same (x ∷ xs) n = rw (same_of x (λ e. n (inl (sym e))) xs (λ h. n (inr h)), differing_same xs (λ h. n (inr h)))

  -- what bringing a member to the front leaves different
  count_brought : (xs : List ℕ) → Distinct xs → In y xs → differing xs (y ∷ ys) ≡ length (bringing y xs) + differing (without y xs) ys
  unfolding differing bringing without
  count_brought [] p h = absurd h
  count_brought (x ∷ rest) (n, p) h = go (ℕ_discrete x y) h (count_brought rest p)
    where
      go : Dec (x ≡ y) → In y (x ∷ rest) → (In y rest → differing rest (y ∷ ys) ≡ length (bringing y rest) + differing (without y rest) ys)
          → differing (x ∷ rest) (y ∷ ys) ≡ length (bringing y (x ∷ rest)) + differing (without y (x ∷ rest)) ys
      go (yes e) h on =
          let none : earlier_of (y ∷ ys) x rest ≡ 0 = rw e (none_of rest (λ g. n (rw e g))) in
          rw (eq-eqb x y e, none, differing_same rest (λ g. n (rw e g))) (omega arith)
      go (no d) (inl e) on = absurd (d (sym e))
      go (no d) (inr h) on =
          rw (ne_eqb x y d)
          (omega (
            arith,
            one_more_of x d rest p h,
            on h,
            length-append (each x (bringing y rest)) ((y ∷ x ∷ without y rest) ∷ []),
            length-map (bringing y rest) (λ (l : List ℕ). x ∷ l),
          ))

-- ---- the chain

module _ (member : ℕ → Type 0) (before : ℕ → ℕ → Type 0) where
  counted_from :
      (taken : ℕ → Type 0) (xs ys : List ℕ) → OrderFrom member before taken xs → OrderFrom member before taken ys
      → length (chain xs ys) ≡ differing xs ys
  unfolding chain differing
  counted_from taken xs [] o p = rw (none_left member before taken xs o p)
  counted_from taken xs (y ∷ ys) o (r, p) =
      let h = in_order member before taken y xs o r in
      let once = takes_distinct member before taken xs (order_takes member before taken xs o) in
      omega (
        arith,
        counted_from (Plus y taken) (without y xs) ys (front_order member before taken y xs o r h) p,
        count_brought y ys xs once h,
        length-append (bringing y xs) (each y (chain (without y xs) ys)),
        length-map (chain (without y xs) ys) (λ (l : List ℕ). y ∷ l),
      )

  -- as many exchanges as pairs that the two orders have differently
  pub chain_counted : (xs ys : List ℕ) → Order member before xs → Order member before ys → length (chain xs ys) ≡ differing xs ys
  chain_counted = counted_from None

-- ---- no chain is shorter

one_at_most : (b : Bool) → one b ≤ 1
one_at_most true = omega arith
one_at_most false = omega arith

exchange_keeps : (ys : List ℕ) (x : ℕ) {xs zs : List ℕ} → Exchange xs zs → earlier_of ys x xs ≡ earlier_of ys x zs
unfolding earlier_of
exchange_keeps ys x here = omega arith
exchange_keeps ys x (later e) = rw (exchange_keeps ys x e)

exchange_differs : (ys : List ℕ) {xs zs : List ℕ} → Exchange xs zs → differing xs ys ≤ suc (differing zs ys)
unfolding differing earlier_of
exchange_differs ys (here {x = x} {y = y}) = omega (arith, one_at_most (earlier ys y x))
exchange_differs ys (later {x = x} e) = omega (arith, exchange_keeps ys x e, exchange_differs ys e)

same_differs_nowhere : (ys : List ℕ) → Distinct ys → differing ys ys ≡ 0
unfolding differing
same_differs_nowhere [] d = refl
same_differs_nowhere (y ∷ ys) (n, d) = rw (none_of y ys ys n, differing_same y ys ys n, same_differs_nowhere ys d)

exchanged_differs : (ys : List ℕ) (xs : List ℕ) (lists : List (List ℕ)) → Exchanged xs lists ys → differing xs ys ≤ length lists + differing ys ys
exchanged_differs ys xs [] e = rw e (omega arith)
exchanged_differs ys xs (z ∷ lists) (s, e) = omega (arith, exchange_differs ys s, exchanged_differs ys z lists e)

-- whatever lists the exchanges pass
pub no_chain_is_shorter : (xs ys : List ℕ) (lists : List (List ℕ)) → Distinct ys → Exchanged xs lists ys → differing xs ys ≤ length lists
no_chain_is_shorter xs ys lists d e = omega (arith, exchanged_differs ys xs lists e, same_differs_nowhere ys d)

-- ---- and how long it can be

earlier_at_most : (ys : List ℕ) (x : ℕ) (rest : List ℕ) → earlier_of ys x rest ≤ length rest
unfolding earlier_of
earlier_at_most ys x [] = omega arith
earlier_at_most ys x (y ∷ rest) = omega (arith, one_at_most (earlier ys y x), earlier_at_most ys x rest)

pub differing_at_most : (xs ys : List ℕ) → differing xs ys ≤ pairs_of (length xs)
unfolding differing pairs_of
differing_at_most [] ys = omega arith
differing_at_most (x ∷ xs) ys = omega (arith, earlier_at_most ys x xs, differing_at_most xs ys)

-- n numbers make n (n - 1) / 2 pairs
pub pairs_twice : (n : ℕ) → 2 * pairs_of n + n ≡ n * n
unfolding pairs_of
pairs_twice zero = omega arith
pairs_twice (suc n) = omega (arith, pairs_twice n, suc-mul n (suc n), mul-suc n n)
