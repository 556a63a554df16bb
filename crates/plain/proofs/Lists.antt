-- Lists with one more at the end, and with one changed: what holds of each and of their parts; tables of zeros.
-- Assumes nothing.
use mathlib.Core.Path.{◌≡◌, refl, ap}
use mathlib.Core.Logic.{◌≢◌}
use mathlib.Core.List.{List, [], ◌∷◌, ◌++◌}
use Prim.Native.Nat.{ℕ, zero, suc, ◌+◌, ◌<◌}
use native.Mathlib.Nat.{zero-add, suc-add}
use native.Mathlib.Omega.{arith}
use lib.ListN.{length, get_or, set, take, drop, length-append, replicate}

module _ {A : Type 0} where
  pub length_more : (l : List A) (x : A) → length (l ++ (x ∷ [])) ≡ suc (length l)
  length_more l x = omega (arith, length-append l (x ∷ []))

  -- what is changed behind the first n is changed in the rest
  pub drop_set : (n k : ℕ) (l : List A) (x : A) → drop n (set l (n + k) x) ≡ set (drop n l) k x
  drop_set zero k l x = rw (zero-add k)
  drop_set (suc n) k [] x = refl
  drop_set (suc n) k (y ∷ l) x = rw (suc-add n k) (drop_set n k l x)

  -- .. and the first n are as they were
  pub take_set : (n k : ℕ) (l : List A) (x : A) → take n (set l (n + k) x) ≡ take n l
  take_set zero k l x = refl
  take_set (suc n) k [] x = refl
  take_set (suc n) k (y ∷ l) x = rw (suc-add n k) (ap (λ (r : List A). y ∷ r) (take_set n k l x))

  -- what holds of each and of the new one, by index
  pub each_more :
      (P : ℕ → A → Type 0) (l : List A) (x d : A)
      → ((i : ℕ) → i < length l → P i (get_or l i d)) → P (length l) x
      → (i : ℕ) → i < length (l ++ (x ∷ [])) → P i (get_or (l ++ (x ∷ [])) i d)
  each_more P [] x d f p zero h = p
  each_more P [] x d f p (suc i) h = absurd (omega arith)
  each_more P (y ∷ l) x d f p zero h = f 0 (omega arith)
  each_more P (y ∷ l) x d f p (suc i) h = each_more (λ j. P (suc j)) l x d (λ j g. f (suc j) (omega arith)) p i (omega arith)

  -- what holds of each and of the one that is put in
  pub each_set :
      (P : A → Type 0) (l : List A) (k : ℕ) (x d : A)
      → ((i : ℕ) → i < length l → P (get_or l i d)) → P x
      → (i : ℕ) → i < length (set l k x) → P (get_or (set l k x) i d)
  each_set P [] k x d f p i h = absurd (omega arith)
  each_set P (y ∷ l) zero x d f p zero h = p
  each_set P (y ∷ l) zero x d f p (suc i) h = f (suc i) h
  each_set P (y ∷ l) (suc k) x d f p zero h = f 0 (omega arith)
  each_set P (y ∷ l) (suc k) x d f p (suc i) h = each_set P l k x d (λ j g. f (suc j) (omega arith)) p i (omega arith)

  -- what the one that is put in shares with the one before it stays as it was
  pub set_keeps :
      {B : Type 0} (f : A → B) (l : List A) (k : ℕ) (x d : A)
      → f x ≡ f (get_or l k d) → (i : ℕ) → f (get_or (set l k x) i d) ≡ f (get_or l i d)
  set_keeps f [] k x d e i = refl
  set_keeps f (y ∷ l) zero x d e zero = e
  set_keeps f (y ∷ l) zero x d e (suc i) = refl
  set_keeps f (y ∷ l) (suc k) x d e zero = refl
  set_keeps f (y ∷ l) (suc k) x d e (suc i) = set_keeps f l k x d e i

  -- what holds of the one that is put in, of what stands past the end and of each at another place
  pub one_set :
      (P : A → Type 0) (l : List A) (k : ℕ) (x d : A)
      → P x → P d → (i : ℕ) → (i ≢ k → P (get_or l i d)) → P (get_or (set l k x) i d)
  one_set P [] k x d p q i f = q
  one_set P (y ∷ l) zero x d p q zero f = p
  one_set P (y ∷ l) zero x d p q (suc i) f = f (omega arith)
  one_set P (y ∷ l) (suc k) x d p q zero f = f (omega arith)
  one_set P (y ∷ l) (suc k) x d p q (suc i) f = one_set P l k x d p q i (λ o. f (omega arith))

-- a table of zeros holds 0 wherever one looks
pub all_zeros : (n j : ℕ) → ◌≡◌ {A = ℕ} (get_or (replicate n 0) j 0) 0
all_zeros zero j = refl
all_zeros (suc n) zero = refl
all_zeros (suc n) (suc j) = all_zeros n j
