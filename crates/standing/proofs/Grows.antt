-- A table with one entry more answers to a list with one more at its end.
-- Assumes nothing.
use mathlib.Core.Path.{◌≡◌, sym, subst}
use mathlib.Core.List.{List, [], ◌∷◌, ◌++◌}
use Prim.Native.Nat.{ℕ, ◌+◌, ◌-◌, ◌≤◌, ◌<◌}
use native.Mathlib.Omega.{arith}
use native.Mathlib.Decide.{dec_lt}
use lib.ListN.{length, get_or, set, length-set, get_or-append}
use lib.Seq.{get_or-set_same, get_or-set_other, get_or_at}
use Rattle.plain.proofs.Lists.{length_more}

-- what holds of each below a number and of the number
pub each_next : (P : ℕ → Type 0) (n : ℕ) → ((k : ℕ) → k < n → P k) → P n → (k : ℕ) → k < n + 1 → P k
each_next P n below at k h = from (dec_lt k n)
  where
    from : Dec (k < n) → P k
    from (yes w) = below k w
    from (no w) = let e : n ≡ k = omega arith in subst P e at

-- an entry put in at a number leaves those below
pub set_below : {A : Type 0} (l : List A) (n k : ℕ) (x d : A) → k < n → get_or (set l n x) k d ≡ get_or l k d
set_below l n k x d h = get_or-set_other l n k x d (omega arith)

-- what holds of each entry below a number and of the one put in there
pub each_entered :
    (P : ℕ → ℕ → Type 0) (table : List ℕ) (n x : ℕ)
    → n < length table
    → ((k : ℕ) → k < n → P k (get_or table k 0)) → P n x
    → (k : ℕ) → k < n + 1 → P k (get_or (set table n x) k 0)
each_entered P table n x room below at =
    each_next (λ k. P k (get_or (set table n x) k 0)) n
    (λ k h. rw (set_below table n k x 0 h) (below k h))
    (rw (get_or-set_same table n x 0 room) at)

-- the entry put in is the last of n + 1
pub last_entered : (table : List ℕ) (n x : ℕ) → n < length table → get_or (set table n x) (n + 1 - 1) 0 ≡ x
last_entered table n x room = let e : n + 1 - 1 ≡ n = omega arith in rw (e, get_or-set_same table n x 0 room)

module _ {A : Type 0} (l : List A) (a d : A) where
  -- a table of what f takes of each
  pub table_more :
      (f : A → ℕ) (table : List ℕ) (n : ℕ)
      → n ≡ length l → n < length table
      → ((k : ℕ) → k < n → get_or table k 0 ≡ f (get_or l k d))
      → (k : ℕ) → k < n + 1 → get_or (set table n (f a)) k 0 ≡ f (get_or (l ++ (a ∷ [])) k d)
  table_more f table n count room old =
      each_entered (λ k x. x ≡ f (get_or (l ++ (a ∷ [])) k d)) table n (f a) room
      (λ k h. rw (get_or-append l (a ∷ []) d k (omega arith)) (old k h))
      (rw (get_or_at l a [] d n (sym count)))

  pub last_more : get_or (l ++ (a ∷ [])) (length (l ++ (a ∷ [])) - 1) d ≡ a
  last_more = get_or_at l a [] d _ (omega (arith, length_more l a))

  pub last_set : 1 ≤ length l → get_or (set l (length l - 1) a) (length (set l (length l - 1) a) - 1) d ≡ a
  last_set some = rw (length-set l (length l - 1) a) (get_or-set_same l (length l - 1) a d (omega arith))
