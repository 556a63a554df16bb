-- All orders of the members of a list, one after another, by a test of what comes before what.
-- Assumes nothing.
use Prim.Native.Nat.{ℕ, zero, suc, ◌≤◌}
use native.Mathlib.Omega.{arith}
use mathlib.Core.Path.{◌≡◌, refl, ap}
use mathlib.Core.Logic.{◌⊎◌, inl, inr}
use mathlib.Core.Bool.{Bool, true, false}
use mathlib.Core.List.{List, [], ◌∷◌, ◌++◌}
use lib.ListN.{length}
use Rattle.plain.specs.Choose.{pick}
use Rattle.orders.specs.Orders.{In, OrderFrom}
use Rattle.worked.specs.Table.{OneOf}
use Rattle.reference.proofs.Tests.{Says, holds, fails, among, every, says_among, says_every}
use Rattle.reference.proofs.Choosing.{ready, says_ready}

-- lists with one more in front
abbrev pub each_after : ℕ → List (List ℕ) → List (List ℕ)
each_after x [] = []
each_after x (l ∷ ls) = (x ∷ l) ∷ each_after x ls

abbrev pub if_passes : Bool → (ℕ → List (List ℕ)) → ℕ → List (List ℕ)
if_passes true follow x = each_after x (follow x)
if_passes false follow x = []

-- a first number that passes, then one of the lists that may follow it
unfoldable pub starting_with : (ℕ → Bool) → (ℕ → List (List ℕ)) → List ℕ → List (List ℕ)
starting_with ok follow [] = []
starting_with ok follow (x ∷ rest) = if_passes (ok x) follow x ++ starting_with ok follow rest

-- the empty list, where all are taken
abbrev pub at_end : List ℕ → List ℕ → List (List ℕ)
at_end all taken = pick (every (among taken) all) ([] ∷ []) []

-- every order of what is left
unfoldable pub orders : (ℕ → ℕ → Bool) → List ℕ → ℕ → List ℕ → List (List ℕ)
orders before all zero taken = at_end all taken
orders before all (suc n) taken =
    at_end all taken ++ starting_with (ready before all taken) (λ x. orders before all n (x ∷ taken)) all

-- ---- lists of lists

one_of_left : (list : List ℕ) (ks ls : List (List ℕ)) → OneOf list ks → OneOf list (ks ++ ls)
one_of_left list [] ls h = absurd h
one_of_left list (k ∷ ks) ls (inl e) = inl e
one_of_left list (k ∷ ks) ls (inr h) = inr (one_of_left list ks ls h)

one_of_right : (list : List ℕ) (ks ls : List (List ℕ)) → OneOf list ls → OneOf list (ks ++ ls)
one_of_right list [] ls h = h
one_of_right list (k ∷ ks) ls h = inr (one_of_right list ks ls h)

one_of_cases : (list : List ℕ) (ks ls : List (List ℕ)) → OneOf list (ks ++ ls) → OneOf list ks ⊎ OneOf list ls
one_of_cases list [] ls h = inr h
one_of_cases list (k ∷ ks) ls (inl e) = inl (inl e)
one_of_cases list (k ∷ ks) ls (inr h) = elim (one_of_cases list ks ls h) [ inl g ↦ inl (inr g) | inr g ↦ inr g ]

after_one_of : (x : ℕ) (list : List ℕ) (ls : List (List ℕ)) → OneOf list ls → OneOf (x ∷ list) (each_after x ls)
after_one_of x list [] h = absurd h
after_one_of x list (l ∷ ls) (inl e) = inl (ap (λ (r : List ℕ). x ∷ r) e)
after_one_of x list (l ∷ ls) (inr h) = inr (after_one_of x list ls h)

one_of_after : (x : ℕ) (list : List ℕ) (ls : List (List ℕ)) → OneOf list (each_after x ls) → (rest : List ℕ) × ((list ≡ x ∷ rest) × OneOf rest ls)
one_of_after x list [] h = absurd h
one_of_after x list (l ∷ ls) (inl e) = (l, (e, inl refl))
one_of_after x list (l ∷ ls) (inr h) = let (rest, (e, g)) = one_of_after x list ls h in (rest, (e, inr g))

module _ {P : ℕ → Type 0} {ok : ℕ → Bool} (says : (y : ℕ) → Says (P y) (ok y)) (follow : ℕ → List (List ℕ)) where
  starts : (x : ℕ) (rest : List ℕ) (xs : List ℕ) → In x xs → P x → OneOf rest (follow x) → OneOf (x ∷ rest) (starting_with ok follow xs)
  unfolding starting_with
  starts x rest [] i p h = absurd i
  starts x rest (y ∷ xs) (inl e) p h = one_of_left (x ∷ rest) (if_passes (ok y) follow y) (starting_with ok follow xs) (go (says y))
    where
      go : {b : Bool} → Says (P y) b → OneOf (x ∷ rest) (if_passes b follow y)
      go (holds _) = rw (← e) (after_one_of x rest (follow x) h)
      go (fails n) = absurd (n (rw e at p))
  starts x rest (y ∷ xs) (inr i) p h =
      one_of_right (x ∷ rest) (if_passes (ok y) follow y) (starting_with ok follow xs) (starts x rest xs i p h)

  -- a list that starts so
  record Started (list xs : List ℕ) : Type 0 where
    head : ℕ
    rest : List ℕ
    is : list ≡ head ∷ rest
    within : In head xs
    passes : P head
    follows : OneOf rest (follow head)

  started : (list xs : List ℕ) → OneOf list (starting_with ok follow xs) → Started list xs
  unfolding starting_with
  started list [] h = absurd h
  started list (y ∷ xs) h =
      from (one_of_cases list (if_passes (ok y) follow y) (starting_with ok follow xs) h) (λ g. started list xs g)
    where
      here : {b : Bool} → Says (P y) b → OneOf list (if_passes b follow y) → Started list (y ∷ xs)
      here (holds p) g =
          let (rest, (e, f)) = one_of_after y list (follow y) g in
          record { head = y; rest = rest; is = e; within = inl refl; passes = p; follows = f }
      here (fails n) g = absurd g

      from : OneOf list (if_passes (ok y) follow y) ⊎ OneOf list (starting_with ok follow xs)
          → (OneOf list (starting_with ok follow xs) → Started list xs) → Started list (y ∷ xs)
      from (inl g) on = here (says y) g
      from (inr g) on =
          let s = on g in
          record { head = s.head; rest = s.rest; is = s.is; within = inr s.within; passes = s.passes; follows = s.follows }

-- ---- the lists are the orders

module _
    (member : ℕ → Type 0) (before : ℕ → ℕ → Type 0)
    (all : List ℕ) (in_all : (x : ℕ) → member x → In x all) (only : (x : ℕ) → In x all → member x)
    {test : ℕ → ℕ → Bool} (says : (x y : ℕ) → Says (before x y) (test x y)) where
  ended : (taken : List ℕ) → ((x : ℕ) → member x → In x taken) → OneOf [] (at_end all taken)
  ended taken f = go (says_every (λ y. says_among y taken) all)
    where
      go : {b : Bool} → Says ((y : ℕ) → In y all → In y taken) b → OneOf [] (pick b ([] ∷ []) [])
      go (holds _) = inl refl
      go (fails n) = absurd (n (λ y h. f y (only y h)))

  ends : (taken list : List ℕ) → OneOf list (at_end all taken) → OrderFrom member before (λ y. In y taken) list
  ends taken list = go (says_every (λ y. says_among y taken) all)
    where
      go : {b : Bool} → Says ((y : ℕ) → In y all → In y taken) b → OneOf list (pick b ([] ∷ []) []) → OrderFrom member before (λ y. In y taken) list
      go (holds f) (inl e) = rw e (λ x m. f x (in_all x m))
      go (holds f) (inr h) = absurd h
      go (fails n) h = absurd h

  pub order_listed :
      (n : ℕ) (taken list : List ℕ) → OrderFrom member before (λ y. In y taken) list → length list ≤ n → OneOf list (orders test all n taken)
  unfolding orders
  order_listed zero taken [] o h = ended taken o
  order_listed zero taken (x ∷ rest) o h = absurd (omega arith)
  order_listed (suc n) taken [] o h =
      one_of_left [] (at_end all taken) (starting_with (ready test all taken) (λ x. orders test all n (x ∷ taken)) all)
      (ended taken o)
  order_listed (suc n) taken (x ∷ rest) o h =
      one_of_right (x ∷ rest) (at_end all taken) (starting_with (ready test all taken) (λ x. orders test all n (x ∷ taken)) all)
      (starts (says_ready member before all in_all only says taken) (λ x. orders test all n (x ∷ taken)) x rest all
      (in_all x o.0.is_member) o.0 (order_listed n (x ∷ taken) rest o.1 (omega arith)))

  pub listed_is_order :
      (n : ℕ) (taken list : List ℕ) → OneOf list (orders test all n taken) → OrderFrom member before (λ y. In y taken) list
  unfolding orders
  listed_is_order zero taken list h = ends taken list h
  listed_is_order (suc n) taken list h =
      go (one_of_cases list (at_end all taken) (starting_with (ready test all taken) (λ x. orders test all n (x ∷ taken)) all) h)
      (λ x rest. listed_is_order n (x ∷ taken) rest)
    where
      go : OneOf list (at_end all taken) ⊎ OneOf list (starting_with (ready test all taken) (λ x. orders test all n (x ∷ taken)) all)
          → ((x : ℕ) (rest : List ℕ) → OneOf rest (orders test all n (x ∷ taken)) → OrderFrom member before (λ y. In y (x ∷ taken)) rest)
          → OrderFrom member before (λ y. In y taken) list
      go (inl g) on = ends taken list g
      go (inr g) on =
          let s = started (says_ready member before all in_all only says taken) (λ x. orders test all n (x ∷ taken)) list all g in
          rw s.is (s.passes, on s.head s.rest s.follows)
