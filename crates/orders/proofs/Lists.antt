-- Laws of what is in a list and of lists without repeats: pigeonhole, and that a count is one number.
-- Assumes nothing.
use mathlib.Core.Path.{◌≡◌, refl, sym, ap, ◌∙◌}
use mathlib.Core.Logic.{◌⊎◌, inl, inr, ◌≢◌}
use mathlib.Core.List.{List, [], ◌∷◌, ◌++◌}
use Prim.Native.Nat.{ℕ, zero, suc, ◌≤◌, ◌<◌, suc-le-suc}
use native.Mathlib.Nat.{le_of_suc-le-suc, not-suc-le-zero}
use native.Mathlib.Omega.{arith}
use native.Mathlib.Decide.{ℕ_discrete}
use lib.ListN.{length, get_or, take}
use Rattle.ranks.specs.Ranks.{rising}
use Rattle.ranks.proofs.Laws.{length-rising, get_d_rising}
use Rattle.orders.specs.Orders.{In, Distinct, Counted}

-- ---- what is in a list

pub in_decided : (x : ℕ) (ys : List ℕ) → Dec (In x ys)
in_decided x [] = no (λ h. h)
in_decided x (y ∷ ys) = go (ℕ_discrete x y) (in_decided x ys)
  where
    go : Dec (x ≡ y) → Dec (In x ys) → Dec (In x (y ∷ ys))
    go (yes e) _ = yes (inl e)
    go (no d) (yes h) = yes (inr h)
    go (no d) (no h) = no λ t. elim t [ inl e ↦ d e | inr g ↦ h g ]

pub in_append_left : (x : ℕ) (xs ys : List ℕ) → In x xs → In x (xs ++ ys)
in_append_left x [] ys h = absurd h
in_append_left x (y ∷ xs) ys (inl e) = inl e
in_append_left x (y ∷ xs) ys (inr h) = inr (in_append_left x xs ys h)

pub in_append_right : (x : ℕ) (xs ys : List ℕ) → In x ys → In x (xs ++ ys)
in_append_right x [] ys h = h
in_append_right x (y ∷ xs) ys h = inr (in_append_right x xs ys h)

pub in_append_cases : (x : ℕ) (xs ys : List ℕ) → In x (xs ++ ys) → In x xs ⊎ In x ys
in_append_cases x [] ys h = inr h
in_append_cases x (y ∷ xs) ys (inl e) = inl (inl e)
in_append_cases x (y ∷ xs) ys (inr h) = elim (in_append_cases x xs ys h) [ inl g ↦ inl (inr g) | inr g ↦ inr g ]

pub in_take : (x : ℕ) (ys : List ℕ) (k : ℕ) → In x (take k ys) → In x ys
in_take x [] zero h = h
in_take x [] (suc k) h = h
in_take x (y ∷ ys) zero h = absurd h
in_take x (y ∷ ys) (suc k) (inl e) = inl e
in_take x (y ∷ ys) (suc k) (inr h) = inr (in_take x ys k h)

-- ---- by places

pub entry_in : (xs : List ℕ) (i : ℕ) → i < length xs → In (get_or xs i 0) xs
entry_in [] i h = absurd (not-suc-le-zero h)
entry_in (x ∷ xs) zero h = inl refl
entry_in (x ∷ xs) (suc i) h = inr (entry_in xs i (le_of_suc-le-suc h))

pub in_has_place : (x : ℕ) (xs : List ℕ) → In x xs → (i : ℕ) × ((i < length xs) × (get_or xs i 0 ≡ x))
in_has_place x [] h = absurd h
in_has_place x (y ∷ xs) (inl e) = (0, (omega arith, sym e))
in_has_place x (y ∷ xs) (inr h) = let p = in_has_place x xs h in (suc p.0, (suc-le-suc p.1.0, p.1.1))

pub distinct_entries_differ : (xs : List ℕ) → Distinct xs → (i j : ℕ) → i < j → j < length xs → get_or xs i 0 ≢ get_or xs j 0
distinct_entries_differ [] d i j b h e = not-suc-le-zero h
distinct_entries_differ (x ∷ xs) d i zero b h e = not-suc-le-zero b
distinct_entries_differ (x ∷ xs) d zero (suc j) b h e = d.0 (rw e (entry_in xs j (le_of_suc-le-suc h)))
distinct_entries_differ (x ∷ xs) d (suc i) (suc j) b h e =
    distinct_entries_differ xs d.1 i j (le_of_suc-le-suc b) (le_of_suc-le-suc h) e

pub entries_differ_distinct : (xs : List ℕ) → ((i j : ℕ) → i < j → j < length xs → get_or xs i 0 ≢ get_or xs j 0) → Distinct xs
entries_differ_distinct [] f = tt
entries_differ_distinct (x ∷ xs) f = (
  λ h. let (k, (b, e)) = in_has_place x xs h in f 0 (suc k) (omega arith) (omega arith) (sym e),
  entries_differ_distinct xs (λ i j b h. f (suc i) (suc j) (omega arith) (omega arith)),
)

-- ---- lists without repeats

-- a list with one of its numbers taken out once
pub record Without (x : ℕ) (ys : List ℕ) : Type 0 where
  pub rest : List ℕ
  pub one_less : length ys ≡ suc (length rest)
  pub others : (y : ℕ) → y ≢ x → In y ys → In y rest

pub taken_out : (x : ℕ) (ys : List ℕ) → In x ys → Without x ys
taken_out x [] h = absurd h
taken_out x (z ∷ ys) (inl e) = record {
  rest = ys;
  one_less = refl;
  others = λ y d h. elim h [ inl f ↦ absurd (d (f ∙ sym e)) | inr g ↦ g ];
}
taken_out x (z ∷ ys) (inr h) =
    let w = taken_out x ys h in
    record {
      rest = z ∷ w.rest;
      one_less = ap suc w.one_less;
      others = λ y d h. elim h [ inl f ↦ inl f | inr g ↦ inr (w.others y d g) ];
    }

-- pigeonhole
pub distinct_within : (xs ys : List ℕ) → Distinct xs → ((x : ℕ) → In x xs → In x ys) → length xs ≤ length ys
distinct_within [] ys d f = omega arith
distinct_within (x ∷ xs) ys d f =
    let w = taken_out x ys (f x (inl refl)) in
    omega (arith, w.one_less, distinct_within xs w.rest d.1 (λ y h. w.others y (λ e. d.0 (rw e at h)) (f y (inr h))))

-- ---- the numbers below n

pub below_in : (n y : ℕ) → y < n → In y (rising n)
below_in n y h = rw (get_d_rising n y h) at (entry_in (rising n) y (omega (arith, length-rising n)))

pub in_below : (n y : ℕ) → In y (rising n) → y < n
in_below n y h =
    let (i, (l, e)) = in_has_place y (rising n) h in
    let b : i < n = omega (arith, length-rising n) in
    omega (arith, get_d_rising n i b)

pub distinct_below : (xs : List ℕ) (n : ℕ) → Distinct xs → ((x : ℕ) → In x xs → x < n) → length xs ≤ n
distinct_below xs n d small = omega (arith, length-rising n, distinct_within xs (rising n) d (λ x h. below_in n x (small x h)))

-- ---- two lists without repeats

pub distinct_same_length :
    (xs ys : List ℕ) → Distinct xs → Distinct ys → ((x : ℕ) → In x xs → In x ys) → ((x : ℕ) → In x ys → In x xs)
    → length xs ≡ length ys
distinct_same_length xs ys d e f g = omega (arith, distinct_within xs ys d f, distinct_within ys xs e g)

pub all_in_or_missing : (ys xs : List ℕ) → ((y : ℕ) → In y ys → In y xs) ⊎ ((y : ℕ) × (In y ys × (In y xs → ⊥)))
all_in_or_missing [] xs = inl (λ y h. absurd h)
all_in_or_missing (z ∷ ys) xs = go (in_decided z xs) (all_in_or_missing ys xs)
  where
    go : Dec (In z xs) → ((y : ℕ) → In y ys → In y xs) ⊎ ((y : ℕ) × (In y ys × (In y xs → ⊥)))
        → ((y : ℕ) → In y (z ∷ ys) → In y xs) ⊎ ((y : ℕ) × (In y (z ∷ ys) × (In y xs → ⊥)))
    go (no n) _ = inr (z, (inl refl, n))
    go (yes h) (inl f) = inl λ y k. elim k [ inl e ↦ rw e h | inr g ↦ f y g ]
    go (yes h) (inr m) = inr (m.0, (inr m.1.0, m.1.1))

-- as many as there are, with no repeats, are all
pub distinct_fills :
    (xs ys : List ℕ) → Distinct xs → ((x : ℕ) → In x xs → In x ys) → length ys ≤ length xs → (y : ℕ) → In y ys → In y xs
distinct_fills xs ys d f l y h = go (in_decided y xs)
  where
    go : Dec (In y xs) → In y xs
    go (yes k) = k
    go (no n) = absurd (omega (arith, distinct_within (y ∷ xs) ys (n, d) (λ x k. elim k [ inl e ↦ rw e h | inr g ↦ f x g ])))

-- fewer leave one out
pub fewer_miss_one : (xs ys : List ℕ) → Distinct ys → length xs < length ys → (y : ℕ) × (In y ys × (In y xs → ⊥))
fewer_miss_one xs ys d l =
    elim (all_in_or_missing ys xs) [ inl f ↦ absurd (omega (arith, distinct_within ys xs d f)) | inr m ↦ m ]

pub distinct_append :
    (xs ys : List ℕ) → Distinct xs → Distinct ys → ((x : ℕ) → In x xs → In x ys → ⊥) → Distinct (xs ++ ys)
distinct_append [] ys d e f = e
distinct_append (x ∷ xs) ys d e f = (
  λ h. elim (in_append_cases x xs ys h) [ inl g ↦ d.0 g | inr g ↦ f x (inl refl) g ],
  distinct_append xs ys d.1 e (λ y h. f y (inr h)),
)

-- ---- counts

pub counted_unique : {P : ℕ → Type 0} {n m : ℕ} → Counted P n → Counted P m → n ≡ m
counted_unique a b =
    sym a.long
    ∙ distinct_same_length a.list b.list a.once b.once (λ x h. b.all x (a.only x h)) (λ x h. a.all x (b.only x h))
    ∙ b.long
