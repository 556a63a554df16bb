-- The images of a list's numbers: which they are, that they differ where the numbers do, and that no more numbers are than images.
-- Assumes nothing.
use mathlib.Core.Path.{◌≡◌, refl}
use mathlib.Core.Logic.{inl, inr}
use mathlib.Core.List.{List, [], ◌∷◌, map}
use Prim.Native.Nat.{ℕ, ◌≤◌, ◌<◌}
use native.Mathlib.Omega.{arith}
use lib.ListN.{length, length-map}
use Rattle.orders.specs.Orders.{In, Distinct, Counted}
use Rattle.orders.proofs.Lists.{distinct_below}

module _ (f : ℕ → ℕ) where
  pub image_in : (xs : List ℕ) (x : ℕ) → In x xs → In (f x) (map f xs)
  image_in [] x h = absurd h
  image_in (y ∷ xs) x (inl e) = inl (rw e)
  image_in (y ∷ xs) x (inr h) = inr (image_in xs x h)

  pub in_images : (xs : List ℕ) (y : ℕ) → In y (map f xs) → (x : ℕ) × (In x xs × (y ≡ f x))
  in_images [] y h = absurd h
  in_images (x ∷ xs) y (inl e) = (x, (inl refl, e))
  in_images (x ∷ xs) y (inr h) = let (z, (g, e)) = in_images xs y h in (z, (inr g, e))

  pub distinct_images :
      (xs : List ℕ) → Distinct xs → ((x y : ℕ) → In x xs → In y xs → f x ≡ f y → x ≡ y) → Distinct (map f xs)
  distinct_images [] d one = tt
  distinct_images (x ∷ xs) (d, ds) one = (
    λ h. let (z, (g, e)) = in_images xs (f x) h in d (rw (one x z (inl refl) (inr g) e) g),
    distinct_images xs ds (λ y z h g. one y z (inr h) (inr g)),
  )

  -- no more numbers than there are images for them
  pub few_images :
      (n : ℕ) (xs : List ℕ)
      → Distinct xs → ((x y : ℕ) → In x xs → In y xs → f x ≡ f y → x ≡ y) → ((x : ℕ) → In x xs → f x < n) → length xs ≤ n
  few_images n xs d one low =
      omega (
        arith,
        length-map xs f,
        distinct_below (map f xs) n (distinct_images xs d one) (λ y h. let (x, (g, e)) = in_images xs y h in rw e (low x g)),
      )
