-- What a test tells: of the one that is picked, of a refusal that was not earned, and of another test.
-- Assumes nothing.
use mathlib.Core.Path.{◌≡◌, refl, sym}
use mathlib.Core.Logic.{◌⊎◌, inl, inr}
use mathlib.Core.Bool.{Bool, true, false, ◌&&◌, ◌||◌}
use Prim.Native.Nat.{ℕ, suc}
use native.Mathlib.Omega.{arith}
use Rattle.plain.specs.Choose.{pick}

-- what holds of each where it is picked holds of the picked one
pub picked : {A : Type 0} (P : A → Type 0) (b : Bool) {x y : A} → (b ≡ true → P x) → (b ≡ false → P y) → P (pick b x y)
picked P true f g = f refl
picked P false f g = g refl

-- .. and of two picked by one test
pub picked_both :
    {A B : Type 0} (P : A → B → Type 0) (b : Bool) {x y : A} {z w : B}
    → (b ≡ true → P x z) → (b ≡ false → P y w) → P (pick b x y) (pick b z w)
picked_both P true f g = f refl
picked_both P false f g = g refl

-- a test that refuses where it holds
pub not_refused : (b : Bool) (n m : ℕ) → pick b (suc n) m ≡ 0 → (b ≡ false) × (m ≡ 0)
not_refused true n m e = absurd (omega arith)
not_refused false n m e = (refl, e)

-- a test that refuses where it fails
pub not_missed : (b : Bool) (n : ℕ) → pick b 0 (suc n) ≡ 0 → b ≡ true
not_missed true n e = refl
not_missed false n e = absurd (omega arith)

pub either : (a b : Bool) → (a || b) ≡ true → (a ≡ true) ⊎ (b ≡ true)
either true b e = inl refl
either false b e = inr e

-- tests that hold together are one
pub same_test : (a b : Bool) → (a ≡ true → b ≡ true) → (b ≡ true → a ≡ true) → a ≡ b
same_test true b f g = sym (f refl)
same_test false true f g = g refl
same_test false false f g = refl

-- the second test counts only where the first holds
pub and_same : (a b c : Bool) → (a ≡ true → b ≡ c) → (a && b) ≡ (a && c)
and_same true b c f = f refl
and_same false b c f = refl
