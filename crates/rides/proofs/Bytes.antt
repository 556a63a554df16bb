-- Bytes of rides and of journeys: three each; how many rides are whole, and whether one is cut short.
-- Assumes nothing.
use mathlib.Core.Path.{◌≡◌, refl, ap}
use mathlib.Core.Logic.{◌↔◌}
use mathlib.Core.Bool.{true, false, true≢false}
use mathlib.Core.List.{List, [], ◌∷◌, ◌++◌}
use Prim.Native.Nat.{ℕ, ◌+◌, ◌*◌, ◌/◌, ◌<◌}
use native.Mathlib.Omega.{arith}
use lib.ListN.{length}
use Rattle.rides.specs.Rides.{rides_of, cut_short_lem}
use Rattle.rides.specs.Journeys.{Journey, bytes_of}

pub length_bytes : (journeys : List Journey) → length (bytes_of journeys) ≡ 3 * length journeys
unfolding bytes_of
length_bytes [] = refl
length_bytes (j ∷ rest) = omega (arith, length_bytes rest)

pub bytes_append : (some more : List Journey) → bytes_of (some ++ more) ≡ bytes_of some ++ bytes_of more
unfolding bytes_of
bytes_append [] more = refl
bytes_append (j ∷ rest) more = ap (λ (list : List ℕ). j.step ∷ j.from ∷ j.to ∷ list) (bytes_append rest more)

pub whole_rides : (bytes : List ℕ) → length (rides_of bytes) ≡ length bytes / 3
unfolding rides_of
whole_rides [] = refl
whole_rides (action ∷ []) = refl
whole_rides (action ∷ from ∷ []) = refl
whole_rides (action ∷ from ∷ to ∷ rest) = omega (arith, whole_rides rest)

-- one is cut short exactly if bytes are left behind the whole ones
pub cut_exactly : (bytes : List ℕ) → (cut_short_lem bytes ≡ true) ↔ (3 * length (rides_of bytes) < length bytes)
unfolding rides_of cut_short_lem
cut_exactly [] = (λ e. absurd (true≢false (cc)), λ h. absurd (omega arith))
cut_exactly (action ∷ []) = (λ _. omega arith, λ _. refl)
cut_exactly (action ∷ from ∷ []) = (λ _. omega arith, λ _. refl)
cut_exactly (action ∷ from ∷ to ∷ rest) = let (f, g) = cut_exactly rest in (λ e. omega (arith, f e), λ h. g (omega (arith, h)))
