-- Where entries stand, one behind another: what stands before an entry decides its place.
-- Assumes nothing.
use mathlib.Core.Path.{◌≡◌, refl}
use mathlib.Core.List.{List, []}
use Prim.Native.Nat.{ℕ, zero, suc, ◌+◌, ◌≤◌}
use native.Mathlib.Omega.{arith}
use lib.ListN.{get_or, take}
use Rattle.std.proofs.lemmas.List.{get_or-take}
use Rattle.repeats.specs.Repeats.{entry_length_lem, place_of}

abbrev entry_bytes : List ℕ → ℕ
entry_bytes entry = entry_length_lem (get_or entry 3 0) (get_or entry 4 0)

pub place_next :
    (front : ℕ) (entries : List (List ℕ)) (k : ℕ) {entry : List ℕ} → get_or entries k [] ≡ entry
    → place_of front entries (k + 1) ≡ place_of front entries k + entry_length_lem (get_or entry 3 0) (get_or entry 4 0)
place_next front entries k e =
    let next : k + 1 ≡ suc k = omega arith in
    rw (next, e) refl

place_of_first : (front : ℕ) (entries : List (List ℕ)) (n k : ℕ) → k ≤ n → place_of front (take n entries) k ≡ place_of front entries k
place_of_first front entries n zero h = refl
place_of_first front entries n (suc k) h = rw (get_or-take n entries k [] (omega arith), place_of_first front entries n k (omega arith)) refl

-- the place behind the first n is that of entry n
pub place_behind_first :
    (front : ℕ) (entries : List (List ℕ)) (n k : ℕ) → k ≡ n → place_of front (take n entries) k ≡ place_of front entries n
place_behind_first front entries n k e = rw e (place_of_first front entries n n (omega arith))
