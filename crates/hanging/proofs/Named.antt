-- The names of those that are taken stand in the room from 256 on, and below it nothing changes.
-- Assumes nothing.
use mathlib.Core.Path.{◌≡◌, refl, sym, ap, ◌∙◌}
use mathlib.Core.List.{List, [], ◌∷◌, ◌++◌, map}
use Prim.Native.Nat.{ℕ, ◌+◌, ◌<◌}
use native.Mathlib.Omega.{arith}
use native.Mathlib.Numerals.{add-one}
use lib.ListN.{length, get_or, set, take, drop, length-set, length-drop}
use lib.Seq.{get_or-set_other, take-suc-set}
use Rattle.plain.proofs.Lists.{length_more, drop_set}

pub record Named (room room' list : List ℕ) (k : ℕ) : Type 0 where
  pub long : length room' ≡ 512
  pub kept : (j : ℕ) → j < 256 → get_or room' j 0 ≡ get_or room j 0
  pub count : length list ≡ k
  pub names : take k (drop 256 room') ≡ map (λ x. get_or room x 0) list

map_more : (f : ℕ → ℕ) (list : List ℕ) (y : ℕ) → map f (list ++ (y ∷ [])) ≡ map f list ++ (f y ∷ [])
map_more f [] y = refl
map_more f (x ∷ list) y = ap (λ (l : List ℕ). f x ∷ l) (map_more f list y)

pub named_begins : (room : List ℕ) → length room ≡ 512 → Named room room [] 0
named_begins room e = record { long = e; kept = λ j h. refl; count = refl; names = refl }

pub named_on :
    {room room' list : List ℕ} {k : ℕ} → Named room room' list k → (y : ℕ) → y < 256 → k < 256
    → Named room (set room' (256 + k) (get_or room' y 0)) (list ++ (y ∷ [])) (k + 1)
named_on {room} {room'} {list} {k} so y low h = record {
  long = length-set room' (256 + k) (get_or room' y 0) ∙ so.long;
  kept = λ j g. get_or-set_other room' (256 + k) j (get_or room' y 0) 0 (λ e. omega arith) ∙ so.kept j g;
  count = omega (arith, length_more list y, so.count);
  names =
      rw (add-one k, drop_set 256 k room' (get_or room' y 0), take-suc-set (drop 256 room') k (get_or room' y 0) (omega (arith, length-drop 256 room', so.long)), so.names, so.kept y low)
      (sym (map_more (λ x. get_or room x 0) list y));
}
