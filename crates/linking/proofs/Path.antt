-- A path of numbers, each linked to the next, as it stands in its table: its top first in a list.
-- Assumes nothing.
use mathlib.Core.Path.{◌≡◌, refl, sym, ◌∙◌}
use mathlib.Core.Logic.{◌⊎◌, inl, inr}
use mathlib.Core.Bool.{true, false}
use mathlib.Core.List.{List, [], ◌∷◌}
use Prim.Native.Nat.{ℕ, ◌≤◌, ◌<◌}
use native.Mathlib.Omega.{arith}
use lib.ListN.{length, get_or, set}
use lib.Seq.{get_or-set_same, get_or-set_other}
use Rattle.bits.specs.Bits.{within, Added}
use Rattle.bits.proofs.Members.{not_both, added_there, added_keeps, added_only}
use Rattle.orders.specs.Orders.{In, Distinct, Chain, one, more, OnRing}
use Rattle.orders.proofs.Lists.{distinct_below}
use Rattle.linking.specs.Linking.{Rows, Linked, Anyone}
use Rattle.linking.specs.Passing.{Ring}
use Rattle.linking.proofs.Sets.{told, member_low}

-- the list stands in the table, its last number at 0
abbrev pub Stands : List ℕ → List ℕ → Type 0
Stands path [] = Unit {0}
Stands path (x ∷ rest) = (get_or path (length rest) 0 ≡ x) × Stands path rest

-- each is linked to the one that stands on it
abbrev pub Leads : Rows → List ℕ → Type 0
Leads before [] = Unit {0}
Leads before (x ∷ []) = Unit {0}
Leads before (x ∷ (y ∷ rest)) = Linked before y x × Leads before (y ∷ rest)

-- the numbers begun are those that are done and those on the path
pub record Standing (path done begun list : List ℕ) : Type 0 where
  pub stands : Stands path list
  pub once : Distinct list
  pub undone : (y : ℕ) → In y list → within done y ≡ false
  pub path_begun : (y : ℕ) → In y list → within begun y ≡ true
  pub done_begun : (y : ℕ) → within done y ≡ true → within begun y ≡ true
  pub no_other : (y : ℕ) → within begun y ≡ true → (within done y ≡ true) ⊎ In y list

stands_under : (path : List ℕ) (k x : ℕ) (list : List ℕ) → length list ≤ k → Stands path list → Stands (set path k x) list
stands_under path k x [] h s = tt
stands_under path k x (y ∷ rest) h s = (
  get_or-set_other path k (length rest) x 0 (λ e. omega arith) ∙ s.0,
  stands_under path k x rest (omega arith) s.1,
)

-- there is room for one more
pub room_left :
    {path done begun list : List ℕ} {y : ℕ} → Standing path done begun list → length begun ≡ 4 → y < 256 → within begun y ≡ false → length list < 256
room_left {begun = begun} {list = list} {y = y} s long low fresh =
    omega (arith, distinct_below (y ∷ list) 256 ((λ h. not_both (s.path_begun y h) fresh), s.once) small)
  where
    small : (z : ℕ) → In z (y ∷ list) → z < 256
    small z (inl e) = omega arith
    small z (inr h) = member_low begun long z (s.path_begun z h)

-- one more put on top
pub put_on :
    {path done begun begun' list : List ℕ} {y : ℕ} → Standing path done begun list → length list < length path
    → within done y ≡ false → within begun y ≡ false → Added y begun begun' → Standing (set path (length list) y) done begun' (y ∷ list)
put_on {path} {done} {begun} {begun'} {list} {y} s room undone fresh added = record {
  stands = (get_or-set_same path (length list) y 0 room, stands_under path (length list) y list (omega arith) s.stands);
  once = ((λ h. not_both (s.path_begun y h) fresh), s.once);
  undone = λ z h. elim h [ inl e ↦ rw e undone | inr g ↦ s.undone z g ];
  path_begun = λ z h. elim h [ inl e ↦ rw e (added_there added) | inr g ↦ added_keeps added z (s.path_begun z g) ];
  done_begun = λ z h. added_keeps added z (s.done_begun z h);
  no_other = λ z h. other z (added_only added z h);
}
  where
    other : (z : ℕ) → (within begun z ≡ true) ⊎ (y ≡ z) → (within done z ≡ true) ⊎ In z (y ∷ list)
    other z (inl g) = elim (s.no_other z g) [ inl d ↦ inl d | inr k ↦ inr (inr k) ]
    other z (inr e) = inr (inl (sym e))

-- the top is done and taken off
pub taken_off :
    {path done done' begun rest : List ℕ} {x : ℕ} → Standing path done begun (x ∷ rest) → Added x done done' → Standing path done' begun rest
taken_off {path} {done} {done'} {begun} {rest} {x} s added = record {
  stands = s.stands.1;
  once = s.once.1;
  undone = λ y h. undone y h (told (within done' y));
  path_begun = λ y h. s.path_begun y (inr h);
  done_begun = λ y h. elim (added_only added y h) [ inl d ↦ s.done_begun y d | inr e ↦ rw (← e) (s.path_begun x (inl refl)) ];
  no_other = λ y h. left y (s.no_other y h);
}
  where
    undone : (y : ℕ) → In y rest → (within done' y ≡ true) ⊎ (within done' y ≡ false) → within done' y ≡ false
    undone y h (inr e) = e
    undone y h (inl d) =
        elim (added_only added y d) [
          | inl g ↦ absurd (not_both g (s.undone y (inr h)))
          | inr e ↦ absurd (s.once.0 (rw e h))
        ]

    left : (y : ℕ) → (within done y ≡ true) ⊎ In y (x ∷ rest) → (within done' y ≡ true) ⊎ In y rest
    left y (inl d) = inl (added_keeps added y d)
    left y (inr (inl e)) = inl (rw e (added_there added))
    left y (inr (inr h)) = inr h

-- ---- links

module _ (before : Rows) where
  -- from each on the path a chain leads to its top
  leads_up : (x : ℕ) (rest : List ℕ) → Leads before (x ∷ rest) → (y : ℕ) → In y (x ∷ rest) → (y ≡ x) ⊎ Chain Anyone (Linked before) y x
  leads_up x [] l y (inl e) = inl e
  leads_up x [] l y (inr h) = absurd h
  leads_up x (z ∷ rest) l y (inl e) = inl e
  leads_up x (z ∷ rest) l y (inr h) = inr (go (leads_up z rest l.1 y h))
    where
      go : (y ≡ z) ⊎ Chain Anyone (Linked before) y z → Chain Anyone (Linked before) y x
      go (inl e) = one {y = x} tt tt (rw e l.0)
      go (inr c) = more c tt l.0

  -- a link from the top back to the path
  pub comes_round : (x : ℕ) (rest : List ℕ) → Leads before (x ∷ rest) → (y : ℕ) → In y (x ∷ rest) → Linked before x y → Ring before
  comes_round x rest l y h back = (y, go (leads_up x rest l y h))
    where
      go : (y ≡ x) ⊎ Chain Anyone (Linked before) y x → OnRing Anyone (Linked before) y
      go (inl e) = one tt tt (rw (← e) at back)
      go (inr c) = more c tt back

  pub leads_off : (x : ℕ) (rest : List ℕ) → Leads before (x ∷ rest) → Leads before rest
  leads_off x [] l = tt
  leads_off x (y ∷ rest) l = l.1
