-- One number after another is finished: its row gets all that a chain of links leads to, once all that it is linked to is done.
-- Assumes nothing.
use mathlib.Core.Path.{◌≡◌, refl, ◌∙◌}
use mathlib.Core.Logic.{◌⊎◌, inl, inr}
use mathlib.Core.Bool.{true, false}
use mathlib.Core.List.{List, []}
use Prim.Native.Nat.{ℕ, ◌<◌}
use native.Mathlib.Decide.{dec_lt}
use native.Mathlib.Omega.{arith}
use lib.ListN.{get_or, get_or-eq_default}
use Rattle.bits.specs.Bits.{within, Added}
use Rattle.bits.proofs.Members.{not_both, none_beyond, added_there, added_keeps, added_only}
use Rattle.orders.specs.Orders.{Chain, one, more, OnRing}
use Rattle.orders.proofs.Rings.{chain_before}
use Rattle.std.specs.Prelude.{Ok}
use Rattle.linking.specs.Linking.{Rows, Linked, Shaped, Anyone, Closes, chains}
use Rattle.linking.specs.Passing.{Gathers, Partly}
use Rattle.linking.proofs.Sets.{told}

-- ---- chains by their first link

pub record FirstLink (before : Rows) (x z : ℕ) : Type 0 where
  pub next : ℕ
  pub linked : Linked before x next
  pub onward : (next ≡ z) ⊎ Chain Anyone (Linked before) next z

pub first_link : (before : Rows) {x z : ℕ} → Chain Anyone (Linked before) x z → FirstLink before x z
first_link before {z = z} (one _ _ l) = record { next = z; linked = l; onward = inl refl }
first_link before {z = z} (more {y = y} c _ l) =
    let f = first_link before c in
    record { next = f.next; linked = f.linked; onward = inr (go f.next f.onward) }
  where
    go : (u : ℕ) → (u ≡ y) ⊎ Chain Anyone (Linked before) u y → Chain Anyone (Linked before) u z
    go u (inl e) = one {y = z} tt tt (rw e l)
    go u (inr d) = more d tt l

-- only numbers below 256 have links
pub linked_low : {rows : Rows} → Shaped rows → (x y : ℕ) → Linked rows x y → x < 256
linked_low {rows} shaped x y l = go (dec_lt x 256)
  where
    go : Dec (x < 256) → x < 256
    go (yes h) = h
    go (no n) =
        absurd (not_both l (rw (get_or-eq_default rows [] {n = x} (omega (arith, shaped.long))) (none_beyond [] y (omega arith))))

-- ---- none is done at first

pub partly_begins : (rows : Rows) (done : List ℕ) → ((x : ℕ) → within done x ≡ false) → Partly rows rows done
partly_begins rows done none = record {
  kept = λ x h. refl;
  sound = λ x y d. absurd (not_both d (none x));
  full = λ x y d. absurd (not_both d (none x));
  onward = λ x y d. absurd (not_both d (none x));
  no_ring = λ x d. absurd (not_both d (none x));
}

-- ---- x is finished

module _ {before rows rows' : Rows} {done done' : List ℕ} {x : ℕ} (partly : Partly before rows done) (undone : within done x ≡ false)
    (ready : (y : ℕ) → Linked rows x y → within done y ≡ true) (gathers : Gathers x rows rows') (added : Added x done done') where
  own : get_or rows x [] ≡ get_or before x []
  own = partly.kept x undone

  next_done : (y : ℕ) → Linked before x y → within done y ≡ true
  next_done y l = ready y (rw own l)

  own_sound : (z : ℕ) → Linked rows' x z → Chain Anyone (Linked before) x z
  own_sound z h =
      elim (gathers.row.only z h) [
        | inl l ↦ one tt tt (rw own at l)
        | inr (y, (l, m)) ↦ chain_before Anyone (Linked before) tt (rw own at l) (partly.sound y z (ready y l) m)
      ]

  own_full : (z : ℕ) → Chain Anyone (Linked before) x z → Linked rows' x z
  own_full z c = go (first_link before c)
    where
      go : FirstLink before x z → Linked rows' x z
      go f =
          elim f.onward [
            | inl e ↦ gathers.row.kept z (rw (own, ← e) f.linked)
            | inr d ↦ gathers.row.joined f.next z (rw own f.linked) (partly.full f.next z (next_done f.next f.linked) d)
          ]

  own_onward : (z : ℕ) → Chain Anyone (Linked before) x z → within done z ≡ true
  own_onward z c = go (first_link before c)
    where
      go : FirstLink before x z → within done z ≡ true
      go f =
          elim f.onward [
            | inl e ↦ rw (← e) (next_done f.next f.linked)
            | inr d ↦ partly.onward f.next z (next_done f.next f.linked) d
          ]

  -- a number that is done now is x or was done before
  by_cases : (P : ℕ → Type 0) → P x → ((y : ℕ) → within done y ≡ true → P y) → (y : ℕ) → within done' y ≡ true → P y
  by_cases P p q y d = elim (added_only added y d) [ inl g ↦ q y g | inr e ↦ rw (← e) p ]

  other : (y : ℕ) → within done y ≡ true → get_or rows' y [] ≡ get_or rows y []
  other y d = gathers.others y (λ e. not_both d (rw e undone))

  pub partly_on : Partly before rows' done'
  partly_on = record {
    kept = λ y u. still y u;
    sound = λ y z d.
        by_cases (λ w. Linked rows' w z → Chain Anyone (Linked before) w z) (own_sound z) (λ w g h. partly.sound w z g (rw (other w g) at h)) y d;
    full = λ y z d.
        by_cases (λ w. Chain Anyone (Linked before) w z → Linked rows' w z) (own_full z) (λ w g c. rw (other w g) (partly.full w z g c)) y d;
    onward = λ y z d.
        by_cases (λ w. Chain Anyone (Linked before) w z → within done' z ≡ true) (λ c. added_keeps added z (own_onward z c))
        (λ w g c. added_keeps added z (partly.onward w z g c)) y d;
    no_ring = by_cases (λ w. OnRing Anyone (Linked before) w → ⊥) (λ c. not_both (own_onward x c) undone) partly.no_ring;
  }
    where
      still : (y : ℕ) → within done' y ≡ false → get_or rows' y [] ≡ get_or before y []
      still y u =
          gathers.others y (λ e. not_both (added_there added) (rw e at u))
          ∙ partly.kept y (elim (told (within done y)) [ inl d ↦ absurd (not_both (added_keeps added y d) u) | inr f ↦ f ])

-- ---- all that a link leaves are done

pub all_closed :
    {before after : Rows} {done : List ℕ} → Partly before after done → ((x y : ℕ) → Linked before x y → within done x ≡ true)
    → Closes before after (Ok tt)
all_closed {before} {after} {done} partly all =
    chains (λ x c. partly.no_ring x (starts x x c) c)
    (λ x y. (there x y (told (within done x)), λ c. partly.full x y (starts x y c) c))
  where
    starts : (x y : ℕ) → Chain Anyone (Linked before) x y → within done x ≡ true
    starts x y c = let f = first_link before c in all x f.next f.linked

    there : (x y : ℕ) → (within done x ≡ true) ⊎ (within done x ≡ false) → Linked after x y → Chain Anyone (Linked before) x y
    there x y (inl d) h = partly.sound x y d h
    there x y (inr u) h = one tt tt (rw (partly.kept x u) at h)
