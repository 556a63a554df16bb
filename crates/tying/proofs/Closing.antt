-- One number after another has gathered: the words of the first entries have all that chains of ties put before them.
-- Assumes nothing.
use mathlib.Core.Path.{◌≡◌, refl, sym, subst, ◌∙◌}
use mathlib.Core.Logic.{◌⊎◌, inl, inr, ◌≢◌, ◌↔◌}
use mathlib.Core.List.{List}
use Prim.Native.Nat.{ℕ, zero, suc, ◌+◌, ◌<◌, ◌≤◌}
use native.Mathlib.Omega.{arith}
use native.Mathlib.Decide.{ℕ_discrete}
use lib.ListN.{length, get_or, set, length-set}
use lib.Seq.{get_or-set_same, get_or-set_other}
use Rattle.orders.specs.Orders.{Chain, one, more}
use Rattle.linking.specs.Linking.{Anyone}
use Rattle.hanging.specs.Hanging.{InWord}
use Rattle.tying.specs.Tying.{Tied, Gathered, entry, Sorts}

-- a chain of ties
abbrev pub Chained : List ℕ → ℕ → ℕ → Type 0
Chained words x y = Chain Anyone (Tied words) x y

-- the last tie of a chain
last : (words : List ℕ) {x y : ℕ} → Chained words x y → (z : ℕ) × Tied words z y
last words {x = x} (one _ _ tie) = (x, tie)
last words (more {y = z} _ _ tie) = (z, tie)

-- one of the first k numbers is y, or none is
found : (f : ℕ → ℕ) (y k : ℕ) → ((i : ℕ) × ((i < k) × (f i ≡ y))) ⊎ ((i : ℕ) → i < k → f i ≢ y)
found f y zero = inr (λ i h. absurd (omega arith))
found f y (suc k) = go (ℕ_discrete (f k) y) (found f y k)
  where
    go : Dec (f k ≡ y) → ((i : ℕ) × ((i < k) × (f i ≡ y))) ⊎ ((i : ℕ) → i < k → f i ≢ y)
        → ((i : ℕ) × ((i < suc k) × (f i ≡ y))) ⊎ ((i : ℕ) → i < suc k → f i ≢ y)
    go (yes e) _ = inl (k, (omega arith, e))
    go (no d) (inl (i, (l, e))) = inl (i, (omega arith, e))
    go (no d) (inr none) = inr (λ i l e. at i l e (ℕ_discrete i k))
      where
        at : (i : ℕ) → i < suc k → f i ≡ y → Dec (i ≡ k) → ⊥
        at i l e (yes q) = d (rw q at e)
        at i l e (no q) = none i (omega arith) e

-- the first k entries are closed, and all other words are as they were
pub record ClosedTo (room before words : List ℕ) (k : ℕ) : Type 0 where
  pub long : length words ≡ 64
  pub closed : (i : ℕ) → i < k → (x : ℕ) → InWord (get_or words (entry room i) 0) x ↔ Chained before x (entry room i)
  pub others : (y : ℕ) → ((i : ℕ) → i < k → entry room i ≢ y) → get_or words y 0 ≡ get_or before y 0

pub closing_begins : (room words : List ℕ) → length words ≡ 64 → ClosedTo room words words 0
closing_begins room words e = record {
  long = e;
  closed = λ i h. absurd (omega arith);
  others = λ y h. refl;
}

module _ {room before words : List ℕ} {total k : ℕ} (sorts : Sorts room total before) (to : ClosedTo room before words k) where
  module _ (h : k < total) {all : ℕ} (gathered : Gathered (get_or words (entry room k) 0) words all) where
    own : get_or words (entry room k) 0 ≡ get_or before (entry room k) 0
    own = to.others (entry room k) (λ i l e. sorts.once i k l h e)

    -- what is tied before entry k is closed
    tied_closed :
        (y : ℕ) → InWord (get_or words (entry room k) 0) y → Tied before y (entry room k) × ((x : ℕ) → InWord (get_or words y 0) x ↔ Chained before x y)
    tied_closed y w =
        let tie : Tied before y (entry room k) = (sorts.low k h, rw own at w) in
        let (i, (l, e)) = sorts.behind y k h tie in
        (tie, subst (λ (z : ℕ). (x : ℕ) → InWord (get_or words z 0) x ↔ Chained before x z) e (to.closed i l))

    new : (x : ℕ) → InWord all x ↔ Chained before x (entry room k)
    new x = (λ w. there (gathered.only x w), back)
      where
        there : InWord (get_or words (entry room k) 0) x ⊎ ((y : ℕ) × (InWord (get_or words (entry room k) 0) y × InWord (get_or words y 0) x)) → Chained before x (entry room k)
        there (inl w) = one tt tt (tied_closed x w).0
        there (inr (y, (w, v))) = let (tie, same) = tied_closed y w in more ((same x).0 v) tt tie

        back : Chained before x (entry room k) → InWord all x
        back (one _ _ tie) = gathered.kept x (rw own tie.1)
        back (more {y = y} c _ tie) =
            let w : InWord (get_or words (entry room k) 0) y = rw own tie.1 in
            gathered.joined x y w (((tied_closed y w).1 x).1 c)

    pub closing_on : ClosedTo room before (set words (entry room k) all) (k + 1)
    closing_on = record {
      long = length-set words (entry room k) all ∙ to.long;
      closed = λ i l. at i l (ℕ_discrete i k);
      others = λ y f.
          get_or-set_other words (entry room k) y all 0 (λ e. f k (omega arith) (sym e)) ∙ to.others y (λ i l. f i (omega arith));
    }
      where
        at : (i : ℕ) → i < k + 1 → Dec (i ≡ k) → (x : ℕ) → InWord (get_or (set words (entry room k) all) (entry room i) 0) x ↔ Chained before x (entry room i)
        at i l (yes e) x = rw (e, get_or-set_same words (entry room k) all 0 (omega (arith, sorts.low k h, to.long))) (new x)
        at i l (no d) x =
            let lower : i < k = omega arith in
            rw (get_or-set_other words (entry room k) (entry room i) all 0 (sorts.once i k lower h)) (to.closed i lower x)

  pub closing_ends : total ≤ k → (x y : ℕ) → Tied words x y ↔ Chained before x y
  closing_ends h x y = (λ (low, w). there low w (found (entry room) y k), λ c. back c (last before c))
    where
      at : (i : ℕ) → i < total → entry room i ≡ y → InWord (get_or words y 0) x ↔ Chained before x y
      at i l e = subst (λ (z : ℕ). InWord (get_or words z 0) x ↔ Chained before x z) e (to.closed i (omega arith) x)

      there : y < 64 → InWord (get_or words y 0) x → ((i : ℕ) × ((i < k) × (entry room i ≡ y))) ⊎ ((i : ℕ) → i < k → entry room i ≢ y) → Chained before x y
      there low w (inl (i, (l, e))) = (subst (λ (z : ℕ). InWord (get_or words z 0) x ↔ Chained before x z) e (to.closed i l x)).0 w
      there low w (inr none) =
          let (i, (l, e)) = sorts.there x y (low, rw (to.others y none) at w) in
          absurd (none i (omega arith) e)

      back : Chained before x y → ((z : ℕ) × Tied before z y) → Tied words x y
      back c (z, tie) = let (i, (l, e)) = sorts.there z y tie in (tie.0, (at i l e).1 c)
