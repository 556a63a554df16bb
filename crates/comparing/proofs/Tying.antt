-- One pair more among the ties.
-- Assumes nothing.
use mathlib.Core.Path.{◌≡◌, refl, sym, subst}
use mathlib.Core.Logic.{◌⊎◌, inl, inr, ◌≢◌, ◌↔◌}
use mathlib.Core.Bool.{◌||◌}
use mathlib.Core.List.{List}
use Prim.Native.Nat.{ℕ, ◌<◌}
use native.Mathlib.Decide.{ℕ_discrete}
use lib.Dec.{eqb}
use lib.ListN.{length, get_or, set}
use lib.Seq.{get_or-set_same, get_or-set_other}
use Rattle.bits.specs.Bits.{bit}
use Rattle.bits.proofs.Changed.{put_here, put_stays, put_only}
use Rattle.hanging.specs.Hanging.{InWord}
use Rattle.tying.specs.Tying.{Tied}
use Rattle.listing.proofs.Linking.{OneMore}

pub ties_more :
    (ties : List ℕ) (word x y : ℕ) → y < 64 → y < length ties → ((j : ℕ) → bit word j ≡ (eqb x j || bit (get_or ties y 0) j))
    → OneMore x y (Tied ties) (Tied (set ties y word))
ties_more ties word x y low h put a b = go (ℕ_discrete b y)
  where
    own : Tied (set ties y word) a y ↔ (Tied ties a y ⊎ ((x ≡ a) × (y ≡ y)))
    own = (
      λ (l, w). elim (put_only x (get_or ties y 0) word put a (rw (get_or-set_same ties y word 0 h) at w)) [ inl e ↦ inr (sym e, refl) | inr g ↦ inl (l, g) ],
      λ p. (low, rw (get_or-set_same ties y word 0 h) (there p)),
    )
      where
        there : Tied ties a y ⊎ ((x ≡ a) × (y ≡ y)) → InWord word a
        there (inl (l, w)) = put_stays x (get_or ties y 0) word put a w
        there (inr (e, _)) = rw (← e) (put_here x (get_or ties y 0) word put)

    other : b ≢ y → Tied (set ties y word) a b ↔ (Tied ties a b ⊎ ((x ≡ a) × (y ≡ b)))
    other d = rw (get_or-set_other ties y b word 0 d) (λ t. inl t, λ p. elim p [ inl t ↦ t | inr g ↦ absurd (d (sym g.1)) ])

    go : Dec (b ≡ y) → Tied (set ties y word) a b ↔ (Tied ties a b ⊎ ((x ≡ a) × (y ≡ b)))
    go (yes e) = subst (λ (z : ℕ). Tied (set ties y word) a z ↔ (Tied ties a z ⊎ ((x ≡ a) × (y ≡ z)))) (sym e) own
    go (no d) = other d
