-- Whether one action comes before another is decided.
-- Assumes nothing.
use Prim.Native.Nat.{ℕ}
use native.Mathlib.Decide.{ℕ_discrete}
use mathlib.Core.Path.{◌≡◌}
use mathlib.Core.Logic.{inl, inr}
use mathlib.Core.List.{List, [], ◌∷◌}
use Rattle.study.specs.Study.{Condition, Study}
use Rattle.walks.specs.Walks.{var_of, pre_of, post_of, conditions_of, Wants, ComesBefore, next, sets, leaves}

pub wants_decided : (cs : List Condition) (v q : ℕ) → Dec (Wants cs v q)
wants_decided [] v q = no (λ h. h)
wants_decided (c ∷ rest) v q = go (ℕ_discrete c.var v) (ℕ_discrete c.value q) (wants_decided rest v q)
  where
    go : Dec (c.var ≡ v) → Dec (c.value ≡ q) → Dec (Wants rest v q) → Dec (Wants (c ∷ rest) v q)
    go _ _ (yes h) = yes (inr h)
    go (yes e) (yes f) (no n) = yes (inl (e, f))
    go (yes e) (no d) (no n) = no λ h. elim h [ inl k ↦ d k.1 | inr k ↦ n k ]
    go (no d) _ (no n) = no λ h. elim h [ inl k ↦ d k.0 | inr k ↦ n k ]

pub comes_before_decided : (t : Study) (i j : ℕ) → Dec (ComesBefore t i j)
comes_before_decided t i j =
    go (ℕ_discrete (var_of t i) (var_of t j)) (ℕ_discrete (post_of t i) (pre_of t j))
    (wants_decided (conditions_of t j) (var_of t i) (post_of t i)) (wants_decided (conditions_of t i) (var_of t j) (pre_of t j))
  where
    none :
        (var_of t i ≡ var_of t j → post_of t i ≡ pre_of t j → ⊥) → (Wants (conditions_of t j) (var_of t i) (post_of t i) → ⊥)
        → (Wants (conditions_of t i) (var_of t j) (pre_of t j) → ⊥) → ComesBefore t i j → ⊥
    none a b c (next e f) = a e f
    none a b c (sets w) = b w
    none a b c (leaves w) = c w

    go :
        Dec (var_of t i ≡ var_of t j) → Dec (post_of t i ≡ pre_of t j) → Dec (Wants (conditions_of t j) (var_of t i) (post_of t i))
        → Dec (Wants (conditions_of t i) (var_of t j) (pre_of t j)) → Dec (ComesBefore t i j)
    go _ _ (yes w) _ = yes (sets w)
    go _ _ (no _) (yes w) = yes (leaves w)
    go (yes e) (yes f) (no _) (no _) = yes (next e f)
    go (yes e) (no d) (no b) (no c) = no (none (λ _ f. d f) b c)
    go (no d) _ (no b) (no c) = no (none (λ e _. d e) b c)
