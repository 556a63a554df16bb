-- The reasons by rule (c) over a stretch of actions: those of its parts, and none where nobody wants the value.
-- Assumes nothing.
use mathlib.Core.Path.{◌≡◌, refl, sym, ap, ◌∙◌}
use mathlib.Core.Bool.{Bool, true, false, ◌&&◌}
use mathlib.Core.List.{List, [], ◌∷◌, ◌++◌, append-nil, append_assoc}
use Prim.Native.Nat.{ℕ, zero, suc, ◌+◌, ◌-◌, ◌≤◌, ◌<◌}
use native.Mathlib.Nat.{zero-add, suc-add}
use native.Mathlib.Omega.{arith}
use Rattle.plain.specs.Choose.{pick}
use Rattle.study.specs.Study.{Study}
use Rattle.walks.specs.Walks.{conditions_of}
use Rattle.wanting.specs.Wanting.{wants}
use Rattle.explained.specs.Facts.{Fact, leaves, after}
use Rattle.explained.specs.Reasons.{step_of, stands, leave_reasons}

module _ (t : Study) (plan : List ℕ) (v q : ℕ) where
  -- the action is in the plan and wants the value
  abbrev pub leaver : ℕ → Bool
  leaver i = stands plan i && wants (conditions_of t i) v q

  split : (k n m : ℕ) → leave_reasons t plan v q k (n + m) ≡ leave_reasons t plan v q k n ++ leave_reasons t plan v q (k + n) m
  unfolding leave_reasons
  split k zero m = let e : k + 0 ≡ k = omega arith in rw (zero-add m, e)
  split k (suc n) m =
      let e : k + suc n ≡ suc k + n = omega arith in
      rw (suc-add n m, split (suc k) n m, e) (sym (append_assoc (pick (leaver k) (after leaves (step_of plan k) k v q ∷ []) []) _ _))

  none_told : (k m : ℕ) → ((i : ℕ) → k ≤ i → i < k + m → leaver i ≡ false) → leave_reasons t plan v q k m ≡ []
  unfolding leave_reasons
  none_told k zero none = refl
  none_told k (suc m) none = rw (none k (omega arith) (omega arith)) (none_told (suc k) m (λ i h b. none i (omega arith) (omega arith)))

  one_told : (k : ℕ) → leaver k ≡ true → leave_reasons t plan v q k 1 ≡ after leaves (step_of plan k) k v q ∷ []
  unfolding leave_reasons
  one_told k is = rw is

  -- from a on to b there is nobody
  module _ (a b : ℕ) (h : a ≤ b) (none : (i : ℕ) → a ≤ i → i < b → leaver i ≡ false) where
    pub none_more : leave_reasons t plan v q 0 b ≡ leave_reasons t plan v q 0 a
    none_more =
        let e : b ≡ a + (b - a) = omega arith in
        ap (leave_reasons t plan v q 0) e
        ∙ (split 0 a (b - a)
        ∙ (ap (λ (r : List Fact). leave_reasons t plan v q 0 a ++ r) (none_told (0 + a) (b - a) (λ i f g. none i (omega arith) (omega arith)))
        ∙ append-nil _))

    -- .. and b is one
    pub one_more : leaver b ≡ true → leave_reasons t plan v q 0 (b + 1) ≡ leave_reasons t plan v q 0 a ++ (after leaves (step_of plan b) b v q ∷ [])
    one_more is = split 0 b 1 ∙ rw (none_more, zero-add b) (ap (λ (r : List Fact). leave_reasons t plan v q 0 a ++ r) (one_told b is))
