-- What is told of refusal 12 is true, and one text: the circle is a ring in the sense of orders, each order of it holds by the first rule that applies, and there is one such circle.
-- Assumes nothing.
use Prim.Native.Nat.{ℕ, ◌<◌}
use native.Mathlib.Omega.{arith}
use mathlib.Core.Path.{◌≡◌, refl, sym, ap, subst, ◌∙◌}
use mathlib.Core.Logic.{◌⊎◌, inl, inr}
use mathlib.Core.Bool.{Bool, true, false, ◌&&◌, and-eq-true_iff, true≢false}
use mathlib.Core.List.{List, [], ◌∷◌, ◌++◌}
use lib.Dec.{eqb}
use borrow.Author.Tests.{eqb-true, eq-eqb}
use Rattle.plain.proofs.Tests.{picked}
use Rattle.study.specs.Study.{Study}
use Rattle.orders.specs.Orders.{In, Distinct, None, Plus, Chain, one, more, OnRing}
use Rattle.orders.proofs.Lists.{in_append_right}
use Rattle.orders.proofs.Rings.{chain_starts, chain_ends}
use Rattle.walks.specs.Walks.{var_of, pre_of, post_of, conditions_of, OnAWalk, ComesBefore, next as by_next, sets as by-sets, leaves as by-leaves}
use Rattle.wanting.specs.Wanting.{wants}
use Rattle.wanting.proofs.Counting.{wants-told, wants_tells}
use Rattle.explained.specs.Facts.{Fact, next, sets, leaves, ring}
use Rattle.explained.specs.Rings.{Stuck, WaitsOn, WaitAlong, order_fact, order_facts, Circled}
use Rattle.explained.specs.Meaning.{ByRule, Says, Each}

-- ---- each order holds, by its first rule

module _ {t : Study} {i j : ℕ} (before : ComesBefore t i j) (one_stuck : Stuck t i) (other_stuck : Stuck t j) where
  abbrev follows : Bool
  follows = eqb (var_of t i) (var_of t j) && eqb (post_of t i) (pre_of t j)

  abbrev wanted : Bool
  wanted = wants (conditions_of t j) (var_of t i) (post_of t i)

  not_next : follows ≡ false → (v q : ℕ) → ByRule t next i j v q → ⊥
  not_next e v q (a, (b, (c, d))) =
      true≢false (sym ((and-eq-true_iff (eqb (var_of t i) (var_of t j)) (eqb (post_of t i) (pre_of t j))).1
      (eq-eqb (var_of t i) (var_of t j) (a ∙ sym b), eq-eqb (post_of t i) (pre_of t j) (c ∙ sym d))) ∙ e)

  not_sets : wanted ≡ false → (v q : ℕ) → ByRule t sets i j v q → ⊥
  not_sets e v q (a, (b, w)) = true≢false (sym (wants_tells (conditions_of t j) (var_of t i) (post_of t i) (rw (a, b) w)) ∙ e)

  by_rule_leaves : follows ≡ false → wanted ≡ false → ComesBefore t i j → ByRule t leaves i j (var_of t j) (pre_of t j)
  by_rule_leaves e f (by_next a b) = absurd (not_next e (var_of t j) (pre_of t j) (a, (refl, (b, refl))))
  by_rule_leaves e f (by-sets w) = absurd (not_sets f (var_of t i) (post_of t i) (refl, (refl, w)))
  by_rule_leaves e f (by-leaves w) = (refl, (refl, w))

  pub order_true : Says t (order_fact t i j)
  order_true = picked (Says t) follows by_first (λ e. picked (Says t) wanted (by_second e) (by_third e))
    where
      by_first : follows ≡ true → Says t (ring next i j (var_of t j) (pre_of t j))
      by_first e =
          let (a, b) = (and-eq-true_iff (eqb (var_of t i) (var_of t j)) (eqb (post_of t i) (pre_of t j))).0 e in
          record {
            by_rule = (eqb-true (var_of t i) (var_of t j) a, (refl, (eqb-true (post_of t i) (pre_of t j) b, refl)));
            first_rule = tt;
            one_stuck = one_stuck;
            other_stuck = other_stuck;
          }

      by_second : follows ≡ false → wanted ≡ true → Says t (ring sets i j (var_of t i) (post_of t i))
      by_second e f =
          record {
            by_rule = (refl, (refl, wants-told (conditions_of t j) (var_of t i) (post_of t i) f));
            first_rule = not_next e;
            one_stuck = one_stuck;
            other_stuck = other_stuck;
          }

      by_third : follows ≡ false → wanted ≡ false → Says t (ring leaves i j (var_of t j) (pre_of t j))
      by_third e f =
          record {
            by_rule = by_rule_leaves e f before;
            first_rule = λ v q. (not_next e v q, not_sets f v q);
            one_stuck = one_stuck;
            other_stuck = other_stuck;
          }

-- ---- along the path

module _ (t : Study) where
  pub stuck_on : {i : ℕ} → Stuck t i → OnAWalk t i
  stuck_on {i} b = go b.follows
    where
      go : (i ≡ b.ring) ⊎ Chain (OnAWalk t) (ComesBefore t) b.ring i → OnAWalk t i
      go (inl e) = rw e (chain_starts (OnAWalk t) (ComesBefore t) b.on_ring)
      go (inr c) = chain_ends (OnAWalk t) (ComesBefore t) c

  along_tail : (front : List ℕ) (c : ℕ) (rest : List ℕ) (end : ℕ) → WaitAlong t (front ++ (c ∷ rest)) end → WaitAlong t (c ∷ rest) end
  along_tail [] c rest end w = w
  along_tail (x ∷ []) c rest end w = w.1
  along_tail (x ∷ y ∷ front) c rest end w = along_tail (y ∷ front) c rest end w.1

  -- the end comes before the first, at some remove
  along_chain : (x : ℕ) (xs : List ℕ) (end : ℕ) → OnAWalk t x → WaitAlong t (x ∷ xs) end → Chain (OnAWalk t) (ComesBefore t) end x
  along_chain x [] end on w = one (stuck_on w.stuck) on w.before
  along_chain x (y ∷ rest) end on (w, along) = more (along_chain y rest end (stuck_on w.stuck) along) on w.before

  -- the end is stuck
  along_stuck : (x : ℕ) (xs : List ℕ) (end : ℕ) → WaitAlong t (x ∷ xs) end → Stuck t end
  along_stuck x [] end w = w.stuck
  along_stuck x (y ∷ rest) end (w, along) = along_stuck y rest end along

  along_true : (x : ℕ) (xs : List ℕ) (end : ℕ) → Stuck t x → WaitAlong t (x ∷ xs) end → Each (Says t) (order_facts t (x ∷ xs) end)
  along_true x [] end stuck w = (order_true w.before w.stuck stuck, tt)
  along_true x (y ∷ rest) end stuck (w, along) = (order_true w.before w.stuck stuck, along_true y rest end w.stuck along)

-- ---- the theorems

module _ {t : Study} {facts : List Fact} (c : Circled t facts) where
  circle_along : WaitAlong t (c.again ∷ c.others) c.again
  circle_along = along_tail t c.front c.again c.others c.again c.along

  circle_stuck : Stuck t c.again
  circle_stuck = along_stuck t c.again c.others c.again circle_along

  -- the circle is a ring of walk actions
  pub circled_ring : OnRing (OnAWalk t) (ComesBefore t) c.again
  circled_ring = along_chain t c.again c.others c.again (stuck_on t circle_stuck) circle_along

  pub circled_true : Each (Says t) facts
  circled_true = rw c.told (along_true t c.again c.others c.again circle_stuck circle_along)

-- ---- one circle

not_lower : {t : Study} {j a b : ℕ} → WaitsOn t j a → WaitsOn t j b → a < b → ⊥
not_lower {t} {j} {a} p q h = q.lowest a h p.stuck p.before

pub waits_on_once : {t : Study} {j a b : ℕ} → WaitsOn t j a → WaitsOn t j b → a ≡ b
waits_on_once p q = omega (arith, not_lower p q, not_lower q p)

-- none of the list was seen, nor stands in it twice; and the end was seen, or stands in the list
abbrev NewTo : (ℕ → Type 0) → List ℕ → Type 0
NewTo seen [] = Unit {0}
NewTo seen (x ∷ rest) = (seen x → ⊥) × NewTo (Plus x seen) rest

abbrev EndsIn : (ℕ → Type 0) → List ℕ → ℕ → Type 0
EndsIn seen [] end = seen end
EndsIn seen (x ∷ rest) end = EndsIn (Plus x seen) rest end

module _ (t : Study) where
  same_path :
      (seen : ℕ → Type 0) (x : ℕ) (xs ys : List ℕ) (end last : ℕ)
      → NewTo seen (x ∷ xs) → NewTo seen (x ∷ ys) → EndsIn seen (x ∷ xs) end → EndsIn seen (x ∷ ys) last
      → WaitAlong t (x ∷ xs) end → WaitAlong t (x ∷ ys) last → (xs ≡ ys) × (end ≡ last)
  same_path seen x [] [] end last n m e f v w = (refl, waits_on_once v w)
  same_path seen x [] (y ∷ ys) end last n m e f v (w, along) =
      absurd (m.1.0 (subst (Plus x seen) (waits_on_once v w) e))
  same_path seen x (y ∷ xs) [] end last n m e f (v, along) w =
      absurd (n.1.0 (subst (Plus x seen) (waits_on_once w v) f))
  same_path seen x (y ∷ xs) (z ∷ ys) end last n m e f (v, along) (w, other) =
      let d : y ≡ z = waits_on_once v w in
      let (p, q) =
      same_path (Plus x seen) y xs ys end last n.1 (rw (← d) at m.1) e (subst (λ (w : ℕ). EndsIn (Plus x seen) (w ∷ ys) last) (sym d) f) along (subst (λ (w : ℕ). WaitAlong t (w ∷ ys) last) (sym d) other) in
      (cc, q)

-- ---- from one form to the other

distinct_new : (seen : ℕ → Type 0) (xs : List ℕ) → Distinct xs → ((y : ℕ) → In y xs → seen y → ⊥) → NewTo seen xs
distinct_new seen [] d apart = tt
distinct_new seen (x ∷ xs) (n, d) apart = (
  apart x (inl refl),
  distinct_new (Plus x seen) xs d (λ y h k. elim k [ inl e ↦ n (rw (← e) h) | inr g ↦ apart y (inr h) g ]),
)

in_ends : (seen : ℕ → Type 0) (xs : List ℕ) (y : ℕ) → In y xs ⊎ seen y → EndsIn seen xs y
in_ends seen [] y (inl h) = absurd h
in_ends seen [] y (inr h) = h
in_ends seen (x ∷ xs) y (inl (inl e)) = in_ends (Plus x seen) xs y (inr (inl e))
in_ends seen (x ∷ xs) y (inl (inr h)) = in_ends (Plus x seen) xs y (inl h)
in_ends seen (x ∷ xs) y (inr h) = in_ends (Plus x seen) xs y (inr (inr h))

-- what stands behind a number that stands once is one list
behind_once :
    (a : ℕ) (f o g p : List ℕ) → Distinct (f ++ (a ∷ o)) → f ++ (a ∷ o) ≡ g ++ (a ∷ p) → o ≡ p
behind_once a [] o [] p d e = cc
behind_once a [] o (y ∷ g) p d e =
    let f : o ≡ g ++ (a ∷ p) = cc in
    absurd (d.0 (rw f (in_append_right a g (a ∷ p) (inl refl))))
behind_once a (x ∷ f) o [] p d e =
    let h : x ≡ a = cc in
    absurd (d.0 (rw h (in_append_right a f (a ∷ o) (inl refl))))
behind_once a (x ∷ f) o (y ∷ g) p d e =
    let h : f ++ (a ∷ o) ≡ g ++ (a ∷ p) = cc in
    behind_once a f o g p d.1 h

module _ {t : Study} where
  not_lower_first : {a b : List Fact} (c : Circled t a) (d : Circled t b) → c.first < d.first → ⊥
  not_lower_first c d h = d.lowest c.first h c.first_stuck

  pub circled_once : {a b : List Fact} → Circled t a → Circled t b → a ≡ b
  circled_once {a} {b} c d =
      c.told
      ∙ ap (λ (x : ℕ). order_facts t (x ∷ c.others) x) again
      ∙ ap (λ (r : List ℕ). order_facts t (d.again ∷ r) d.again) others
      ∙ sym d.told
    where
      first : c.first ≡ d.first
      first = omega (arith, not_lower_first c d, not_lower_first d c)

      new : {f : List Fact} (x : Circled t f) → NewTo None (x.first ∷ x.path_rest)
      new x = rw x.begins at (distinct_new None (x.front ++ (x.again ∷ x.others)) x.once (λ y h k. k))

      ends : {f : List Fact} (x : Circled t f) → EndsIn None (x.first ∷ x.path_rest) x.again
      ends x =
          rw x.begins at (in_ends None (x.front ++ (x.again ∷ x.others)) x.again (inl (in_append_right x.again x.front (x.again ∷ x.others) (inl refl))))

      along : {f : List Fact} (x : Circled t f) → WaitAlong t (x.first ∷ x.path_rest) x.again
      along x = rw x.begins at x.along

      same : (c.path_rest ≡ d.path_rest) × (c.again ≡ d.again)
      same =
          same_path t None c.first c.path_rest d.path_rest c.again d.again (new c)
          (subst (λ (w : ℕ). NewTo None (w ∷ d.path_rest)) (sym first) (new d)) (ends c)
          (subst (λ (w : ℕ). EndsIn None (w ∷ d.path_rest) d.again) (sym first) (ends d)) (along c)
          (subst (λ (w : ℕ). WaitAlong t (w ∷ d.path_rest) d.again) (sym first) (along d))

      again : c.again ≡ d.again
      again = same.1

      whole : c.front ++ (c.again ∷ c.others) ≡ d.front ++ (c.again ∷ d.others)
      whole =
          c.begins
          ∙ ap (λ (x : ℕ). x ∷ c.path_rest) first
          ∙ ap (λ (r : List ℕ). d.first ∷ r) same.0
          ∙ sym d.begins
          ∙ ap (λ (x : ℕ). d.front ++ (x ∷ d.others)) (sym again)

      others : c.others ≡ d.others
      others = behind_once c.again c.front c.others d.front d.others c.once whole
