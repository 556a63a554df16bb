-- Laws of what conditions want and of how many actions of a list want a value.
-- Assumes nothing.
use mathlib.Core.Path.{◌≡◌, refl, sym, ap, ◌∙◌, subst}
use mathlib.Core.Logic.{◌⊎◌, inl, inr, ◌≢◌}
use mathlib.Core.Bool.{Bool, true, false, ◌&&◌, ◌||◌, and-eq-true_iff, or-true, true≢false}
use mathlib.Core.List.{List, [], ◌∷◌, ◌++◌}
use Prim.Native.Nat.{ℕ, suc, ◌+◌, ◌≤◌, ◌<◌}
use native.Mathlib.Numerals.{add-one}
use native.Mathlib.Omega.{arith}
use native.Mathlib.Decide.{ℕ_discrete}
use lib.Dec.{eqb}
use lib.ListN.{length, take}
use lib.Seq.{take-suc, length-take-le, get_or-take}
use borrow.Author.Tests.{eq-eqb, ne_eqb, eqb-true}
use Rattle.plain.proofs.Tests.{either}
use Rattle.ranks.specs.Ranks.{one}
use Rattle.orders.specs.Orders.{In, Distinct}
use Rattle.study.specs.Study.{Condition, Study, condition_at, no_condition}
use Rattle.walks.specs.Walks.{Wants, conditions_of}
use Rattle.tracing.specs.Steps.{Members}
use Rattle.wanting.specs.Wanting.{wants, wanted}

-- ---- what conditions want

pub wants-told : (cs : List Condition) (u q : ℕ) → wants cs u q ≡ true → Wants cs u q
unfolding wants
wants-told [] u q e = absurd (true≢false (sym e))
wants-told (c ∷ rest) u q e = from (either (eqb c.var u && eqb c.value q) (wants rest u q) e) (wants-told rest u q)
  where
    from :
        ((eqb c.var u && eqb c.value q) ≡ true) ⊎ (wants rest u q ≡ true) → (wants rest u q ≡ true → Wants rest u q)
        → Wants (c ∷ rest) u q
    from (inl f) more =
        let (x, y) = (and-eq-true_iff (eqb c.var u) (eqb c.value q)).0 f in
        inl (eqb-true c.var u x, eqb-true c.value q y)
    from (inr f) more = inr (more f)

pub wants_tells : (cs : List Condition) (u q : ℕ) → Wants cs u q → wants cs u q ≡ true
unfolding wants
wants_tells [] u q h = absurd h
wants_tells (c ∷ rest) u q (inl (e, f)) = simp (eq-eqb c.var u e, eq-eqb c.value q f)
wants_tells (c ∷ rest) u q (inr h) = simp (wants_tells rest u q h, or-true)

-- one condition more, that is another than u = q
wants_other :
    (xs : List Condition) (c : Condition) (u q : ℕ) → (c.var ≡ u → c.value ≡ q → ⊥) → wants (xs ++ (c ∷ [])) u q ≡ wants xs u q
unfolding wants
wants_other [] c u q other = from (ℕ_discrete c.var u)
  where
    from : Dec (c.var ≡ u) → ((eqb c.var u && eqb c.value q) || false) ≡ false
    from (yes e) = simp (eq-eqb c.var u e, ne_eqb c.value q (other e))
    from (no d) = simp (ne_eqb c.var u d)
wants_other (x ∷ xs) c u q other = ap (λ (b : Bool). (eqb x.var u && eqb x.value q) || b) (wants_other xs c u q other)

-- .. and one on a variable that the others are not on
wants_new :
    (xs : List Condition) (c : Condition) → ((k : ℕ) → k < length xs → (condition_at xs k).var ≢ c.var)
    → one (wants (xs ++ (c ∷ [])) c.var c.value) ≡ one (wants xs c.var c.value) + 1
unfolding wants
wants_new [] c new = simp (eq-eqb c.var c.var refl, eq-eqb c.value c.value refl)
wants_new (x ∷ xs) c new =
    simp (ne_eqb x.var c.var (new 0 (omega arith))) (wants_new xs c (λ k h. new (suc k) (omega arith)))

-- the first k conditions, and condition k
module _ (cs : List Condition) (k : ℕ) (h : k < length cs) where
  one_more : take (k + 1) cs ≡ take k cs ++ (condition_at cs k ∷ [])
  one_more = rw add-one (take-suc cs k no_condition h)

  pub wants_next_other :
      (u q : ℕ) → ((condition_at cs k).var ≡ u → (condition_at cs k).value ≡ q → ⊥) → wants (take (k + 1) cs) u q ≡ wants (take k cs) u q
  wants_next_other u q other = rw one_more (wants_other (take k cs) (condition_at cs k) u q other)

  pub wants_next_own :
      ((m : ℕ) → m < k → (condition_at cs m).var < (condition_at cs k).var)
      → one (wants (take (k + 1) cs) (condition_at cs k).var (condition_at cs k).value)
      ≡ one (wants (take k cs) (condition_at cs k).var (condition_at cs k).value) + 1
  wants_next_own rise = rw one_more (wants_new (take k cs) (condition_at cs k) new)
    where
      new : (m : ℕ) → m < length (take k cs) → (condition_at (take k cs) m).var ≢ (condition_at cs k).var
      new m b =
          let l : m < k = omega (arith, length-take-le k cs (omega arith)) in
          rw (get_or-take k cs m no_condition l) (omega (arith, rise m l))

-- ---- how many actions of a list want a value

-- a list with one of its actions taken out once
pub record Less (t : Study) (x : ℕ) (ys : List ℕ) : Type 0 where
  pub rest : List ℕ
  pub one_less : (u q : ℕ) → wanted t ys u q ≡ one (wants (conditions_of t x) u q) + wanted t rest u q
  pub others : (y : ℕ) → y ≢ x → In y ys → In y rest
  pub only : (y : ℕ) → In y rest → In y ys
  pub once : Distinct ys → Distinct rest
  pub gone : Distinct ys → In x rest → ⊥

pub less : (t : Study) (x : ℕ) (ys : List ℕ) → In x ys → Less t x ys
unfolding wanted
less t x [] h = absurd h
less t x (z ∷ ys) (inl e) = record {
  rest = ys;
  one_less = λ u q. rw e;
  others = λ y d h. elim h [ inl f ↦ absurd (d (f ∙ sym e)) | inr g ↦ g ];
  only = λ y h. inr h;
  once = λ d. d.1;
  gone = λ d h. d.0 (rw e at h);
}
less t x (z ∷ ys) (inr h) =
    let w = less t x ys h in
    record {
      rest = z ∷ w.rest;
      one_less = λ u q. omega (arith, w.one_less u q);
      others = λ y d h. elim h [ inl f ↦ inl f | inr g ↦ inr (w.others y d g) ];
      only = λ y h. elim h [ inl f ↦ inl f | inr g ↦ inr (w.only y g) ];
      once = λ d. (λ g. d.0 (w.only z g), w.once d.1);
      gone = λ d k. elim k [ inl e ↦ d.0 (subst (λ (v : ℕ). In v ys) e h) | inr g ↦ w.gone d.1 g ];
    }

module _ (t : Study) (u q : ℕ) where
  pub wanted_within : (xs ys : List ℕ) → Distinct xs → ((x : ℕ) → In x xs → In x ys) → wanted t xs u q ≤ wanted t ys u q
  unfolding wanted
  wanted_within [] ys d f = omega arith
  wanted_within (x ∷ xs) ys d f =
      let w = less t x ys (f x (inl refl)) in
      omega (arith, w.one_less u q, wanted_within xs w.rest d.1 (λ y h. w.others y (λ e. d.0 (rw e at h)) (f y (inr h))))

  -- lists without repeats that have the same actions
  pub wanted_same :
      (xs ys : List ℕ) → Distinct xs → Distinct ys → ((x : ℕ) → In x xs → In x ys) → ((x : ℕ) → In x ys → In x xs)
      → wanted t xs u q ≡ wanted t ys u q
  wanted_same xs ys d e f g = omega (arith, wanted_within xs ys d f, wanted_within ys xs e g)

  pub members_want_same : {xs ys : List ℕ} → Members t xs → Members t ys → wanted t xs u q ≡ wanted t ys u q
  members_want_same {xs} {ys} a b =
      wanted_same xs ys a.once b.once (λ x h. b.all x (a.only x h)) (λ x h. a.all x (b.only x h))
