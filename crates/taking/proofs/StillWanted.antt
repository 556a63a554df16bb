-- How many of some actions want a value, beside how many of those that are taken do: equally many exactly if each that wants it is taken.
-- Assumes nothing.
use mathlib.Core.Path.{◌≡◌, refl, ap}
use mathlib.Core.Logic.{inl, inr}
use mathlib.Core.Bool.{Bool, true, false}
use mathlib.Core.List.{List, [], ◌∷◌, ◌++◌}
use Prim.Native.Nat.{ℕ, ◌+◌, ◌≤◌}
use native.Mathlib.Omega.{arith}
use Rattle.ranks.specs.Ranks.{one}
use Rattle.study.specs.Study.{Study}
use Rattle.orders.specs.Orders.{In, Distinct}
use Rattle.orders.proofs.Lists.{in_decided}
use Rattle.walks.specs.Walks.{OnAWalk, Wants, conditions_of}
use Rattle.tracing.specs.Steps.{Members}
use Rattle.wanting.specs.Wanting.{wants, wanted}
use Rattle.wanting.proofs.Counting.{wants-told, wants_tells, less, wanted_within}

-- some of the actions on walks, each once
pub record Part (t : Study) (taken : List ℕ) : Type 0 where
  pub once : Distinct taken
  pub only : (x : ℕ) → In x taken → OnAWalk t x

module _ (t : Study) (u q : ℕ) where
  pub wanted_one_more : (xs : List ℕ) (x : ℕ) → wanted t (xs ++ (x ∷ [])) u q ≡ wanted t xs u q + one (wants (conditions_of t x) u q)
  unfolding wanted
  wanted_one_more [] x = omega arith
  wanted_one_more (y ∷ xs) x = omega (arith, wanted_one_more xs x)

  -- not more, if each that wants it is among the others
  wanted_at_most :
      (xs ys : List ℕ) → Distinct xs → ((x : ℕ) → In x xs → Wants (conditions_of t x) u q → In x ys) → wanted t xs u q ≤ wanted t ys u q
  unfolding wanted
  wanted_at_most [] ys d f = omega arith
  wanted_at_most (x ∷ xs) ys d f = from (wants (conditions_of t x) u q) refl (λ zs g. wanted_at_most xs zs d.1 g)
    where
      from :
          (b : Bool) → wants (conditions_of t x) u q ≡ b
          → ((zs : List ℕ) → ((y : ℕ) → In y xs → Wants (conditions_of t y) u q → In y zs) → wanted t xs u q ≤ wanted t zs u q)
          → one (wants (conditions_of t x) u q) + wanted t xs u q ≤ wanted t ys u q
      from false e rest = omega (arith, ap one e, rest ys (λ y h w. f y (inr h) w))
      from true e rest =
          let l = less t x ys (f x (inl refl) (wants-told (conditions_of t x) u q e)) in
          omega (arith, l.one_less u q, rest l.rest (λ y h w. l.others y (λ s. d.0 (rw s at h)) (f y (inr h) w)))

  module _ {list taken : List ℕ} (members : Members t list) (part : Part t taken) where
    within : (x : ℕ) → In x taken → In x list
    within x h = members.all x (part.only x h)

    -- one that is not taken is counted still
    pub wanted_left : (x : ℕ) → OnAWalk t x → (In x taken → ⊥) → Wants (conditions_of t x) u q → wanted t taken u q + 1 ≤ wanted t list u q
    unfolding wanted
    wanted_left x on free w =
        omega (
          arith,
          ap one (wants_tells (conditions_of t x) u q w),
          wanted_within t u q (x ∷ taken) list (free, part.once) (λ y k. elim k [ inl e ↦ rw e (members.all x on) | inr g ↦ within y g ]),
        )

    pub none_left : wanted t taken u q ≡ wanted t list u q → (x : ℕ) → OnAWalk t x → Wants (conditions_of t x) u q → In x taken
    none_left e x on w = go (in_decided x taken)
      where
        go : Dec (In x taken) → In x taken
        go (yes k) = k
        go (no free) = absurd (omega (arith, wanted_left x on free w))

    pub all_taken : ((x : ℕ) → OnAWalk t x → Wants (conditions_of t x) u q → In x taken) → wanted t taken u q ≡ wanted t list u q
    all_taken f =
        omega (
          arith,
          wanted_at_most list taken members.once (λ x h w. f x (members.only x h) w),
          wanted_within t u q taken list part.once within,
        )
