-- Taking the ready member of least rank, again and again, by a test of what comes before what.
-- Assumes nothing.
use Prim.Native.Nat.{ℕ, zero, suc, ◌+◌, ◌≤◌}
use native.Mathlib.Omega.{arith}
use mathlib.Core.Logic.{inl, inr}
use mathlib.Core.Bool.{Bool, not, ◌&&◌, ◌||◌}
use mathlib.Core.Option.{Option, none, some}
use mathlib.Core.List.{List, [], ◌∷◌}
use lib.ListN.{length}
use Rattle.orders.specs.Orders.{In, Distinct, Ready, Greedy}
use Rattle.orders.proofs.Lists.{distinct_fills}
use Rattle.reference.proofs.Tests.{Says, says_same, says_not, says_both, says_then, among, every, says_among, says_every}
use Rattle.reference.proofs.Searching.{least, Least, is_least, is_none, least_tells}

-- a member not yet taken, while all that comes before it is
unfoldable pub ready : (ℕ → ℕ → Bool) → List ℕ → List ℕ → ℕ → Bool
ready before all taken x = among all x && (not (among taken x) && every (λ y. not (before y x) || among taken y) all)

abbrev pub taking : Option ℕ → (ℕ → List ℕ) → List ℕ
taking none on = []
taking (some x) on = x ∷ on x

-- the least rank first, until none is ready
unfoldable pub greedily : (ℕ → ℕ → Bool) → List ℕ → (ℕ → ℕ) → ℕ → List ℕ → List ℕ
greedily before all rank zero taken = []
greedily before all rank (suc n) taken = taking (least (ready before all taken) rank all) (λ x. greedily before all rank n (x ∷ taken))

module _
    (member : ℕ → Type 0) (before : ℕ → ℕ → Type 0)
    (all : List ℕ) (in_all : (x : ℕ) → member x → In x all) (only : (x : ℕ) → In x all → member x)
    {test : ℕ → ℕ → Bool} (says : (x y : ℕ) → Says (before x y) (test x y)) where
  pub says_ready : (taken : List ℕ) (x : ℕ) → Says (Ready member before (λ y. In y taken) x) (ready test all taken x)
  unfolding ready
  says_ready taken x =
      says_same
      (λ h. record { is_member = only x h.0; not_taken = h.1.0; all_before = λ y m. h.1.1 y (in_all y m) })
      (λ r. (in_all x r.is_member, (r.not_taken, λ y h. r.all_before y (only y h))))
      (says_both (says_among x all)
      (says_both (says_not (says_among x taken)) (says_every (λ y. says_then (says y x) (says_among y taken)) all)))

  pub greedily_is_greedy :
      (rank : ℕ → ℕ) (n : ℕ) (taken : List ℕ) → Distinct taken → ((x : ℕ) → In x taken → In x all) → length all ≤ n + length taken
      → Greedy member before rank (λ y. In y taken) (greedily test all rank n taken)
  unfolding greedily
  greedily_is_greedy rank zero taken d within h =
      λ y r. r.not_taken (distinct_fills taken all d within (omega arith) y (in_all y r.is_member))
  greedily_is_greedy rank (suc n) taken d within h =
      go (least_tells (says_ready taken) rank all)
      (λ x r.
      greedily_is_greedy rank n (x ∷ taken) (r.not_taken, d) (λ y i. elim i [ inl e ↦ rw e (in_all x r.is_member) | inr g ↦ within y g ])
      (omega arith))
    where
      go : {o : Option ℕ} → Least (Ready member before (λ y. In y taken)) rank all o
          → ((x : ℕ) → Ready member before (λ y. In y taken) x → Greedy member before rank (λ y. In y (x ∷ taken)) (greedily test all rank n (x ∷ taken)))
          → Greedy member before rank (λ y. In y taken) (taking o (λ x. greedily test all rank n (x ∷ taken)))
      go (is_none n) on = λ y r. n y (in_all y r.is_member) r
      go (is_least {x = x} i r l) on = (r, λ y q. l y (in_all y q.is_member) q, on x r)
