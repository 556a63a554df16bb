-- What is taken and what is left: one more is taken, the least of those left that nothing left comes directly before, until there is none.
-- Assumes nothing.
use mathlib.Core.Path.{◌≡◌}
use mathlib.Core.Logic.{◌⊎◌, inl, inr, ◌≢◌}
use mathlib.Core.Bool.{not, ◌&&◌}
use mathlib.Core.List.{List, [], ◌∷◌, ◌++◌}
use Prim.Native.Nat.{ℕ, ◌≤◌}
use native.Mathlib.Omega.{arith}
use lib.Dec.{eqb}
use lib.ListN.{length}
use Rattle.bits.specs.Bits.{bit}
use Rattle.bits.proofs.Changed.{out_stays, out_only}
use Rattle.orders.specs.Orders.{In, None, Ready, Greedy, Counted}
use Rattle.orders.proofs.Lists.{in_decided, in_append_left, in_append_right, in_append_cases, distinct_fills}
use Rattle.orders.proofs.Members.{takes_distinct, takes_members}
use Rattle.orders.proofs.Grown.{GreedySoFar, greedy_one_more, greedy_ended, greedy_so_far_takes}
use Rattle.hanging.specs.Hanging.{InWord, DirectlyBefore, Free}

-- `list` has those that are taken
pub record Left (members : ℕ) (before : List ℕ) (left : ℕ) (list : List ℕ) : Type 0 where
  pub greedy : GreedySoFar (InWord members) (DirectlyBefore before) (λ x. x) None list
  pub left_member : (y : ℕ) → InWord left y → InWord members y
  pub left_free : (y : ℕ) → InWord left y → In y list → ⊥
  pub left_all : (y : ℕ) → InWord members y → (In y list → ⊥) → InWord left y

pub left_begins : (members : ℕ) (before : List ℕ) → Left members before members []
left_begins members before = record { greedy = tt; left_member = λ y h. h; left_free = λ y h k. k; left_all = λ y h f. h }

module _ {members : ℕ} {before : List ℕ} {left : ℕ} {list : List ℕ} (so : Left members before left list) where
  abbrev ReadyNow : ℕ → Type 0
  ReadyNow y = Ready (InWord members) (DirectlyBefore before) (λ x. In x list) y

  free_is_ready : (y : ℕ) → InWord left y → Free before left y → ReadyNow y
  free_is_ready y h free = record {
    is_member = so.left_member y h;
    not_taken = so.left_free y h;
    all_before = λ x m b. taken x m b (in_decided x list);
  }
    where
      taken : (x : ℕ) → InWord members x → DirectlyBefore before x y → Dec (In x list) → In x list
      taken x m b (yes g) = g
      taken x m b (no f) = absurd (free x b (so.left_all x m f))

  pub ready_is_free : (y : ℕ) → ReadyNow y → InWord left y × Free before left y
  ready_is_free y r =
      (so.left_all y r.is_member r.not_taken, λ x b l. so.left_free x l (r.all_before x (so.left_member x l) b))

  -- ---- the end

  pub ends_none_free :
      ((y : ℕ) → InWord left y → Free before left y → ⊥) → Greedy (InWord members) (DirectlyBefore before) (λ x. x) None list
  ends_none_free none =
      greedy_ended (InWord members) (DirectlyBefore before) (λ x. x) list so.greedy
      (λ y r. let (l, f) = ready_is_free y r in none y l f)

  pub ends_all_taken : {total : ℕ} → Counted (InWord members) total → total ≤ length list → Greedy (InWord members) (DirectlyBefore before) (λ x. x) None list
  ends_all_taken all h =
      let takes = greedy_so_far_takes (InWord members) (DirectlyBefore before) (λ x. x) None list so.greedy in
      greedy_ended (InWord members) (DirectlyBefore before) (λ x. x) list so.greedy
      (λ y r. r.not_taken (distinct_fills list all.list (takes_distinct (InWord members) (DirectlyBefore before) None list takes)
      (λ x g. all.all x (takes_members (InWord members) (DirectlyBefore before) None list takes x g)) (omega (arith, all.long)) y (all.all y r.is_member)))

  -- ---- one more

  pub left_on :
      {y : ℕ} → InWord left y → Free before left y → ((z : ℕ) → InWord left z → Free before left z → y ≤ z)
      → {left' : ℕ} → ((j : ℕ) → bit left' j ≡ (not (eqb y j) && bit left j)) → Left members before left' (list ++ (y ∷ []))
  left_on {y} own free least {left'} out = record {
    greedy =
        greedy_one_more (InWord members) (DirectlyBefore before) (λ x. x) list y so.greedy (free_is_ready y own free)
        (λ z r. let (l, f) = ready_is_free z r in least z l f);
    left_member = λ z h. so.left_member z (still z h).1;
    left_free = λ z h k. taken z h (in_append_cases z list (y ∷ []) k);
    left_all = λ z m f.
        out_stays y left left' out z (λ e. f (in_append_right z list (y ∷ []) (inl e))) (so.left_all z m (λ g. f (in_append_left z list (y ∷ []) g)));
  }
    where
      still : (z : ℕ) → InWord left' z → (z ≢ y) × InWord left z
      still = out_only y left left' out

      taken : (z : ℕ) → InWord left' z → In z list ⊎ In z (y ∷ []) → ⊥
      taken z h (inl g) = so.left_free z (still z h).1 g
      taken z h (inr (inl e)) = (still z h).0 e
      taken z h (inr (inr g)) = g
