-- Members under other names: what is taken greedily under the one is taken greedily under the other.
-- Assumes nothing.
use mathlib.Core.Path.{◌≡◌, sym, ap, ◌∙◌}
use mathlib.Core.Logic.{◌⊎◌, inl, inr}
use mathlib.Core.List.{List, [], ◌∷◌, map}
use Prim.Native.Nat.{ℕ}
use native.Mathlib.Omega.{arith}
use lib.ListN.{length-map}
use Rattle.orders.specs.Orders.{In, Distinct, None, Plus, Ready, Greedy, Counted}
use Rattle.orders.proofs.Grown.{Least}
use Rattle.orders.proofs.Images.{image_in, in_images, distinct_images}

-- each member has a rank, which is its other name, and comes before others there as here
pub record Ranked (member member' : ℕ → Type 0) (before before' : ℕ → ℕ → Type 0) (rank name : ℕ → ℕ) : Type 0 where
  pub there : (x : ℕ) → member x → member' (rank x)
  pub back : (r : ℕ) → member' r → (x : ℕ) × (member x × (rank x ≡ r))
  pub named : (x : ℕ) → member x → name (rank x) ≡ x
  pub comes : (x y : ℕ) → member x → member y → before x y → before' (rank x) (rank y)
  pub came : (x y : ℕ) → member x → member y → before' (rank x) (rank y) → before x y

-- what is taken here and there is the same
pub record Agree (member taken taken' : ℕ → Type 0) (rank : ℕ → ℕ) : Type 0 where
  pub to : (x : ℕ) → member x → taken x → taken' (rank x)
  pub fro : (x : ℕ) → member x → taken' (rank x) → taken x

module _ {member member' : ℕ → Type 0} {before before' : ℕ → ℕ → Type 0} {rank name : ℕ → ℕ}
    (ranked : Ranked member member' before before' rank name) where
  pub ranks_differ : (x y : ℕ) → member x → member y → rank x ≡ rank y → x ≡ y
  ranks_differ x y m n e = sym (ranked.named x m) ∙ ap name e ∙ ranked.named y n

  module _ {taken taken' : ℕ → Type 0} (agree : Agree member taken taken' rank) where
    ready_there : (x : ℕ) → Ready member before taken x → Ready member' before' taken' (rank x)
    ready_there x r = record {
      is_member = ranked.there x r.is_member;
      not_taken = λ h. r.not_taken (agree.fro x r.is_member h);
      all_before = λ s m b.
          let (y, (n, e)) = ranked.back s m in
          rw e at (agree.to y n (r.all_before y n (ranked.came y x n r.is_member (rw (← e) at b))));
    }

    ready_back : (x : ℕ) → member x → Ready member' before' taken' (rank x) → Ready member before taken x
    ready_back x m r = record {
      is_member = m;
      not_taken = λ h. r.not_taken (agree.to x m h);
      all_before = λ y n b. agree.fro y n (r.all_before (rank y) (ranked.there y n) (ranked.comes y x n m b));
    }

    agree_plus : (x : ℕ) → member x → Agree member (Plus x taken) (Plus (rank x) taken') rank
    agree_plus x m = record { to = to_plus; fro = fro_plus }
      where
        to_plus : (y : ℕ) → member y → Plus x taken y → Plus (rank x) taken' (rank y)
        to_plus y n (inl e) = inl (ap rank e)
        to_plus y n (inr h) = inr (agree.to y n h)

        fro_plus : (y : ℕ) → member y → Plus (rank x) taken' (rank y) → Plus x taken y
        fro_plus y n (inl e) = inl (ranks_differ y x n m e)
        fro_plus y n (inr h) = inr (agree.fro y n h)

  greedy_from :
      {taken taken' : ℕ → Type 0} → Agree member taken taken' rank → (list : List ℕ)
      → Greedy member' before' (λ r. r) taken' list → Greedy member before rank taken (map name list)
  greedy_from agree [] none = λ y r. none (rank y) (ready_there agree y r)
  greedy_from {taken} {taken'} agree (r ∷ list) (ready, least, rest) =
      let (x, (m, e)) = ranked.back r ready.is_member in
      let is : name r ≡ x = ap name (sym e) ∙ ranked.named x m in
      rw is (
        ready_back agree x m (rw (← e) at ready),
        λ y g. rw (← e) at (least (rank y) (ready_there agree y g)),
        greedy_from {taken = Plus x taken} {taken' = Plus (rank x) taken'} (agree_plus agree x m) list (rw (← e) at rest),
      )

  pub greedy_renamed : (list : List ℕ) → Greedy member' before' (λ r. r) None list → Greedy member before rank None (map name list)
  greedy_renamed = greedy_from (record { to = λ x m h. h; fro = λ x m h. h })

  pub counted_renamed : {n : ℕ} → Counted member n → Counted member' n
  counted_renamed all = record {
    list = map rank all.list;
    once = distinct_images rank all.list all.once (λ x y h g e. ranks_differ x y (all.only x h) (all.only y g) e);
    all = λ r m. let (x, (n, e)) = ranked.back r m in rw e at (image_in rank all.list x (all.all x n));
    only = λ r h. let (x, (g, e)) = in_images rank all.list r h in rw e (ranked.there x (all.only x g));
    long = length-map all.list rank ∙ all.long;
  }
