-- A trail that passes no action twice has fewer than sixteen, since each of them sets another value, and none sets the start.
-- Assumes nothing.
use mathlib.Core.Path.{◌≡◌, sym, ◌∙◌}
use mathlib.Core.List.{List, ◌∷◌, map}
use mathlib.Core.Logic.{inl, inr}
use Prim.Native.Nat.{ℕ, ◌<◌}
use native.Mathlib.Omega.{arith}
use lib.ListN.{length, length-map}
use Rattle.study.specs.Study.{Study}
use Rattle.lawful.specs.Lawful.{Lawful}
use Rattle.plans.specs.Plans.{Usable}
use Rattle.orders.specs.Orders.{In, Distinct}
use Rattle.walks.specs.Walks.{var_of, post_of, start_of}
use Rattle.walks.specs.Breaks.{Trail}
use Rattle.plans.proofs.Usable.{one_setter}
use Rattle.orders.proofs.Lists.{distinct_below}
use Rattle.orders.proofs.Images.{in_images, distinct_images}
use Rattle.walks.proofs.Leads.{leads_in}
use Rattle.tracing.proofs.Ranges.{post_small}

pub trail_short : {t : Study} → Lawful t → {v p q : ℕ} {xs : List ℕ} → start_of t v < 16 → Trail t v p xs q → Distinct xs → length xs < 16
trail_short {t} lawful {v} {p} {q} {xs} low trail d =
    omega (arith, length-map xs (post_of t), distinct_below (start_of t v ∷ map (post_of t) xs) 16 (apart, others) small)
  where
    of : (x : ℕ) → In x xs → Usable t x × (var_of t x ≡ v)
    of = leads_in t v p xs q trail.leads

    apart : In (start_of t v) (map (post_of t) xs) → ⊥
    apart h = let (x, (g, e)) = in_images (post_of t) xs (start_of t v) h in trail.new x g (sym e)

    others : Distinct (map (post_of t) xs)
    others =
        distinct_images (post_of t) xs d
        (λ x y h g e. one_setter lawful x y (of x h).0 (of y g).0 ((of x h).1 ∙ sym (of y g).1) e)

    small : (y : ℕ) → In y (start_of t v ∷ map (post_of t) xs) → y < 16
    small y (inl e) = rw e low
    small y (inr h) = let (x, (g, e)) = in_images (post_of t) xs y h in rw e (post_small lawful x (of x g).0.there)
