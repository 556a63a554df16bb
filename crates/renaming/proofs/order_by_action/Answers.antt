-- `renaming::order_by_action` meets its contract: the first actions of the numbered ones are each their own rank.
-- Assumes nothing.
use mathlib.Core.Path.{◌≡◌, sym, ◌∙◌}
use Prim.Native.Nat.{ℕ, ◌<◌}
use native.Mathlib.Omega.{arith}
use lib.ListN.{get_or, take}
use lib.Seq.{get_or-take, length-take-le}
use Rattle.renaming.proofs.Ranked.{own_orders}
use Rattle.renaming.proofs.order_by_action.Goals as goal

pub slice_bounds-order_all-end : goal.slice_bounds-order_all-end
slice_bounds-order_all-end c =
    sym (length-take-le _ _ (omega (arith, c.number_all.ensures.0, c.requires.1)))

pub order_all-requires : goal.order_all-requires
order_all-requires c = (
  c.requires.0,
  c.requires.1,
  length-take-le _ _ (omega (arith, c.number_all.ensures.0, c.requires.1)),
  λ i h. omega (arith, get_or-take c.args.actions c.number_all.new.ranks i 0 h, c.number_all.ensures.1 i (omega (arith, c.requires.1))),
  c.requires.2,
)

pub returns : goal.returns
returns c =
    record {
      words_len = c.order_all.ensures.before_len;
      orders_by_action = λ t orderable cleared.
          let itself : (i : ℕ) → i < c.args.actions → get_or (take c.args.actions c.number_all.new.ranks) i 0 ≡ i =
          λ i h. get_or-take c.args.actions c.number_all.new.ranks i 0 h ∙ c.number_all.ensures.1 i (omega (arith, c.requires.1)) in
          own_orders t (take c.args.actions c.number_all.new.ranks) c.order_all.new.before
          (λ i h. itself i (omega (arith, orderable.wishes.actions)))
          c.order_all.result (c.order_all.ensures.orders_all t orderable (λ i j h g e. sym (itself i h) ∙ e ∙ itself j g) cleared);
    }
