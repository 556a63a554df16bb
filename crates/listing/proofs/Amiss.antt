-- Those that are amiss in a list are those that a test tells: that stand in it twice, or are in just one of list and walks.
-- Assumes nothing.
use mathlib.Core.Path.{◌≡◌, refl, sym, ◌∙◌}
use mathlib.Core.Logic.{◌↔◌}
use mathlib.Core.Bool.{Bool, true, false, ◌||◌, true≢false}
use mathlib.Core.List.{List}
use Prim.Native.Nat.{ℕ, ◌<◌}
use native.Mathlib.Omega.{arith}
use native.Mathlib.Decide.{dec_lt}
use lib.ListN.{length}
use Rattle.bits.specs.Bits.{within}
use Rattle.bits.proofs.Members.{none_beyond, not_both}
use Rattle.ranks.specs.Ranks.{count}
use Rattle.orders.specs.Orders.{In}
use Rattle.study.specs.Study.{Study}
use Rattle.walks.specs.Walks.{OnAWalk}
use Rattle.charts.specs.Faults.{Amiss, repeats, missing, on_no_walk}
use Rattle.listing.specs.Listing.{unlike, HasJust, DifferingBy, Least, FindsAmiss}
use Rattle.listing.proofs.Gathering.{counted_in}

-- tests of what is in a list, of what repeats in it, of the walk actions, and of what is amiss
pub record Compared (t : Study) (list : List ℕ) (listed twice walking amiss : ℕ → Bool) : Type 0 where
  pub listed_low : (i : ℕ) → listed i ≡ true → i < 256
  pub walking_low : (i : ℕ) → walking i ≡ true → i < 256
  pub set : (i : ℕ) → (listed i ≡ true) ↔ In i list
  pub again : (i : ℕ) → (twice i ≡ true) ↔ (1 < count i list)
  pub walks : (i : ℕ) → (walking i ≡ true) ↔ OnAWalk t i
  pub differ : (i : ℕ) → i < 256 → amiss i ≡ (unlike (listed i) (walking i) || twice i)

pub member_low : (words : List ℕ) → length words ≡ 4 → (i : ℕ) → within words i ≡ true → i < 256
member_low words four i w = go (dec_lt i 256)
  where
    go : Dec (i < 256) → i < 256
    go (yes h) = h
    go (no h) = absurd (not_both w (none_beyond words i (omega arith)))

-- where nobody is in just one of two sets, both have the numbers of one list
pub same_set :
    (list : List ℕ) (listed members twice amiss : ℕ → Bool) → ((i : ℕ) → listed i ≡ true → i < 256) → ((i : ℕ) → members i ≡ true → i < 256)
    → DifferingBy listed members twice amiss → ((i : ℕ) → i < 256 → amiss i ≡ false) → HasJust list listed → HasJust list members
same_set list listed members twice amiss low few differ none set i =
    (λ w. (set i).0 (same (few i w) ∙ w), λ m. sym (same (low i ((set i).1 m))) ∙ (set i).1 m)
  where
    alike : (a b d : Bool) → (unlike a b || d) ≡ false → a ≡ b
    alike true true d w = refl
    alike false false d w = refl
    alike true false d w = absurd (true≢false w)
    alike false true d w = absurd (true≢false w)

    same : i < 256 → listed i ≡ members i
    same h = alike (listed i) (members i) (twice i) (sym (differ i h) ∙ none i h)

module _ {t : Study} {list : List ℕ} {listed twice walking amiss : ℕ → Bool} (c : Compared t list listed twice walking amiss) where
  amiss_low : (i : ℕ) → Amiss t list i → i < 256
  amiss_low i (repeats h) = c.listed_low i ((c.set i).1 (counted_in i list (omega arith)))
  amiss_low i (missing o n) = c.walking_low i ((c.walks i).1 o)
  amiss_low i (on_no_walk h n) = c.listed_low i ((c.set i).1 h)

  set_amiss : (i : ℕ) → i < 256 → amiss i ≡ true → Amiss t list i
  set_amiss i h w = go (listed i) (walking i) (twice i) refl refl refl (sym (c.differ i h) ∙ w)
    where
      go : (a b d : Bool) → listed i ≡ a → walking i ≡ b → twice i ≡ d → (unlike a b || d) ≡ true → Amiss t list i
      go a b true e f g _ = repeats ((c.again i).0 g)
      go true true false e f g w = absurd (true≢false (sym w))
      go false false false e f g w = absurd (true≢false (sym w))
      go true false false e f g w = on_no_walk ((c.set i).0 e) (λ o. not_both ((c.walks i).1 o) f)
      go false true false e f g w = missing ((c.walks i).0 f) (λ m. not_both ((c.set i).1 m) e)

  amiss_set : (i : ℕ) → Amiss t list i → amiss i ≡ false → ⊥
  amiss_set i m w = go (listed i) (walking i) (twice i) refl refl refl (sym (c.differ i (amiss_low i m)) ∙ w)
    where
      agrees : listed i ≡ walking i → twice i ≡ false → Amiss t list i → ⊥
      agrees e g (repeats h) = not_both ((c.again i).1 h) g
      agrees e g (missing o n) = n ((c.set i).0 (e ∙ (c.walks i).1 o))
      agrees e g (on_no_walk h n) = n ((c.walks i).0 (sym e ∙ (c.set i).1 h))

      go : (a b d : Bool) → listed i ≡ a → walking i ≡ b → twice i ≡ d → (unlike a b || d) ≡ false → ⊥
      go true true false e f g w = agrees (e ∙ sym f) g m
      go false false false e f g w = agrees (e ∙ sym f) g m
      go true false d e f g w = true≢false w
      go false true d e f g w = true≢false w
      go true true true e f g w = true≢false w
      go false false true e f g w = true≢false w

  pub finds : {r : ℕ} → Least amiss r → FindsAmiss t list r
  finds l = record {
    most = l.most;
    lowest = λ h. record { amiss = set_amiss _ h (l.there h); lower = λ j b a. amiss_set j a (l.none_below j b) };
    none = λ e i a. amiss_set i a (l.none_below i (omega (arith, amiss_low i a)));
  }
