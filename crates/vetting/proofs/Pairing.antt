-- Pairs as links: chains of the one are chains of the other, and what is found in the links is an answer about the chart.
-- Assumes nothing.
use Prim.Native.Nat.{ℕ, ◌<◌}
use mathlib.Core.Path.{◌≡◌, sym}
use mathlib.Core.Bool.{true≢false}
use mathlib.Core.Logic.{◌↔◌}
use mathlib.Core.List.{List}
use lib.ListN.{length}
use Rattle.std.specs.Prelude.{true, false, Option, Result, is_err}
use Rattle.answer.specs.Answers.{refusal}
use Rattle.study.specs.Study.{Study}
use Rattle.orders.specs.Orders.{In, Chain, OnRing}
use Rattle.orders.proofs.Chains.{chain-within}
use Rattle.linking.specs.Linking.{Anyone, ClosesTo, chains, circle}
use Rattle.linking.specs.declared.Circle.{Circle}
use Rattle.listing.specs.Listing.{LinkedBy, LinksTo}
use Rattle.lacking.specs.Lacking.{LacksOf, nothing, two}
use Rattle.charts.specs.Charts.{Pair, Chart}
use Rattle.charts.specs.Faults.{NoneAstray, Chained, Direct}
use Rattle.charts.specs.Answers.{Listed, WellPaired, Uncircled, Charts, astray, lacking, fine}
use Rattle.charts.specs.Answers.{circle as in-circle}
use Rattle.charts.proofs.Pairs.{this_listed, that_listed}
use Rattle.vetting.specs.Told.{lack_told}

-- ---- chains

module _ (pairs : List Pair) {linked : ℕ → ℕ → Type 0} (of : LinkedBy pairs linked) where
  pub links_chained : {x y : ℕ} → Chain Anyone linked x y → Chained pairs x y
  links_chained = chain-within λ x y _ _ l. (tt, (tt, (of x y).0 l))

  pub chained_links : {x y : ℕ} → Chained pairs x y → Chain Anyone linked x y
  chained_links = chain-within λ x y _ _ p. (tt, (tt, (of x y).1 p))

  -- what a link leaves and what it leads to are listed
  module _ (list : List ℕ) (none : NoneAstray list pairs) (x y : ℕ) (link : linked x y) where
    pub links_leave : In x list
    links_leave = this_listed list pairs none x y ((of x y).0 link)

    pub links_lead : In y list
    links_lead = that_listed list pairs none x y ((of x y).0 link)

-- ---- what the stages find

pub linked_astray :
    {t : Study} (c : Chart) {linked : ℕ → ℕ → Type 0} {k : ℕ} → Listed t c → LinksTo c.actions c.pairs linked k → k < length c.pairs
    → Charts t c (refusal 26 k)
linked_astray c listed links h = astray listed (links.first h)

-- the same that lacks, under another name
pub lacks_same :
    {such other linked : ℕ → ℕ → Type 0} {lack : Option (ℕ × ℕ)} → ((i j : ℕ) → such i j ↔ other i j) → LacksOf such linked lack → LacksOf other linked lack
lacks_same same (nothing given) = nothing (λ i j d. given i j ((same i j).1 d))
lacks_same same (two {i = i} {j = j} is not-linked lower) = two ((same i j).0 is) not-linked (λ k l h d. lower k l h ((same k l).1 d))

-- every pair is linked
module _
    {t : Study} (c : Chart) {linked : ℕ → ℕ → Type 0} {k : ℕ} (links : LinksTo c.actions c.pairs linked k) (all : k ≡ length c.pairs)
  where
    pub all_paired : Listed t c → WellPaired t c
    all_paired listed = record { listed = listed; none_astray = links.none all }

    pub ring_charts : {after : ℕ → ℕ → Type 0} {r : Result (Unit {0}) Circle} → ClosesTo linked after r → is_err r ≡ true → Listed t c → Charts t c (refusal 27 0)
    ring_charts (chains _ _) e listed = absurd (true≢false (sym e))
    ring_charts (circle r) e listed = in-circle (all_paired listed) (links_chained c.pairs (links.by_pairs all) r)

    module _ (listed : Listed t c) where
      uncircled : ((x : ℕ) → OnRing Anyone linked x → ⊥) → Uncircled t c
      uncircled none = record { paired = all_paired listed; no_circle = λ x r. none x (chained_links c.pairs (links.by_pairs all) r) }

      lack_charts :
          {after : ℕ → ℕ → Type 0} {lack : Option (ℕ × ℕ)} → ((x : ℕ) → OnRing Anyone linked x → ⊥)
          → ((x y : ℕ) → after x y ↔ Chain Anyone linked x y)
          → LacksOf (Direct t) after lack → Charts t c (lack_told (length c.actions) (length c.pairs) lack)
      lack_charts none same (nothing given) =
          fine (uncircled none) λ i j d. links_chained c.pairs (links.by_pairs all) ((same i j).0 (given i j d))
      lack_charts none same (two {i = i} {j = j} direct not-linked lower) =
          lacking (uncircled none) (record {
            direct = direct;
            unchained = λ h. not-linked ((same i j).1 (chained_links c.pairs (links.by_pairs all) h));
            lower = λ k l h d. links_chained c.pairs (links.by_pairs all) ((same k l).0 (lower k l h d));
          })

      pub closed_charts :
          {after : ℕ → ℕ → Type 0} {r : Result (Unit {0}) Circle} {lack : Option (ℕ × ℕ)} → ClosesTo linked after r → is_err r ≡ false → LacksOf (Direct t) after lack
          → Charts t c (lack_told (length c.actions) (length c.pairs) lack)
      closed_charts (chains none same) e lacks = lack_charts none same lacks
      closed_charts (circle _) e lacks = absurd (true≢false e)
