-- Where there is a straight plan: what is found in the list is an answer about the chart.
-- Assumes nothing.
use Prim.Native.Nat.{ℕ, ◌≤◌, ◌<◌}
use mathlib.Core.Path.{◌≡◌}
use lib.ListN.{length}
use Rattle.answer.specs.Answers.{refusal}
use Rattle.study.specs.Study.{Study}
use Rattle.listing.specs.Listing.{FindsUnusable, FindsAmiss}
use Rattle.charts.specs.Charts.{Chart}
use Rattle.charts.specs.Answers.{most_actions, most_pairs, Plannable, Within, Usably, Listed, Charts, unusable, amiss}

module _
    {t : Study} (c : Chart) (plannable : Plannable t) (few_actions : length c.actions ≤ most_actions)
    (few_pairs : length c.pairs ≤ most_pairs)
  where
    within : Within t c
    within = record { plannable = plannable; few_actions = few_actions; few_pairs = few_pairs }

    module _ {k : ℕ} (finds : FindsUnusable t c.actions k) where
      pub found_unusable : k < length c.actions → Charts t c (refusal 14 k)
      found_unusable h = unusable within (finds.first h)

      module _ (none : k ≡ length c.actions) {i : ℕ} (found : FindsAmiss t c.actions i) where
        usably : Usably t c
        usably = record { within = within; usable = finds.all none }

        pub found_amiss : i < 256 → Charts t c (refusal 25 i)
        found_amiss h = amiss usably (found.lowest h)

        pub found_listed : i ≡ 256 → Listed t c
        found_listed e = record { usably = usably; none_amiss = found.none e }
