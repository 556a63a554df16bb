-- The verdict on a record, case by case.
-- Assumes nothing.
use mathlib.Core.Path.{◌≡◌, ap}
use mathlib.Core.Bool.{true, false}
use mathlib.Core.List.{List}
use Prim.Native.Nat.{ℕ, suc}
use Rattle.records.specs.Records.{record_at_lem}
use Rattle.records.specs.declared.Found.{Found}
use Rattle.records.specs.declared.Found.TheVariants.{There}
use Rattle.study.specs.Study.{Roster}
use Rattle.study.specs.Reading.{Said, refused, Draft, settled, onward, allowed, fault_in, record_from, taken, unless, judged, verdict_at, read_on}

module _ (file : List ℕ) (at : ℕ) (d : Draft) where
  pub verdict_by : {f : Found} → record_at_lem file at ≡ f → verdict_at file at d ≡ judged file at d f
  unfolding verdict_at
  verdict_by e = ap (judged file at d) e

  module _ {kind start next : ℕ} (there : record_at_lem file at ≡ There kind start next) where
    pub verdict_not_allowed : allowed d kind ≡ false → verdict_at file at d ≡ settled (refused 3 at)
    unfolding judged
    verdict_not_allowed h = rw (verdict_by there, h)

    pub verdict_allowed :
        allowed d kind ≡ true
        → verdict_at file at d ≡ unless (fault_in d (record_from file start kind)) at (taken file at d kind next (record_from file start kind))
    unfolding judged
    verdict_allowed h = rw (verdict_by there, h)

-- one look more, by its verdict
module _ (file : List ℕ) (at : ℕ) (d : Draft) {looks n : ℕ} (one_more : looks ≡ suc n) where
  pub read_settled : {s : Said Roster} → verdict_at file at d ≡ settled s → read_on looks file at d ≡ s
  unfolding read_on
  read_settled e = rw (one_more, e)

  pub read_onward : {next : ℕ} {d' : Draft} → verdict_at file at d ≡ onward next d' → read_on looks file at d ≡ read_on n file next d'
  unfolding read_on
  read_onward e = rw (one_more, e)
