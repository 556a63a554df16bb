-- From a place that is reached, one look more: what the file says, or the next place.
-- Assumes nothing.
use mathlib.Core.Path.{◌≡◌, refl, ◌∙◌}
use mathlib.Core.List.{List}
use Prim.Native.Nat.{ℕ, zero, suc, ◌+◌, ◌≤◌, ◌<◌}
use native.Mathlib.Omega.{arith}
use lib.ListN.{length}
use Rattle.study.specs.Study.{Roster}
use Rattle.study.specs.Reading.{Said, Draft, blank, settled, onward, verdict_at, reading}
use Rattle.study.proofs.Verdicts.{read_settled, read_onward}
use Rattle.standing.specs.Reads.{Reached}

pub begun : (file : List ℕ) → Reached file 0 blank
unfolding reading
begun file = record { looks = length file + 1; enough = omega arith; reads = refl }

module _ {file : List ℕ} {at : ℕ} {d : Draft} (reached : Reached file at d) (inside : at ≤ length file) where
  -- there is one look left at least
  looked : (n : ℕ) × (reached.looks ≡ suc n)
  looked = go reached.looks refl
    where
      go : (k : ℕ) → reached.looks ≡ k → (n : ℕ) × (reached.looks ≡ suc n)
      go zero e = absurd (omega (arith, reached.enough))
      go (suc n) e = (n, e)

  pub settles : {s : Said Roster} → verdict_at file at d ≡ settled s → reading file ≡ s
  settles v = reached.reads ∙ read_settled file at d looked.1 v

  pub goes_further : {next : ℕ} {d' : Draft} → verdict_at file at d ≡ onward next d' → at < next → Reached file next d'
  goes_further v further =
      let l = looked in
      record {
        looks = l.0;
        enough = omega (arith, reached.enough, l.1);
        reads = reached.reads ∙ read_onward file at d l.1 v;
      }
