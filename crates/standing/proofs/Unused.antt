-- The lowest clear bit of the set of used variables tells whether some variable is not used, and which is the lowest.
-- Assumes nothing.
use mathlib.Core.Path.{◌≡◌, sym, ◌∙◌}
use mathlib.Core.Option.{none, some}
use mathlib.Core.List.{List}
use Prim.Native.Nat.{ℕ, ◌≤◌, ◌<◌}
use native.Mathlib.Omega.{arith}
use Rattle.bits.specs.Bits.{LowestClear}
use Rattle.study.specs.Uses.{first_unused}
use Rattle.study.specs.Reading.{Draft}
use Rattle.study.proofs.Uses.{nothing_unused, lowest_is_found}
use Rattle.advancing.specs.declared.Progress.{Progress}
use Rattle.standing.specs.Reads.{Knows}

module _ {p : Progress} {table : List ℕ} {d : Draft} (knows : Knows p table d) {k : ℕ} (lowest : LowestClear 64 p.used k) where
  pub unused_is : k < p.vars → first_unused d.study ≡ some k
  unused_is less =
      lowest_is_found d.study
      (record {
        there = omega (arith, knows.counts.count);
        unused = sym (knows.used k) ∙ lowest.clear (omega (arith, knows.counts.few));
        lower_used = λ w h. sym (knows.used w) ∙ lowest.set_below w h;
      })

  pub none_is_unused : p.vars ≤ k → first_unused d.study ≡ none
  none_is_unused all =
      nothing_unused d.study (λ v h. sym (knows.used v) ∙ lowest.set_below v (omega (arith, knows.counts.count)))
