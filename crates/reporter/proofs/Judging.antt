-- Seeds judged by comparisons, and what a report may answer to seeds so judged.
-- Assumes nothing.
use Prim.Native.Nat.{ℕ, ◌+◌, ◌≤◌, ◌<◌}
use native.Mathlib.Omega.{arith}
use native.Mathlib.Decide.{dec_le}
use mathlib.Core.Path.{◌≡◌, refl, sym, ap, ◌∙◌}
use mathlib.Core.Logic.{◌≢◌}
use mathlib.Core.Bool.{Bool, true, false, ◌&&◌, and-eq-true_iff}
use mathlib.Core.Option.{Option, none, some}
use mathlib.Core.List.{List}
use lib.Dec.{leb}
use borrow.Author.Tests.{leb-true, le-leb, lt-leb}
use Rattle.plain.specs.Choose.{pick}
use Rattle.answer.specs.Answers.{done, refusal}
use Rattle.answer.specs.Allowing.{Exactly}
use Rattle.answer.specs.declared.Answer.{Answer}
use Rattle.draw.specs.Draw.{seed_in_range}
use Rattle.study.specs.Study.{Study}
use Rattle.study.specs.Reading.{says}
use Rattle.varied.specs.Report.{first_outside, Reports, BySeeds, ReportsOn}
use Rattle.varied.proofs.Seeds.{first_seed_outside, no_seed_outside, last_seeds_outside}
use Rattle.reporter.specs.Judged.{outside_answer, seeds_answer}

-- ---- by comparisons

module _ (first n : ℕ) where
  pub too_few : n < 1 → seeds_answer first n ≡ refusal 19 n
  unfolding seeds_answer
  too_few h = rw (lt-leb 1 n h)

  pub too_many : 64 < n → seeds_answer first n ≡ refusal 19 n
  unfolding seeds_answer
  too_many h = rw (le-leb 1 n (omega arith), lt-leb n 64 h)

  module _ (some-seeds : 1 ≤ n) (few : n ≤ 64) where
    by_first_outside : (outside : Option ℕ) → first_outside first n ≡ outside → seeds_answer first n ≡ outside_answer outside
    unfolding seeds_answer
    by_first_outside outside e = rw (le-leb 1 n some-seeds, le-leb n 64 few, e)

    pub below_the_first : first < 1 → seeds_answer first n ≡ refusal 18 first
    below_the_first h = by_first_outside (some first) (first_seed_outside first n some-seeds (rw (lt-leb 1 first h)))

    pub past_the_last : 2147483646 < first → seeds_answer first n ≡ refusal 18 first
    past_the_last h =
        by_first_outside (some first)
        (first_seed_outside first n some-seeds (simp (le-leb 1 first (omega arith), lt-leb first 2147483646 h)))

    module _ (low : 1 ≤ first) (high : first ≤ 2147483646) where
      in_range_lem : seed_in_range first ≡ true
      in_range_lem = simp (le-leb 1 first low, le-leb first 2147483646 high)

      pub runs_past : 2147483647 < first + n → seeds_answer first n ≡ refusal 18 2147483647
      runs_past h = by_first_outside (some 2147483647) (last_seeds_outside first n in_range_lem h)

      pub all_in_range : first + n ≤ 2147483647 → seeds_answer first n ≡ done 0 0
      all_in_range h = by_first_outside none (no_seed_outside first n in_range_lem h)

-- ---- what may be answered

module _ (t : Study) (first n : ℕ) (before : List ℕ) where
  refused_by :
      (outside : Option ℕ) (few : Bool) {r : Answer}
      → r ≡ pick few (outside_answer outside) (refusal 19 n) → r.number ≢ 0
      → pick few (BySeeds outside t first n before) (Exactly (refusal 19 n) before) r before
  refused_by outside false e h = (e, refl)
  refused_by none true e h = absurd (h (ap (λ (a : Answer). a.number) e))
  refused_by (some seed) true e h = (e, refl)

  pub seeds_refused : {r : Answer} → r ≡ seeds_answer first n → r.number ≢ 0 → ReportsOn (says t) first n before r before
  unfolding seeds_answer
  seeds_refused e h = refused_by (first_outside first n) (leb 1 n && leb n 64) e h

-- seeds that are not refused: one to 64, all in range
pub record Fine (first n : ℕ) : Type 0 where
  pub few : (leb 1 n && leb n 64) ≡ true
  pub inside : first_outside first n ≡ none

module _ (first n : ℕ) where
  fine_by :
      (outside : Option ℕ) (few : Bool) → first_outside first n ≡ outside → (leb 1 n && leb n 64) ≡ few
      → (pick few (outside_answer outside) (refusal 19 n)).number ≡ 0 → Fine first n
  fine_by outside false e f h = absurd (omega (arith, h))
  fine_by none true e f h = record { few = f; inside = e }
  fine_by (some seed) true e f h = absurd (omega (arith, h))

  pub seeds_fine : {r : Answer} → r ≡ seeds_answer first n → r.number ≡ 0 → Fine first n
  unfolding seeds_answer
  seeds_fine e h =
      fine_by (first_outside first n) (leb 1 n && leb n 64) refl refl (sym (ap (λ (a : Answer). a.number) e) ∙ h)

  module _ (fine : Fine first n) where
    pub at_least_one : 1 ≤ n
    at_least_one = leb-true 1 n ((and-eq-true_iff (leb 1 n) (leb n 64)).0 fine.few).0

    pub at_most_64 : n ≤ 64
    at_most_64 = leb-true n 64 ((and-eq-true_iff (leb 1 n) (leb n 64)).0 fine.few).1

    -- none is outside, so neither the first nor the last is

    not_outside : (seed : ℕ) → first_outside first n ≡ some seed → ⊥
    not_outside seed e =
        let none_is = fine.inside in
        let z : ◌≡◌ {A = ℕ} 0 1 = cc in
        omega arith

    first_in_range : (b : Bool) → seed_in_range first ≡ b → seed_in_range first ≡ true
    first_in_range true e = e
    first_in_range false e = absurd (not_outside first (first_seed_outside first n at_least_one e))

    pub from_the_first : 1 ≤ first
    from_the_first =
        leb-true 1 first ((and-eq-true_iff (leb 1 first) (leb first 2147483646)).0 (first_in_range (seed_in_range first) refl)).0

    pub to_the_last : first + n ≤ 2147483647
    to_the_last = go (dec_le (first + n) 2147483647)
      where
        go : Dec (first + n ≤ 2147483647) → first + n ≤ 2147483647
        go (yes h) = h
        go (no h) =
            absurd (not_outside 2147483647 (last_seeds_outside first n (first_in_range (seed_in_range first) refl) (omega arith)))

    pub report_on_fine : {t : Study} {before after : List ℕ} {r : Answer} → Reports t first n before r after → ReportsOn (says t) first n before r after
    report_on_fine p = rw (fine.few, fine.inside) p
