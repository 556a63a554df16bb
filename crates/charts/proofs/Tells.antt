-- What an answer about a chart tells, read off the answer: the fault that its number names, at the place that it gives.
-- Assumes nothing.
use Prim.Native.Nat.{ℕ, ◌<◌}
use native.Mathlib.Omega.{arith}
use mathlib.Core.Path.{◌≡◌, refl}
use mathlib.Core.Logic.{inl, inr}
use Rattle.answer.specs.declared.Answer.{Answer}
use Rattle.study.specs.Study.{Study}
use Rattle.charts.specs.Charts.{Chart}
use Rattle.charts.specs.Faults.{FirstUnusable, LowestAmiss, FirstAstray, InCircle, Chained, Direct, LowestLacking}
use Rattle.charts.specs.Answers.{Charts, no_walk, off_walk_lem, ring, too_many_actions, too_many_pairs, unusable, amiss, astray, circle, lacking, fine}

module _ {t : Study} {c : Chart} where
  -- 14: entry `first` of the list is the first that may not be used
  pub answer_14_unusable : {r : Answer} → Charts t c r → r.number ≡ 14 → FirstUnusable t c.actions r.first
  answer_14_unusable (no_walk _) e = absurd (omega arith)
  answer_14_unusable (off_walk_lem _ _) e = absurd (omega arith)
  answer_14_unusable (ring _ _ _ _) e = absurd (omega arith)
  answer_14_unusable (too_many_actions _ _) e = absurd (omega arith)
  answer_14_unusable (too_many_pairs _ _ _) e = absurd (omega arith)
  answer_14_unusable (unusable _ f) e = f
  answer_14_unusable (amiss _ _) e = absurd (omega arith)
  answer_14_unusable (astray _ _) e = absurd (omega arith)
  answer_14_unusable (circle _ _) e = absurd (omega arith)
  answer_14_unusable (lacking _ _) e = absurd (omega arith)
  answer_14_unusable (fine _ _) e = absurd (omega arith)

  -- 25: `first` is the lowest action that repeats, is missing, or is on no walk
  pub answer_25_amiss : {r : Answer} → Charts t c r → r.number ≡ 25 → LowestAmiss t c.actions r.first
  answer_25_amiss (no_walk _) e = absurd (omega arith)
  answer_25_amiss (off_walk_lem _ _) e = absurd (omega arith)
  answer_25_amiss (ring _ _ _ _) e = absurd (omega arith)
  answer_25_amiss (too_many_actions _ _) e = absurd (omega arith)
  answer_25_amiss (too_many_pairs _ _ _) e = absurd (omega arith)
  answer_25_amiss (unusable _ _) e = absurd (omega arith)
  answer_25_amiss (amiss _ f) e = f
  answer_25_amiss (astray _ _) e = absurd (omega arith)
  answer_25_amiss (circle _ _) e = absurd (omega arith)
  answer_25_amiss (lacking _ _) e = absurd (omega arith)
  answer_25_amiss (fine _ _) e = absurd (omega arith)

  -- 26: pair `first` is the first that names an action not listed, or an action and itself
  pub answer_26_astray : {r : Answer} → Charts t c r → r.number ≡ 26 → FirstAstray c.actions c.pairs r.first
  answer_26_astray (no_walk _) e = absurd (omega arith)
  answer_26_astray (off_walk_lem _ _) e = absurd (omega arith)
  answer_26_astray (ring _ _ _ _) e = absurd (omega arith)
  answer_26_astray (too_many_actions _ _) e = absurd (omega arith)
  answer_26_astray (too_many_pairs _ _ _) e = absurd (omega arith)
  answer_26_astray (unusable _ _) e = absurd (omega arith)
  answer_26_astray (amiss _ _) e = absurd (omega arith)
  answer_26_astray (astray _ f) e = f
  answer_26_astray (circle _ _) e = absurd (omega arith)
  answer_26_astray (lacking _ _) e = absurd (omega arith)
  answer_26_astray (fine _ _) e = absurd (omega arith)

  -- 27: the pairs form a circle
  pub answer_27_circle : {r : Answer} → Charts t c r → r.number ≡ 27 → (x : ℕ) × InCircle c.pairs x
  answer_27_circle (no_walk _) e = absurd (omega arith)
  answer_27_circle (off_walk_lem _ _) e = absurd (omega arith)
  answer_27_circle (ring _ _ _ _) e = absurd (omega arith)
  answer_27_circle (too_many_actions _ _) e = absurd (omega arith)
  answer_27_circle (too_many_pairs _ _ _) e = absurd (omega arith)
  answer_27_circle (unusable _ _) e = absurd (omega arith)
  answer_27_circle (amiss _ _) e = absurd (omega arith)
  answer_27_circle (astray _ _) e = absurd (omega arith)
  answer_27_circle (circle {x = x} _ f) e = (x, f)
  answer_27_circle (lacking _ _) e = absurd (omega arith)
  answer_27_circle (fine _ _) e = absurd (omega arith)

  -- 28: `first` and `second` are the lowest two in a direct order that no chain of pairs gives
  pub answer_28_lacking : {r : Answer} → Charts t c r → r.number ≡ 28 → LowestLacking t c.pairs r.first r.second
  answer_28_lacking (no_walk _) e = absurd (omega arith)
  answer_28_lacking (off_walk_lem _ _) e = absurd (omega arith)
  answer_28_lacking (ring _ _ _ _) e = absurd (omega arith)
  answer_28_lacking (too_many_actions _ _) e = absurd (omega arith)
  answer_28_lacking (too_many_pairs _ _ _) e = absurd (omega arith)
  answer_28_lacking (unusable _ _) e = absurd (omega arith)
  answer_28_lacking (amiss _ _) e = absurd (omega arith)
  answer_28_lacking (astray _ _) e = absurd (omega arith)
  answer_28_lacking (circle _ _) e = absurd (omega arith)
  answer_28_lacking (lacking _ f) e = f
  answer_28_lacking (fine _ _) e = absurd (omega arith)

  -- .. where no action below `first` is in one, and no action below `second` is in one with `first`
  pub answer_28_first_lowest :
      {r : Answer} → Charts t c r → r.number ≡ 28 → (k l : ℕ) → k < r.first → Direct t k l → Chained c.pairs k l
  answer_28_first_lowest p e k l h = (answer_28_lacking p e).lower k l (inl h)

  pub answer_28_second_lowest :
      {r : Answer} → Charts t c r → r.number ≡ 28 → (l : ℕ) → l < r.second → Direct t r.first l → Chained c.pairs r.first l
  answer_28_second_lowest {r} p e l h = (answer_28_lacking p e).lower r.first l (inr (refl, h))
