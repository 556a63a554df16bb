-- On every chart of a lawful study, and so of every file, checking allows one answer and no other.
-- Assumes nothing.
use Prim.Native.Nat.{ℕ, ◌≤◌, ◌<◌}
use native.Mathlib.Omega.{arith}
use native.Mathlib.Decide.{dec_le}
use mathlib.Core.Path.{◌≡◌, refl, sym, ◌∙◌}
use mathlib.Core.Logic.{◌⊎◌, inl, inr}
use mathlib.Core.List.{List}
use lib.ListN.{length, get_or}
use Rattle.answer.specs.Answers.{three, done, refusal}
use Rattle.answer.specs.Allowing.{SettlesOne, AnswersOne}
use Rattle.answer.specs.declared.Answer.{Answer}
use Rattle.study.specs.Study.{Study}
use Rattle.study.specs.Reading.{Said, says, refused, reading_for}
use Rattle.lawful.specs.Lawful.{Lawful}
use Rattle.lawful.proofs.Loads.{LawfulIfHeard, hearing_lawful}
use Rattle.plans.specs.Plans.{Usable}
use Rattle.planning.proofs.Ways.{Barred, without, off, on_ring, barred_has_none}
use Rattle.planning.proofs.Determined.{barred_determined}
use Rattle.charts.specs.Charts.{Chart, chart_of}
use Rattle.charts.specs.Faults.{AllUsable, FirstUnusable, NoneAmiss, LowestAmiss, Astray, pair_at, NoneAstray, FirstAstray, InCircle, NoCircle}
use Rattle.charts.specs.Faults.{NoneLacking, LowestLacking}
use Rattle.charts.specs.Answers.{most_actions, most_pairs, Plannable, Within, Usably, Listed, WellPaired, Uncircled, ChartsFile, ChartAllows}
use Rattle.charts.specs.Answers.{Charts, no_walk, off_walk_lem, ring, too_many_actions, too_many_pairs, unusable, amiss, astray, circle, lacking, fine}
use Rattle.charts.proofs.Lowest.{lowest_same, lowest_two_same}
use Rattle.charts.proofs.Stages.{Else, stops, goes_on, else_settles, else_answers}
use Rattle.charts.proofs.Decided.{barred_or_plannable, unusable_or_none, amiss_or_none, astray_or_none, circle_or_none, Lacks, lacking_or_none}

-- some number has the property, and the answer tells it
abbrev Telling : (ℕ → Type 0) → (ℕ → Answer) → Answer → Type 0
Telling P answer r = (k : ℕ) × (P k × (r ≡ answer k))

telling_settles : {P : ℕ → Type 0} {answer : ℕ → Answer} → ((i j : ℕ) → P i → P j → answer i ≡ answer j) → SettlesOne (Telling P answer)
telling_settles same r s (i, (p, e)) (j, (q, f)) = e ∙ same i j p q ∙ sym f

telling_answers : {P : ℕ → Type 0} {answer : ℕ → Answer} {none : Type 0} → ((k : ℕ) × P k) ⊎ none → AnswersOne (Telling P answer) ⊎ none
telling_answers {answer = answer} (inl (k, p)) = inl (record { answer = answer k; allowed = (k, (p, refl)) })
telling_answers (inr n) = inr n

-- too many of something, whose number is the answer's first
abbrev Over : ℕ → ℕ → Answer → Type 0
Over most n r = (most < n) × (r ≡ refusal 19 n)

over_settles : (most n : ℕ) → SettlesOne (Over most n)
over_settles most n r s p q = p.1 ∙ sym q.1

over_answers : (most n : ℕ) → AnswersOne (Over most n) ⊎ (n ≤ most)
over_answers most n = go (dec_le n most)
  where
    go : Dec (n ≤ most) → AnswersOne (Over most n) ⊎ (n ≤ most)
    go (yes h) = inr h
    go (no h) = inl (record { answer = refusal 19 n; allowed = (omega arith, refl) })

-- ---- the stages, from the last to the first

module _ (t : Study) (c : Chart) where
  abbrev Ends : Answer → Type 0
  Ends r = r ≡ done (length c.actions) (length c.pairs)

  abbrev Lacked : Answer → Type 0
  Lacked r = (i : ℕ) × ((j : ℕ) × (LowestLacking t c.pairs i j × (r ≡ three 28 i j)))

  abbrev FromLacking : Answer → Type 0
  FromLacking = Else Lacked (NoneLacking t c.pairs) Ends

  abbrev FromCircle : Answer → Type 0
  FromCircle = Else (Telling (InCircle c.pairs) (λ x. refusal 27 0)) (NoCircle c.pairs) FromLacking

  abbrev FromAstray : Answer → Type 0
  FromAstray = Else (Telling (FirstAstray c.actions c.pairs) (refusal 26)) (NoneAstray c.actions c.pairs) FromCircle

  abbrev FromAmiss : Answer → Type 0
  FromAmiss = Else (Telling (LowestAmiss t c.actions) (refusal 25)) (NoneAmiss t c.actions) FromAstray

  abbrev FromUnusable : Answer → Type 0
  FromUnusable = Else (Telling (FirstUnusable t c.actions) (refusal 14)) (AllUsable t c.actions) FromAmiss

  abbrev FromPairs : Answer → Type 0
  FromPairs = Else (Over most_pairs (length c.pairs)) (length c.pairs ≤ most_pairs) FromUnusable

  abbrev FromActions : Answer → Type 0
  FromActions = Else (Over most_actions (length c.actions)) (length c.actions ≤ most_actions) FromPairs

  abbrev Staged : Answer → Type 0
  Staged = Else (Barred t) (Plannable t) FromActions

  -- ---- what is allowed is what the stages give

  within_on : {r : Answer} → Within t c → FromUnusable r → Staged r
  within_on w p = goes_on w.plannable (goes_on w.few_actions (goes_on w.few_pairs p))

  listed_on : {r : Answer} → Listed t c → FromAstray r → Staged r
  listed_on l p = within_on l.usably.within (goes_on l.usably.usable (goes_on l.none_amiss p))

  uncircled_on : {r : Answer} → Uncircled t c → FromLacking r → Staged r
  uncircled_on u p = listed_on u.paired.listed (goes_on u.paired.none_astray (goes_on u.no_circle p))

  charts_staged : {r : Answer} → Charts t c r → Staged r
  charts_staged (no_walk l) = stops (without l)
  charts_staged (off_walk_lem w l) = stops (off w l)
  charts_staged (ring w m r n) = stops (on_ring w m r n)
  charts_staged (too_many_actions p h) = goes_on p (stops (h, refl))
  charts_staged (too_many_pairs p a h) = goes_on p (goes_on a (stops (h, refl)))
  charts_staged (unusable {k = k} w f) = within_on w (stops (k, (f, refl)))
  charts_staged (amiss {i = i} u l) = within_on u.within (goes_on u.usable (stops (i, (l, refl))))
  charts_staged (astray {k = k} l f) = listed_on l (stops (k, (f, refl)))
  charts_staged (circle {x = x} w r) = listed_on w.listed (goes_on w.none_astray (stops (x, (r, refl))))
  charts_staged (lacking {i = i} {j = j} u l) = uncircled_on u (stops (i, (j, (l, refl))))
  charts_staged (fine u n) = uncircled_on u (goes_on n refl)

  lacking_charts : {r : Answer} → Uncircled t c → FromLacking r → Charts t c r
  lacking_charts u (stops (i, (j, (l, e)))) = rw e (lacking u l)
  lacking_charts u (goes_on n e) = rw e (fine u n)

  circle_charts : {r : Answer} → WellPaired t c → FromCircle r → Charts t c r
  circle_charts w (stops (x, (r, e))) = rw e (circle w r)
  circle_charts w (goes_on n p) = lacking_charts (record { paired = w; no_circle = n }) p

  astray_charts : {r : Answer} → Listed t c → FromAstray r → Charts t c r
  astray_charts l (stops (k, (f, e))) = rw e (astray l f)
  astray_charts l (goes_on n p) = circle_charts (record { listed = l; none_astray = n }) p

  amiss_charts : {r : Answer} → Usably t c → FromAmiss r → Charts t c r
  amiss_charts u (stops (i, (l, e))) = rw e (amiss u l)
  amiss_charts u (goes_on n p) = astray_charts (record { usably = u; none_amiss = n }) p

  unusable_charts : {r : Answer} → Within t c → FromUnusable r → Charts t c r
  unusable_charts w (stops (k, (f, e))) = rw e (unusable w f)
  unusable_charts w (goes_on n p) = amiss_charts (record { within = w; usable = n }) p

  barred_charts : {r : Answer} → Barred t r → Charts t c r
  barred_charts (without l) = no_walk l
  barred_charts (off w l) = off_walk_lem w l
  barred_charts (on_ring w m r n) = ring w m r n

  staged_charts : {r : Answer} → Staged r → Charts t c r
  staged_charts (stops b) = barred_charts b
  staged_charts (goes_on p (stops (h, e))) = rw e (too_many_actions p h)
  staged_charts (goes_on p (goes_on a (stops (h, e)))) = rw e (too_many_pairs p a h)
  staged_charts (goes_on p (goes_on a (goes_on b q))) = unusable_charts (record { plannable = p; few_actions = a; few_pairs = b }) q

  -- ---- one fault gives one answer

  unusable_same : (i j : ℕ) → FirstUnusable t c.actions i → FirstUnusable t c.actions j → i ≡ j
  unusable_same i j a b =
      lowest_same {P = λ k. Usable t (get_or c.actions k 0) → ⊥}
      a.unusable (λ k h n. n (a.before k h)) b.unusable (λ k h n. n (b.before k h))

  astray_same : (i j : ℕ) → FirstAstray c.actions c.pairs i → FirstAstray c.actions c.pairs j → i ≡ j
  astray_same i j a b =
      lowest_same {P = λ k. Astray c.actions (pair_at c.pairs k)} a.astray a.before b.astray b.before

  lacked_settles : SettlesOne Lacked
  lacked_settles r s (i, (j, (a, e))) (k, (l, (b, f))) =
      let (g, h) =
      lowest_two_same {P = Lacks t c.pairs}
      (a.direct, a.unchained) (λ x y m d. d.1 (a.lower x y m d.0))
      (b.direct, b.unchained) (λ x y m d. d.1 (b.lower x y m d.0))
      in cc

  module _ (lawful : Lawful t) where
    staged_settles : SettlesOne Staged
    staged_settles =
        else_settles (λ r s. barred_determined lawful) (λ r b p. barred_has_none lawful b p.1)
        (else_settles (over_settles most_actions (length c.actions)) (λ r h g. omega (arith, h.0))
        (else_settles (over_settles most_pairs (length c.pairs)) (λ r h g. omega (arith, h.0))
        (else_settles (telling_settles (λ i j f g. let e = unusable_same i j f g in cc)) (λ r f all. f.1.0.unusable (all f.0 f.1.0.there))
        (else_settles (telling_settles (λ i j f g. let e = lowest_same f.amiss f.lower g.amiss g.lower in cc))
        (λ r f none. none f.0 f.1.0.amiss)
        (else_settles (telling_settles (λ i j f g. let e = astray_same i j f g in cc)) (λ r f none. none f.0 f.1.0.there f.1.0.astray)
        (else_settles (telling_settles (λ i j _ _. refl)) (λ r f none. none f.0 f.1.0)
        (else_settles lacked_settles (λ r f none. f.1.1.0.unchained (none f.0 f.1.0 f.1.1.0.direct))
        (λ r s e f. e ∙ sym f))))))))

    pub charts_determined : SettlesOne (Charts t c)
    charts_determined r s p q = staged_settles r s (charts_staged p) (charts_staged q)

    -- ---- and there is one

    barred_answers : ((r : Answer) × Barred t r) ⊎ Plannable t → AnswersOne (Barred t) ⊎ Plannable t
    barred_answers (inl (r, b)) = inl (record { answer = r; allowed = b })
    barred_answers (inr p) = inr p

    lacked_answers :
        ((i : ℕ) × ((j : ℕ) × LowestLacking t c.pairs i j)) ⊎ NoneLacking t c.pairs → AnswersOne Lacked ⊎ NoneLacking t c.pairs
    lacked_answers (inl (i, (j, l))) = inl (record { answer = three 28 i j; allowed = (i, (j, (l, refl))) })
    lacked_answers (inr n) = inr n

    staged_answers : AnswersOne Staged
    staged_answers =
        else_answers (barred_answers (barred_or_plannable lawful)) λ _.
        else_answers (over_answers most_actions (length c.actions)) λ _.
        else_answers (over_answers most_pairs (length c.pairs)) λ _.
        else_answers (telling_answers (unusable_or_none t c.actions)) λ usable.
        else_answers (telling_answers (amiss_or_none lawful c.actions usable)) λ _.
        else_answers (telling_answers (astray_or_none c.actions c.pairs)) λ _.
        else_answers (telling_answers (circle_or_none c.pairs)) λ _.
        else_answers (lacked_answers (lacking_or_none lawful c.pairs)) λ _.
        record { answer = done (length c.actions) (length c.pairs); allowed = refl }

    pub charts_answered : AnswersOne (Charts t c)
    charts_answered = record { answer = staged_answers.answer; allowed = staged_charts staged_answers.allowed }

-- ---- files

charts_file_determined : (said : Said Study) → LawfulIfHeard said → (c : Chart) → SettlesOne (ChartsFile said c)
charts_file_determined (says t) lawful c = charts_determined t c lawful
charts_file_determined (refused number place) lawful c = λ r s p q. p ∙ sym q

charts_file_answered : (said : Said Study) → LawfulIfHeard said → (c : Chart) → AnswersOne (ChartsFile said c)
charts_file_answered (says t) lawful c = charts_answered t c lawful
charts_file_answered (refused number place) lawful c = record { answer = refusal number place; allowed = refl }

pub chart_settled : (file : List ℕ) (crew : ℕ) (actions pairs : List ℕ) → SettlesOne (ChartAllows file crew actions pairs)
chart_settled file crew actions pairs = charts_file_determined (reading_for file crew) (hearing_lawful file crew) (chart_of actions pairs)

pub chart_answered : (file : List ℕ) (crew : ℕ) (actions pairs : List ℕ) → AnswersOne (ChartAllows file crew actions pairs)
chart_answered file crew actions pairs = charts_file_answered (reading_for file crew) (hearing_lawful file crew) (chart_of actions pairs)
