-- The report written where all seeds give plans.
-- Assumes nothing.
use mathlib.Core.Path.{◌≡◌, refl, sym, ap, ◌∙◌, subst}
use mathlib.Core.List.{List, [], ◌∷◌, ◌++◌}
use Prim.Native.Nat.{ℕ, ◌+◌, ◌*◌, ◌≤◌, ◌<◌}
use lib.ListN.{length, take, drop}
use lib.Seq.{drop-drop}
use Rattle.answer.specs.Answers.{done, refusal}
use Rattle.answer.specs.declared.Answer.{Answer}
use Rattle.study.specs.Study.{Study}
use Rattle.lawful.specs.Lawful.{Lawful}
use Rattle.varied.specs.Outcomes.{Outcome, planned, ComesTo, Come}
use Rattle.varied.specs.Figures.{plans_among, different, rows, report_of}
use Rattle.varied.specs.Report.{Reports}
use Rattle.varied.proofs.Alike.{AllPlans, plan_then_plans}
use Rattle.varied.proofs.Settled.{come_to_some}
use Rattle.varied.proofs.Told.{plans_report, plans_report_length}
use Rattle.heading.proofs.Writing.{writes_all, writes_none}
use Rattle.keeping.specs.Seeds.{KeptAll, Reported}

-- ---- all give plans

-- five figures are in front, and what is behind them stays
behind_five : (m x0 x1 x2 x3 x4 : ℕ) (l : List ℕ) → drop (5 + m) (x0 ∷ x1 ∷ x2 ∷ x3 ∷ x4 ∷ drop 5 l) ≡ drop (5 + m) l
behind_five m x0 x1 x2 x3 x4 l = sym (drop-drop m 5 (x0 ∷ x1 ∷ x2 ∷ x3 ∷ x4 ∷ drop 5 l)) ∙ drop-drop m 5 l

module _ {t : Study} {a first seeds len : ℕ} {before after : List ℕ} (is-a : a ≡ length t.actions) (some : 1 ≤ seeds) where
  -- .. the rows between are the report's
  figures_and_rows :
      {base stride d : ℕ} {region headed : List ℕ} (old : List ℕ) → (all : KeptAll t first seeds len base stride region)
      → d ≡ different (plans_among all.outcomes)
      → headed ≡ seeds ∷ 0 ∷ 0 ∷ 0 ∷ d ∷ drop 5 old
      → drop (5 + a * len) old ≡ drop (5 + a * len) before
      → after ≡ take 5 headed ++ (rows (plans_among all.outcomes) a 0 len ++ drop (5 + a * len) headed)
      → Reported t first seeds len before after
  figures_and_rows {d = d} {headed = headed} old all is-d heads same filled = record {
    outcomes = all.outcomes;
    each = all.each;
    come = all.come;
    plans = all.plans;
    whole =
        rw (← is-a)
        (rw (plans_report_length a len seeds all.outcomes all.plans all.each some)
        (rw (plans_report a len seeds all.outcomes all.plans all.each some) exactly));
  }
    where
      plans : List (List ℕ)
      plans = plans_among all.outcomes

      front : take 5 headed ≡ seeds ∷ 0 ∷ 0 ∷ 0 ∷ different plans ∷ []
      front = rw (heads, is-d)

      behind : drop (5 + a * len) headed ≡ drop (5 + a * len) before
      behind = ap (drop (5 + a * len)) heads ∙ behind_five (a * len) seeds 0 0 0 d old ∙ same

      exactly : after ≡ (seeds ∷ 0 ∷ 0 ∷ 0 ∷ different plans ∷ rows plans a 0 len) ++ drop (5 + a * len) before
      exactly = filled ∙ rw (front, behind)

  -- .. where the plans were kept apart, or in the rows
  pub figures_apart :
      {base stride d : ℕ} {region headed : List ℕ} → (all : KeptAll t first seeds len base stride region)
      → d ≡ different (plans_among all.outcomes)
      → headed ≡ seeds ∷ 0 ∷ 0 ∷ 0 ∷ d ∷ drop 5 before
      → after ≡ take 5 headed ++ (rows (plans_among all.outcomes) a 0 len ++ drop (5 + a * len) headed)
      → Reported t first seeds len before after
  figures_apart all is-d heads filled = figures_and_rows before all is-d heads refl filled

  pub figures_in_place :
      {base stride d : ℕ} {region headed : List ℕ} → (all : KeptAll t first seeds len base stride region)
      → d ≡ different (plans_among all.outcomes)
      → headed ≡ seeds ∷ 0 ∷ 0 ∷ 0 ∷ d ∷ drop 5 region
      → drop (5 + a * len) region ≡ drop (5 + a * len) before
      → after ≡ take 5 headed ++ (rows (plans_among all.outcomes) a 0 len ++ drop (5 + a * len) headed)
      → Reported t first seeds len before after
  figures_in_place {region = region} = figures_and_rows region

  module _ {r : Answer} where
    -- .. and with the answer
    pub reports_plans : 5 + a * len ≤ length before → Reported t first seeds len before after → r ≡ done (5 + a * len) 0 → Reports t first seeds before r after
    reports_plans room reported answered = record {
      outcomes = reported.outcomes;
      each = reported.each;
      come = reported.come;
      written = writes_all (report_of (length t.actions) reported.outcomes) before (rw is_long room) (rw is_long answered) reported.whole;
    }
      where
        is_long : length (report_of (length t.actions) reported.outcomes) ≡ 5 + a * len
        is_long = rw (← is-a) (plans_report_length a len seeds reported.outcomes reported.plans reported.each some)

    -- no room, whatever the other seeds' plans are
    pub reports_no_room :
        Lawful t → {plan : List ℕ} → ComesTo t first (planned plan) → length plan ≡ len → length before < 5 + a * len → r ≡ refusal 13 (5 + a * len)
        → after ≡ before → Reports t first seeds before r after
    reports_no_room lawful comes is-len short answered same = record {
      outcomes = outcomes;
      each = each;
      come = come;
      written = writes_none (report_of (length t.actions) outcomes) before (rw is_long short) (rw is_long answered) same;
    }
      where
        some_come : (outcomes : List Outcome) × ((length outcomes ≡ seeds) × Come t first outcomes)
        some_come = come_to_some lawful first seeds

        outcomes : List Outcome
        outcomes = some_come.0

        each : length outcomes ≡ seeds
        each = some_come.1.0

        come : Come t first outcomes
        come = some_come.1.1

        is_long : length (report_of (length t.actions) outcomes) ≡ 5 + a * len
        is_long =
            rw (← is-a)
            (plans_report_length a len seeds outcomes (subst (λ (n : ℕ). AllPlans n outcomes) is-len (plan_then_plans lawful comes first outcomes come)) each some)
