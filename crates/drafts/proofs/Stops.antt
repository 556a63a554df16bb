-- What is so of a step by its kind: it goes on, or it has stopped.
-- Assumes nothing.
use mathlib.Core.Path.{◌≡◌, refl, ap, subst, ◌∙◌}
use mathlib.Core.List.{List, [], ◌∷◌}
use Prim.Native.Nat.{ℕ}
use native.Mathlib.Omega.{arith}
use types.Run.{OneOf}
use denote.Enum.Declared.{tag_of}
use Rattle.study.specs.Study.{Roster}
use Rattle.study.specs.Reading.{Said, Record, reading, refused}
use Rattle.advancing.specs.declared.Progress.{Progress}
use Rattle.advancing.specs.declared.Step.{Step}
use Rattle.advancing.specs.declared.Step.TheVariants.{On, Refused, Done}
use Rattle.advancing.specs.contracts.Step.{the_type}
use Rattle.advancing.proofs.Judged.{same, not_on}
use Rattle.standing.specs.Reads.{Bounds}
use Rattle.drafts.specs.Drafts.{Drafted, Leads, Keeps}

-- steps of two kinds are not the same
differ : {A : Type 0} {s t : Step} → s ≡ t → (tag_of the_type s ≡ tag_of the_type t → ⊥) → A
differ e f = absurd (f (ap (tag_of the_type) e))

module _ {counts : List ℕ} {P : Progress → Type 0} where
  pub on_keeps : {p : Progress} → Bounds p counts → P p → Keeps counts P (On p)
  on_keeps bounds so = record { on = λ q e. subst (λ (p : Progress). Bounds p counts × P p) (same e) (bounds, so) }

  pub refused_keeps : {n place : ℕ} → Keeps counts P (Refused n place)
  refused_keeps = record { on = λ q e. differ e (λ z. omega arith) }

  pub stopped_keeps : {s : Step} → OneOf (1 ∷ 2 ∷ []) (tag_of the_type s) → Keeps counts P s
  stopped_keeps h = record { on = λ q e. absurd (not_on h e) }

  -- what is so of a step that goes on makes something else so
  pub keeps_more : {Q : Progress → Type 0} {s : Step} → Keeps counts P s → ((q : Progress) → P q → Q q) → Keeps counts Q s
  keeps_more k f = record { on = λ q e. ((k.on q e).0, f q (k.on q e).1) }

module _ {file counts : List ℕ} {to-come : List Record} where
  pub on_leads : {p : Progress} → Drafted file counts p to-come → Leads file counts to-come (On p)
  on_leads h = record {
    on = λ q e. subst (λ (p : Progress). Drafted file counts p to-come) (same e) h;
    refuses = λ n place e. differ e (λ z. omega arith);
    is_not_done = λ q e. differ e (λ z. omega arith);
  }

  pub refused_leads : {n place : ℕ} → reading file ≡ refused n place → Leads file counts to-come (Refused n place)
  refused_leads says = record {
    on = λ q e. differ e (λ z. omega arith);
    refuses = λ n place e. says ∙ also e;
    is_not_done = λ q e. differ e (λ z. omega arith);
  }
    where
      also : {n m place there : ℕ} → Refused n place ≡ Refused m there → ◌≡◌ {A = Said Roster} (refused n place) (refused m there)
      also e = cc

  -- where a step has stopped, the tables and the records to come do not matter
  pub stopped_leads :
      {counts' : List ℕ} {there : List Record} {s : Step}
      → OneOf (1 ∷ 2 ∷ []) (tag_of the_type s) → Leads file counts to-come s → Leads file counts' there s
  stopped_leads h l = record { on = λ q e. absurd (not_on h e); refuses = l.refuses; is_not_done = l.is_not_done }

  -- a step that cannot go on leads to any records
  pub leads_nowhere :
      {there : List Record} {s : Step} → ((p : Progress) → s ≡ On p → ⊥) → Leads file counts to-come s → Leads file counts there s
  leads_nowhere f l = record { on = λ q e. absurd (f q e); refuses = l.refuses; is_not_done = l.is_not_done }
