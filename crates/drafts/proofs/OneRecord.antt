-- One record judged: the reader refuses it with the same number at the same place, or reads on behind it.
-- Assumes nothing.
use mathlib.Core.Path.{◌≡◌, refl, sym, ◌∙◌}
use mathlib.Core.Bool.{Bool, true, false}
use mathlib.Core.List.{List, [], ◌∷◌, ◌++◌}
use Prim.Native.Nat.{ℕ, zero, suc, ◌+◌, ◌≤◌, ◌<◌}
use native.Mathlib.Omega.{arith}
use lib.Dec.{eqb, ltb, eqb-suc-zero}
use lib.ListN.{length, drop, set, length-set}
use borrow.Author.Tests.{eq-eqb}
use Rattle.plain.specs.Choose.{pick}
use Rattle.study.specs.Reading.{Record, variable, action, condition, task, seed, times, present, crew, refused, reading, Draft, settled, onward, fault_in, drafted, taken, unless, may_follow_lem, verdict_at}
use Rattle.lawful.specs.Lengths.{bytes_of}
use Rattle.judging.specs.Faults.{variable_fault_lem, action_fault_lem, condition_fault_lem, task_fault_lem, seed_fault_lem, times_fault_lem, present_fault_lem, crew_fault_lem}
use Rattle.advancing.specs.declared.Progress.{Progress}
use Rattle.advancing.specs.declared.Step.TheVariants.{Refused}
use Rattle.advancing.specs.Steps.{after_variable, after_action, after_condition, after_task, after_seed, after_times, after_present, after_crew, unless_fault, stored}
use Rattle.standing.specs.Reads.{Bounds, Knows}
use Rattle.standing.proofs.Arms.{allowed_is, may_condition}
use Rattle.standing.proofs.Reached.{settles, goes_further}
use Rattle.standing.proofs.Told.{variable_fault_is, action_fault_is, condition_fault_is, task_fault_is, seed_fault_is, times_fault_is, present_fault_is, crew_fault_is}
use Rattle.standing.proofs.Knowing.{variable_known, action_known, condition_known, task_known, seed_known, times_known, present_known, crew_known}
use Rattle.spelling.specs.Spelling.{kind_of, spelled_record, spelled}
use Rattle.spelling.proofs.Spelled.{rest_there, rest_inside, spelled_verdict}
use Rattle.spelling.proofs.ReadBack.{retold_onward}
use Rattle.drafts.specs.Drafts.{NoVariableYet, VariablesGoOn, ActionsGoOn, BehindVariables, Drafted, Leads, Keeps}
use Rattle.drafts.proofs.Stops.{on_keeps, refused_keeps, on_leads, refused_leads}
use Rattle.drafts.proofs.Turns.{too_early}

-- where there is no fault it stays in range
pub keeps_unless :
    (counts : Bool → List ℕ) (P : Progress → Type 0) (p after : Progress) (f : ℕ)
    → (f ≡ 0 → Bounds after (counts true) × P after)
    → Keeps (counts (eqb f 0)) P (unless_fault f p after)
keeps_unless counts P p after zero h = on_keeps (h refl).0 (h refl).1
keeps_unless counts P p after (suc n) h = rw (eqb-suc-zero n) refused_keeps

module _ {file counts : List ℕ} {p : Progress} {rest : List Record} (r : Record) (h : Drafted file counts p (r ∷ rest)) where
  here : drop p.at file ≡ spelled_record r ++ spelled rest
  unfolding spelled
  here = h.rest

  pub verdict_here :
      {may : Bool} → may_follow_lem (ltb p.tasks p.vars) p.last (kind_of r) ≡ may
      → verdict_at file p.at h.draft
      ≡ pick may (unless (fault_in h.draft r) p.at (taken file p.at h.draft (kind_of r) (p.at + bytes_of r) r)) (settled (refused 3 p.at))
  verdict_here e = rw (← allowed_is h.knows (kind_of r) ∙ e) (spelled_verdict file (spelled rest) p.at r here h.draft)

  -- its kind may not come here
  pub out_of_turn : may_follow_lem (ltb p.tasks p.vars) p.last (kind_of r) ≡ false → reading file ≡ refused 3 p.at
  out_of_turn e = settles h.reached h.inside (verdict_here e)

  pub not_in_turn :
      {counts' : List ℕ} {there : List Record}
      → may_follow_lem (ltb p.tasks p.vars) p.last (kind_of r) ≡ false → Leads file counts' there (Refused 3 p.at)
  not_in_turn e = refused_leads (out_of_turn e)

  -- the draft with it
  abbrev with_it : Draft
  with_it = drafted h.draft p.at (kind_of r) r

  leads_unless :
      may_follow_lem (ltb p.tasks p.vars) p.last (kind_of r) ≡ true
      → (c : Bool → List ℕ) (after : Progress) (f : ℕ)
      → f ≡ fault_in h.draft r
      → taken file p.at h.draft (kind_of r) (p.at + bytes_of r) r ≡ onward after.at with_it
      → after.at ≡ p.at + bytes_of r → p.at < after.at
      → (f ≡ 0 → Knows after (c true) with_it × (length (c true) ≡ 32))
      → Leads file (c (eqb f 0)) rest (unless_fault f p after)
  unfolding unless
  leads_unless may c after zero same on at further good =
      let goes_on = rw (← same) at (verdict_here may) ∙ on in
      on_leads
      (record {
        draft = with_it;
        reached = goes_further h.reached h.inside goes_on further;
        retold = retold_onward (r ∷ rest) h.rest h.retold goes_on;
        knows = (good refl).0;
        wide = (good refl).1;
        rest = rw at (rest_there file (spelled rest) p.at r here);
        inside = rw at (rest_inside file (spelled rest) p.at r here);
      })
  leads_unless may c after (suc n) same on at further good =
      rw (eqb-suc-zero n) (refused_leads (settles h.reached h.inside (rw (← same) at (verdict_here may))))

-- behind an action or one of its conditions there is an action
some_action : {file counts : List ℕ} {p : Progress} {rest : List Record} → Drafted file counts p rest → 2 ≤ p.last → p.last ≤ 3 → 1 ≤ p.actions
some_action h low high =
    let last = h.knows.last in
    omega (arith, h.knows.actions, h.retold.met.sound.some_action (omega arith) (omega arith))

-- each kind, where it may come: the tables with its entry lead on
module _ {file counts : List ℕ} {p : Progress} {rest : List Record} where
  pub present_leads :
      (n : ℕ) → p.last ≡ 0 → Drafted file counts p (present n ∷ rest)
      → Leads file counts rest (unless_fault (present_fault_lem n) p (after_present p n (p.at + 2)))
  unfolding taken may_follow_lem
  present_leads n first h =
      leads_unless (present n) h (eq-eqb p.last 0 first) (λ b. counts) (after_present p n (p.at + 2)) (present_fault_lem n)
      (present_fault_is h.knows n) refl refl (omega arith) (λ z. (present_known h.knows _ n, h.wide))

  pub variable_leads :
      (n : ℕ) → VariablesGoOn p.last → Drafted file counts p (variable n ∷ rest)
      → Leads file (stored (variable_fault_lem p.vars n) counts p.vars n) rest (unless_fault (variable_fault_lem p.vars n) p (after_variable p (p.at + 2)))
  unfolding taken may_follow_lem
  variable_leads n may h =
      leads_unless (variable n) h may (λ b. pick b (set counts p.vars n) counts) (after_variable p (p.at + 2)) (variable_fault_lem p.vars n)
      (variable_fault_is h.knows n) refl refl (omega arith)
      (λ z. (variable_known h.knows _ n (sym (variable_fault_is h.knows n) ∙ z) h.wide, length-set counts p.vars n ∙ h.wide))

  pub action_leads :
      (v x y : ℕ) → ActionsGoOn p.last → Drafted file counts p (action v x y ∷ rest)
      → (f : ℕ) → f ≡ action_fault_lem counts p.vars p.actions v x y
      → Leads file counts rest (unless_fault f p (after_action p v (p.at + 4)))
  unfolding taken may_follow_lem
  action_leads v x y may h f ef =
      leads_unless (action v x y) h may (λ b. counts) (after_action p v (p.at + 4)) f (ef ∙ action_fault_is h.knows v x y) refl refl (omega arith)
      (λ z. (action_known h.knows _ v x y, h.wide))

  pub condition_leads :
      (v q : ℕ) → 2 ≤ p.last → p.last ≤ 3 → Drafted file counts p (condition v q ∷ rest)
      → (f : ℕ) → f ≡ condition_fault_lem counts p.vars p.own p.above v q
      → Leads file counts rest (unless_fault f p (after_condition p v (p.at + 3)))
  unfolding taken
  condition_leads v q low high h f ef =
      leads_unless (condition v q) h (may_condition _ low high) (λ b. counts) (after_condition p v (p.at + 3)) f (ef ∙ condition_fault_is h.knows v q) refl refl (omega arith)
      (λ z. (condition_known h.knows _ v q (some_action h low high), h.wide))

  pub times_leads :
      (n : ℕ) → 2 ≤ p.last → p.last ≤ 3 → Drafted file counts p (times n ∷ rest)
      → Leads file counts rest (unless_fault (times_fault_lem n) p (after_times p (p.at + 2)))
  unfolding taken may_follow_lem
  times_leads n low high h =
      leads_unless (times n) h (may_condition (ltb p.tasks p.vars) low high) (λ b. counts) (after_times p (p.at + 2)) (times_fault_lem n)
      (times_fault_is h.knows n) refl refl (omega arith) (λ z. (times_known h.knows _ n (some_action h low high), h.wide))

  pub task_leads :
      (v x y : ℕ) → may_follow_lem (ltb p.tasks p.vars) p.last 4 ≡ true → Drafted file counts p (task v x y ∷ rest)
      → (f : ℕ) → f ≡ task_fault_lem counts p.vars p.tasks v x y
      → Leads file counts rest (unless_fault f p (after_task p (p.at + 4)))
  unfolding taken
  task_leads v x y may h f ef =
      leads_unless (task v x y) h may (λ b. counts) (after_task p (p.at + 4)) f (ef ∙ task_fault_is h.knows v x y) refl refl (omega arith)
      (λ z. (task_known h.knows _ v x y, h.wide))

  pub seed_leads :
      (n : ℕ) → may_follow_lem (ltb p.tasks p.vars) p.last 5 ≡ true → Drafted file counts p (seed n ∷ rest)
      → Leads file counts rest (unless_fault (seed_fault_lem n) p (after_seed p (p.at + 5)))
  unfolding taken
  seed_leads n may h =
      leads_unless (seed n) h may (λ b. counts) (after_seed p (p.at + 5)) (seed_fault_lem n) (seed_fault_is h.knows n) refl refl (omega arith)
      (λ z. (seed_known h.knows _ n, h.wide))

  pub crew_leads :
      p.last ≡ 5 → Drafted file counts p (crew ∷ rest)
      → Leads file counts rest (unless_fault (crew_fault_lem p.crews) p (after_crew p (p.at + 1)))
  unfolding taken may_follow_lem
  crew_leads last h =
      leads_unless crew h (eq-eqb p.last 5 last) (λ b. counts) (after_crew p (p.at + 1)) (crew_fault_lem p.crews) (crew_fault_is h.knows) refl refl (omega arith)
      (λ z. (crew_known h.knows _, h.wide))

-- without a variable the records behind the variables may not come
pub no_variable :
    {file counts : List ℕ} {p : Progress} (rest : List Record) → BehindVariables rest → NoVariableYet p.last → Drafted file counts p rest
    → {counts' : List ℕ} → Leads file counts' rest (Refused 3 p.at)
no_variable [] behind none h = absurd behind
no_variable {p = p} (r ∷ rest) behind none h = not_in_turn r h (too_early none r behind.0 behind.1 (ltb p.tasks p.vars))
