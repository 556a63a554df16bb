-- The conditions of a step, one after another: the reasons by rule (b) of those passed stand behind the facts before.
-- Assumes nothing.
use mathlib.Core.Path.{◌≡◌, sym, ap, ◌∙◌}
use mathlib.Core.Logic.{◌≢◌}
use mathlib.Core.List.{List, [], ◌∷◌, ◌++◌, append-nil, append_assoc, map-append}
use Prim.Native.Nat.{ℕ, ◌+◌, ◌*◌, ◌≤◌, ◌<◌}
use native.Mathlib.Numerals.{add-one}
use native.Mathlib.Omega.{arith}
use lib.ListN.{length, get_or, take}
use lib.Seq.{take-suc, take-length}
use Rattle.study.specs.Study.{Condition, Study, condition_at, no_condition}
use Rattle.lawful.proofs.Conditions.{conditions_few}
use Rattle.walks.specs.Walks.{conditions_of, start_of, Wants}
use Rattle.facts.specs.declared.Fact.{Fact as FactRow}
use Rattle.facts.specs.declared.Fact.TheVariants.{After}
use Rattle.facts.specs.declared.Rule.TheVariants.{Sets}
use Rattle.tables.specs.declared.Act.{Act}
use Rattle.wanting.specs.Wanting.{StandAt}
use Rattle.wanting.proofs.Conditions.{Here, wants_at, stands_here, condition_there}
use Rattle.explained.specs.Facts.{Fact, sets, rows_of}
use Rattle.explained.specs.Reasons.{set_reason, set_reasons}
use Rattle.explained.specs.Wanters.{Sets as SetsBy}
use Rattle.reasons.specs.Known.{SetIn, Reasonable, Step}
use Rattle.reasons.proofs.Opened.{start_untold, setter_told, stand_there}

-- one condition more
set_reasons_more :
    (t : Study) (plan : List ℕ) (cs : List Condition) (c : Condition)
    → set_reasons t plan (cs ++ (c ∷ [])) ≡ set_reasons t plan cs ++ set_reason t plan sets c.var c.value
unfolding set_reasons
set_reasons_more t plan [] c = append-nil _
set_reasons_more t plan (x ∷ cs) c =
    ap (λ (r : List Fact). set_reason t plan sets x.var x.value ++ r) (set_reasons_more t plan cs c)
    ∙ sym (append_assoc (set_reason t plan sets x.var x.value) (set_reasons t plan cs) _)

set_reasons-next :
    (t : Study) (plan : List ℕ) (cs : List Condition) (k : ℕ) → k < length cs
    → set_reasons t plan (take (k + 1) cs)
    ≡ set_reasons t plan (take k cs) ++ set_reason t plan sets (condition_at cs k).var (condition_at cs k).value
set_reasons-next t plan cs k h =
    rw (add-one k, take-suc cs k no_condition h) (set_reasons_more t plan (take k cs) (condition_at cs k))

-- an action's conditions stand in the file, and what they want is set by actions of the plan
pub record Wanting (file : List ℕ) (place many : ℕ) (t : Study) (plan : List ℕ) (j : ℕ) : Type 0 where
  pub stand : StandAt file place many t j
  pub set_wanted : (v q : ℕ) → Wants (conditions_of t j) v q → q ≢ start_of t v → SetIn t plan v q

pub step_wanting :
    {firsts setters : List ℕ} {wanters : SetsBy} {places : List ℕ} {t : Study} {plan : List ℕ} {file : List ℕ} {act : Act} {j : ℕ}
    → Reasonable firsts setters wanters places t plan → Step file act t plan j → Wanting file act.place act.many t plan j
step_wanting known step = record { stand = stand_there known step; set_wanted = step.set_wanted }

-- for every study, plan and action that the tables hold
abbrev Always : (List ℕ) → (place many : ℕ) → (firsts setters places : List ℕ) → (Study → List ℕ → ℕ → Type 0) → Type 0
Always file place many firsts setters places P =
    (wanters : SetsBy) (t : Study) (plan : List ℕ) (j : ℕ) → Reasonable firsts setters wanters places t plan → Wanting file place many t plan j → P t plan j

-- where the pass stands
pub record Underway
    (file : List ℕ) (place many begin : ℕ) (firsts setters places : List ℕ) (facts facts' : List FactRow) (n at k : ℕ) : Type 0 where
  pub known : (t : Study) × (plan : List ℕ) × (j : ℕ) × (wanters : SetsBy) × Reasonable firsts setters wanters places t plan × Wanting file place many t plan j
  pub start : begin ≤ 1
  pub size : length facts' ≡ 288
  pub few : k ≤ many
  pub is_at : at ≡ place + 3 * k
  pub told : n ≤ begin + k
  pub so_far_lem :
      Always file place many firsts setters places (λ t plan j. take n facts' ≡ take begin facts ++ rows_of (set_reasons t plan (take k (conditions_of t j))))

pub begins :
    {file : List ℕ} {place many begin : ℕ} {firsts setters places : List ℕ} {facts : List FactRow}
    → begin ≤ 1 → length facts ≡ 288
    → (t : Study) × (plan : List ℕ) × (j : ℕ) × (wanters : SetsBy) × Reasonable firsts setters wanters places t plan × Wanting file place many t plan j
    → Underway file place many begin firsts setters places facts facts begin place 0
unfolding set_reasons
begins start size known = record {
  known = known;
  start = start;
  size = size;
  few = omega arith;
  is_at = omega arith;
  told = omega arith;
  so_far_lem = λ wanters t plan j r w. sym (append-nil _);
}

module _
    {file : List ℕ} {place many begin : ℕ} {firsts setters places : List ℕ} {facts facts' : List FactRow} {n at k : ℕ}
    (under : Underway file place many begin firsts setters places facts facts' n at k) where
  pub few_conditions : many ≤ 31
  few_conditions =
      let (t, plan, j, wanters, r, w) = under.known in
      omega (arith, w.stand.holds.count, conditions_few r.lawful j w.stand.there)

  module _ (h : k < many) where
    -- a condition that fits the tables stands here
    pub here : (c : Condition) × Here file at c
    here = let (t, plan, j, wanters, r, w) = under.known in (condition_at (conditions_of t j) k, stands_here w.stand at k under.is_at h)

    -- the facts that are told of it
    abbrev Tells : ℕ → ℕ → List FactRow → Type 0
    Tells x y rows = Always file place many firsts setters places (λ t plan j. rows_of (set_reason t plan sets x y) ≡ rows)

    passes :
        {x y n' : ℕ} {facts'' : List FactRow} (rows : List FactRow) → x ≡ get_or file (at + 1) 0 → y ≡ get_or file (at + 2) 0
        → length facts'' ≡ 288 → n' ≤ n + 1 → Tells x y rows → take n' facts'' ≡ take n facts' ++ rows
        → Underway file place many begin firsts setters places facts facts'' n' (at + 3) (k + 1)
    passes {x} {y} rows is_var is-value size more tells front = record {
      known = under.known;
      start = under.start;
      size = size;
      few = omega arith;
      is_at = omega (arith, under.is_at);
      told = omega (arith, under.told);
      so_far_lem = λ wanters t plan j r w.
          let s = stands_here w.stand at k under.is_at h in
          let cs = conditions_of t j in
          let told : rows_of (set_reason t plan sets (condition_at cs k).var (condition_at cs k).value) ≡ rows =
          rw (is_var, is-value, s.var, s.value) at (tells wanters t plan j r w) in
          rw (front, under.so_far_lem wanters t plan j r w, set_reasons-next t plan cs k (omega (arith, w.stand.holds.count)), map-append, told, append_assoc);
    }

    module _ {x y : ℕ} (is_var : x ≡ get_or file (at + 1) 0) (is-value : y ≡ get_or file (at + 2) 0) where
      pub low_here : x < 32
      low_here = let (c, w) = here in omega (arith, w.var, w.low)

      pub narrow_here : y < 16
      narrow_here = let (c, w) = here in omega (arith, w.value, w.narrow)

      there : {t : Study} {plan : List ℕ} {j : ℕ} → Wanting file place many t plan j → x < length t.tasks
      there w = let s = stands_here w.stand at k under.is_at h in omega (arith, s.var, condition_there w.stand k h)

      pub skips : y ≡ get_or firsts x 0 → Underway file place many begin firsts setters places facts facts' n (at + 3) (k + 1)
      skips e =
          passes [] is_var is-value under.size (omega arith)
          (λ wanters t plan j r w. ap rows_of (start_untold r sets (there w) e)) (sym (append-nil _))

      -- .. as it is read again, with the action that the table of setters names, and where its place is looked up
      pub goes_on :
          {z i m n' : ℕ} {facts'' : List FactRow} → y ≢ get_or firsts x 0 → z ≡ y → i ≡ get_or setters (16 * x + z) 0 → m ≡ i
          → length facts'' ≡ 288 → n' ≡ n + 1
          → take n' facts'' ≡ take n facts' ++ (After Sets (get_or places m 0) i (get_or file (at + 1) 0) y ∷ [])
          → Underway file place many begin firsts setters places facts facts'' n' (at + 3) (k + 1)
      goes_on {i = i} off is-z is is_m size more front =
          passes (After Sets (get_or places i 0) i x y ∷ []) is_var is-value size (omega arith)
          (λ wanters t plan j r w. ap rows_of (setter_told r sets (there w) off (set_here w) (rw is-z at is))) (rw (is_m, ← is_var) at front)
        where
          set_here : {t : Study} {plan : List ℕ} {j : ℕ} → Wanting file place many t plan j → y ≢ start_of t x → SetIn t plan x y
          set_here {t} {plan} {j} w =
              let s = stands_here w.stand at k under.is_at h in
              w.set_wanted x y (rw (is_var, is-value, s.var, s.value) (wants_at (conditions_of t j) k (omega (arith, w.stand.holds.count))))

pub ends :
    {file : List ℕ} {place many begin : ℕ} {firsts setters places : List ℕ} {facts facts' : List FactRow} {n at k : ℕ}
    → Underway file place many begin firsts setters places facts facts' n at k → many ≤ k
    → (wanters : SetsBy) (t : Study) (plan : List ℕ) (j : ℕ) → Reasonable firsts setters wanters places t plan → Wanting file place many t plan j
    → take n facts' ≡ take begin facts ++ rows_of (set_reasons t plan (conditions_of t j))
ends {k = k} under h wanters t plan j r w =
    let e : k ≡ length (conditions_of t j) = omega (arith, under.few, w.stand.holds.count) in
    rw (e, take-length) at (under.so_far_lem wanters t plan j r w)
