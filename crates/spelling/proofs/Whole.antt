-- Lent bytes whose file loads were lent whole: nothing was cut short, the actions take as many conditions as were lent, and the crews as many tasks.
-- Assumes nothing.
use mathlib.Core.Path.{◌≡◌, refl, ap, subst}
use mathlib.Core.Logic.{◌≢◌}
use mathlib.Core.List.{List, [], ◌∷◌, map}
use Prim.Native.Nat.{ℕ, zero, suc, ◌+◌, ◌*◌, ◌%◌, ◌≤◌, ◌<◌}
use native.Mathlib.Omega.{arith}
use lib.ListN.{length, get_or, drop, length-drop}
use Rattle.study.specs.Study.{Condition, Action, Task, Roster, action_at, no_action, no_condition, no_crew}
use Rattle.study.specs.Reading.{says, reading}
use Rattle.lawful.specs.Lawful.{LawfulRoster}
use Rattle.lawful.proofs.Loads.{loads_lawful}
use Rattle.spelling.specs.Lists.{Errand, Team, Lists, errands_from, team_of, file_of}
use Rattle.spelling.specs.Lent.{unlent, number, unlent_condition, unlent_errand, conditions_in, first_of, left, actions_in, announced, errands_in, untaken, crews_in, tasks_announced, lent}
use Rattle.spelling.proofs.ReadBack.{read_back}

-- ---- what was lent has no number that stands for one that was not

abbrev pub Each : {A : Type 0} → (A → Type 0) → List A → Type 0
Each P [] = Unit {0}
Each P (x ∷ xs) = P x × Each P xs

each : {A : Type 0} (P : A → Type 0) (xs : List A) (d : A) → ((i : ℕ) → i < length xs → P (get_or xs i d)) → Each P xs
each P [] d f = tt
each P (x ∷ xs) d f = (f 0 (omega arith), each P xs d (λ i h. f (suc i) (omega arith)))

abbrev pub LentCondition : Condition → Type 0
LentCondition c = c.var ≢ unlent

abbrev pub LentAction : Action → Type 0
LentAction a = (a.var ≢ unlent) × Each LentCondition a.conditions

abbrev pub LentErrand : Errand → Type 0
LentErrand e = e.var ≢ unlent

abbrev pub LentTeam : Team → Type 0
LentTeam k = (k.seed ≢ number unlent unlent unlent unlent) × Each LentErrand k.tasks

lawful_actions_lent : (r : Roster) → LawfulRoster r → Each LentAction r.actions
lawful_actions_lent r lawful =
    each LentAction r.actions no_action
    λ i h.
    let a = lawful.action i h in (
      λ e. omega (arith, a.has_pre.there, lawful.few_variables),
      each LentCondition (action_at r.actions i).conditions no_condition (λ k g e. omega (arith, (a.conditions.has k g).there, lawful.few_variables)),
    )

errands_lent : (v : ℕ) (tasks : List Task) → v + length tasks ≤ 255 → Each LentErrand (errands_from v tasks)
unfolding errands_from
errands_lent v [] h = tt
errands_lent v (t ∷ rest) h = (λ e. omega arith, errands_lent (suc v) rest (omega arith))

each_mapped : {A B : Type 0} (P : B → Type 0) (f : A → B) (xs : List A) → Each (λ x. P (f x)) xs → Each P (map f xs)
each_mapped P f [] h = tt
each_mapped P f (x ∷ xs) h = (h.0, each_mapped P f xs h.1)

as_many : {A B : Type 0} (f : A → B) (xs : List A) → length (map f xs) ≡ length xs
as_many f [] = refl
as_many f (x ∷ xs) = ap suc (as_many f xs)

lawful_crews_lent : (r : Roster) → LawfulRoster r → Each LentTeam (map team_of r.crews)
lawful_crews_lent r lawful =
    each_mapped LentTeam team_of r.crews
    (each (λ k. LentTeam (team_of k)) r.crews no_crew
    λ c h.
    let k = lawful.crew c h in (
      λ e. omega (arith, k.seed_high),
      errands_lent 0 _ (omega (arith, k.a_task_each, lawful.few_variables)),
    ))

-- ---- so it was lent whole

two_each : (conditions : List ℕ) → Each LentCondition (conditions_in conditions) → length conditions ≡ 2 * length (conditions_in conditions)
unfolding conditions_in
two_each [] h = refl
two_each (v ∷ []) h = absurd (h.0 refl)
two_each (v ∷ q ∷ rest) h = omega (arith, two_each rest h.1)

three-each : (tasks : List ℕ) → Each LentErrand (errands_in tasks) → length tasks ≡ 3 * length (errands_in tasks)
unfolding errands_in
three-each [] h = refl
three-each (v ∷ []) h = absurd (h.0 refl)
three-each (v ∷ p ∷ []) h = absurd (h.0 refl)
three-each (v ∷ p ∷ q ∷ rest) h = omega (arith, three-each rest h.1)

-- the first of some entries, and those that are left
firsts_lent :
    {A : Type 0} (P : A → Type 0) (other : A) → (P other → ⊥) → (n : ℕ) (xs : List A)
    → Each P (first_of other n xs) → Each P (drop n xs) → (n ≤ length xs) × Each P xs
unfolding first_of
firsts_lent P other un zero xs first more = (omega arith, more)
firsts_lent P other un (suc n) [] first more = absurd (un first.0)
firsts_lent P other un (suc n) (x ∷ rest) first more =
    let (few, all) = firsts_lent P other un n rest first.1 more in
    (omega arith, (first.0, all))

record WholeActions (actions : List ℕ) (cs : List Condition) : Type 0 where
  whole : length actions ≡ 5 * length (actions_in actions cs)
  taken : announced actions ≡ length cs
  each_lent : Each LentCondition cs

five_each : (actions : List ℕ) (cs : List Condition) → Each LentAction (actions_in actions cs) → WholeActions actions cs
unfolding actions_in left announced
five_each [] [] h = record { whole = refl; taken = refl; each_lent = tt }
five_each [] (c ∷ cs) h = absurd (h.0.0 refl)
five_each (v ∷ []) cs h = absurd (h.0.0 refl)
five_each (v ∷ p ∷ []) cs h = absurd (h.0.0 refl)
five_each (v ∷ p ∷ q ∷ []) cs h = absurd (h.0.0 refl)
five_each (v ∷ p ∷ q ∷ s ∷ []) cs h = absurd (h.0.0 refl)
five_each (v ∷ p ∷ q ∷ s ∷ n ∷ rest) cs (a, more) =
    let w = five_each rest (drop n cs) more in
    let (few, all) = firsts_lent LentCondition unlent_condition (λ h. h refl) n cs a.1 w.each_lent in
    record { whole = omega (arith, w.whole); taken = omega (arith, w.taken, length-drop n cs); each_lent = all }

record WholeCrews (crews : List ℕ) (ts : List Errand) : Type 0 where
  whole : length crews ≡ 5 * length (crews_in crews ts)
  taken : tasks_announced crews ≡ length ts
  each_lent : Each LentErrand ts

five_for_each_crew : (crews : List ℕ) (ts : List Errand) → Each LentTeam (crews_in crews ts) → WholeCrews crews ts
unfolding crews_in untaken tasks_announced
five_for_each_crew [] [] h = record { whole = refl; taken = refl; each_lent = tt }
five_for_each_crew [] (t ∷ ts) h = absurd (h.0.0 refl)
five_for_each_crew (n ∷ []) ts h = absurd (h.0.0 refl)
five_for_each_crew (n ∷ a ∷ []) ts h = absurd (h.0.0 refl)
five_for_each_crew (n ∷ a ∷ b ∷ []) ts h = absurd (h.0.0 refl)
five_for_each_crew (n ∷ a ∷ b ∷ c ∷ []) ts h = absurd (h.0.0 refl)
five_for_each_crew (n ∷ a ∷ b ∷ c ∷ d ∷ rest) ts (k, more) =
    let w = five_for_each_crew rest (drop n ts) more in
    let (few, all) = firsts_lent LentErrand unlent_errand (λ h. h refl) n ts k.1 w.each_lent in
    record { whole = omega (arith, w.whole); taken = omega (arith, w.taken, length-drop n ts); each_lent = all }

-- ---- the theorem

pub record Whole (actions conditions crews tasks : List ℕ) : Type 0 where
  pub actions_whole : length actions % 5 ≡ 0
  pub conditions_whole : length conditions % 2 ≡ 0
  pub conditions_taken : length conditions ≡ 2 * announced actions
  pub some_crew : 1 ≤ length crews
  pub crews_whole : length crews % 5 ≡ 0
  pub tasks_whole : length tasks % 3 ≡ 0
  pub tasks_taken : length tasks ≡ 3 * tasks_announced crews
  pub actions_lent : Each LentAction (actions_in actions (conditions_in conditions))
  pub crews_lent : Each LentTeam (crews_in crews (errands_in tasks))
  pub tasks_lent : Each LentErrand (errands_in tasks)

pub lent_whole :
    (situation : ℕ) (variables actions conditions crews tasks : List ℕ) (r : Roster)
    → reading (file_of (lent situation variables actions conditions crews tasks)) ≡ says r → Whole actions conditions crews tasks
lent_whole situation variables actions conditions crews tasks r e =
    let lists = read_back (lent situation variables actions conditions crews tasks) r e in
    let lawful = loads_lawful _ r e in
    let these : Each LentAction (actions_in actions (conditions_in conditions)) =
    subst (λ (l : Lists). Each LentAction l.actions) lists (lawful_actions_lent r lawful) in
    let those : Each LentTeam (crews_in crews (errands_in tasks)) =
    subst (λ (l : Lists). Each LentTeam l.crews) lists (lawful_crews_lent r lawful) in
    let w = five_each actions (conditions_in conditions) these in
    let c = two_each conditions w.each_lent in
    let m = five_for_each_crew crews (errands_in tasks) those in
    let t = three-each tasks m.each_lent in
    let some : 1 ≤ length (crews_in crews (errands_in tasks)) =
    subst (λ (l : Lists). 1 ≤ length l.crews) lists (omega (arith, as_many team_of r.crews, lawful.some_crew)) in
    record {
      actions_whole = omega (arith, w.whole);
      conditions_whole = omega arith;
      conditions_taken = omega (arith, w.taken);
      some_crew = omega (arith, m.whole, some);
      crews_whole = omega (arith, m.whole);
      tasks_whole = omega arith;
      tasks_taken = omega (arith, m.taken);
      actions_lent = these;
      crews_lent = those;
      tasks_lent = m.each_lent;
    }
