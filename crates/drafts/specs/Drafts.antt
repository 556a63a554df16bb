-- Halfway through the lists: what has been judged so far, with the records still to come, is what the file that they stand for says.
-- Assumes nothing.
use Rattle.std.specs.Prelude.{ℕ, ◌≤◌, ◌≡◌, ◌⊎◌, Bool, true, false, List, [], ◌∷◌, eqb, length, drop}
use Rattle.plain.specs.Choose.{pick}
use Rattle.study.specs.Reading.{Record, crew, Draft, may_follow_lem, reading, refused}
use Rattle.advancing.specs.declared.Progress.{Progress}
use Rattle.advancing.specs.declared.Step.{Step}
use Rattle.advancing.specs.declared.Step.TheVariants.{On, Refused, Done}
use Rattle.standing.specs.Reads.{Bounds, Knows, Reached}
use Rattle.spelling.specs.Spelling.{kind_of, spelled}
use Rattle.spelling.specs.Lists.{Team, behind, crew_records}
use Rattle.spelling.proofs.ReadBack.{Retold}

-- after a record of this kind no variable has come yet; a variable, an action, a task that is wanted may come
abbrev pub NoVariableYet : ℕ → Type 0
NoVariableYet last = (last ≡ 0) ⊎ (last ≡ 8)

abbrev pub VariablesGoOn : ℕ → Type 0
VariablesGoOn last = may_follow_lem false last 1 ≡ true

abbrev pub ActionsGoOn : ℕ → Type 0
ActionsGoOn last = may_follow_lem false last 2 ≡ true

abbrev pub TasksGoOn : ℕ → Type 0
TasksGoOn last = may_follow_lem true last 4 ≡ true

-- the first of the records is one that may not come before a variable
abbrev pub BehindVariables : List Record → Type 0
BehindVariables [] = ⊥
BehindVariables (r ∷ rest) = (2 ≤ kind_of r) × (kind_of r ≤ 6)

-- at a place of the file, with the records to come
pub record Drafted (file counts : List ℕ) (p : Progress) (to-come : List Record) : Type 0 where
  pub draft : Draft
  pub reached : Reached file p.at draft
  pub retold : Retold file p.at draft
  pub knows : Knows p counts draft
  pub wide : length counts ≡ 32
  pub rest : drop p.at file ≡ spelled to-come
  pub inside : p.at ≤ length file

-- a step leads on to the records to come, or it is the reader's refusal
pub record Leads (file counts : List ℕ) (to-come : List Record) (r : Step) : Type 0 where
  pub on : (p : Progress) → r ≡ On p → Drafted file counts p to-come
  pub refuses : (n place : ℕ) → r ≡ Refused n place → reading file ≡ refused n place
  pub is_not_done : (p : Progress) → r ≡ Done p → ⊥

-- where a step goes on, it stays in range, and this is so of it
pub record Keeps (counts : List ℕ) (P : Progress → Type 0) (r : Step) : Type 0 where
  pub on : (p : Progress) → r ≡ On p → Bounds p counts × P p

-- the first of some entries, and what stands for it where there is none
abbrev pub first_or : {A : Type 0} → A → List A → A
first_or other [] = other
first_or other (x ∷ rest) = x

-- a crew may come: the first where its tasks may, and any other behind a seed
abbrev pub CrewGoesOn : Bool → ℕ → Type 0
CrewGoesOn first last = pick first (TasksGoOn last) (last ≡ 5)

-- what opens a crew, unless it is the first
abbrev pub opening_record : Bool → List Record
opening_record first = pick first [] (crew ∷ [])

-- crews with the end, from an entry of the lent bytes on: the first has no opening
abbrev pub crews_to_come : ℕ → List Team → List Record
crews_to_come i teams = pick (eqb i 0) (crew_records teams) (behind teams)
