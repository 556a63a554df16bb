-- The whole text of an explanation: the answer to planning a file for a crew with its own seed, and the facts that explain it.
-- Assumes nothing.
use Rattle.std.specs.Prelude.{ℕ, suc, List, [], ◌∷◌, ◌++◌, length, take, replicate}
use Rattle.answer.specs.declared.Answer.{Answer}
use Rattle.study.specs.Study.{Study}
use Rattle.study.specs.Reading.{Said, says, refused}
use Rattle.answer.specs.Answers.{done}
use Rattle.planning.specs.Refusals.{without_walk, off_walk, with_ring}
use Rattle.planning.specs.Seeded.{PlansSeeded}
use Rattle.telling.specs.Text.{shown_of, line_of, first_line, refused_line}
use Rattle.explained.specs.Facts.{Fact, fact_lines}
use Rattle.explained.specs.Refusals.{TracedFromGoal, WalkedPast}
use Rattle.explained.specs.Rings.{Circled}
use Rattle.explained.specs.Reasons.{reasons_of}

-- a step's line, and its reasons
abbrev pub step_text : Study → List ℕ → ℕ → ℕ → List ℕ
step_text t plan k a = line_of (shown_of t.actions) k a ++ fact_lines (reasons_of t plan a)

unfoldable pub step_texts : Study → List ℕ → ℕ → List ℕ → List ℕ
step_texts t plan k [] = []
step_texts t plan k (a ∷ rest) = step_text t plan k a ++ step_texts t plan (suc k) rest

abbrev pub plan_explained : Study → List ℕ → List ℕ
plan_explained t plan = first_line (length plan) ++ step_texts t plan 0 plan

-- the facts told of a refusal of a study
pub data Why (t : Study) : Answer → List Fact → Type 0 where
  broken : {v b : ℕ} {facts : List Fact} → TracedFromGoal t v facts → Why t (without_walk v b) facts
  off : {i u : ℕ} {facts : List Fact} → WalkedPast t i u facts → Why t (off_walk i u) facts
  on_ring : {n : ℕ} {facts : List Fact} → Circled t facts → Why t (with_ring n) facts

-- the text of an answer, with the buffer that holds the plan
pub data Told : Said Study → List ℕ → Answer → List ℕ → Type 0 where
  a_plan : {t : Study} {buffer : List ℕ} {n : ℕ} → Told (says t) buffer (done n 0) (plan_explained t (take n buffer))
  not_planned :
      {t : Study} {buffer : List ℕ} {r : Answer} {facts : List Fact}
      → Why t r facts → Told (says t) buffer r (refused_line r.number r.first r.second ++ fact_lines facts)
  not_read_lem :
      {number place : ℕ} {buffer : List ℕ} {r : Answer} → Told (refused number place) buffer r (refused_line r.number r.first r.second)

-- planning with the seed, into 256 zeros, may give an answer that this text explains
pub record Explained (said : Said Study) (text : List ℕ) : Type 0 where
  pub answer : Answer
  pub buffer : List ℕ
  pub plans : PlansSeeded said (replicate 256 0) answer buffer
  pub told : Told said buffer answer text
