-- What the program prints of a file for a crew: the answer to planning it with the crew's own seed, as text.
-- Assumes nothing.
use Rattle.std.specs.Prelude.{ℕ, ◌≡◌, List, [], eqb, take, replicate}
use Rattle.plain.specs.Choose.{pick}
use Rattle.answer.specs.declared.Answer.{Answer}
use Rattle.study.specs.Study.{Action, Study}
use Rattle.study.specs.Reading.{Said, says, refused}
use Rattle.planning.specs.Seeded.{PlansSeeded}
use Rattle.telling.specs.Text.{shown_of, plan_text, refused_line}

abbrev pub actions_of : Said Study → List Action
actions_of (says t) = t.actions
actions_of (refused number place) = []

-- an answer as text, with the buffer that holds the plan
abbrev pub text_of : List Action → Answer → List ℕ → List ℕ
text_of actions r buffer =
    pick (eqb r.number 0) (plan_text (shown_of actions) (take r.first buffer)) (refused_line r.number r.first r.second)

-- planning with the seed, into 256 zeros, may give an answer whose text this is
pub record Printed (said : Said Study) (text : List ℕ) : Type 0 where
  pub answer : Answer
  pub buffer : List ℕ
  pub plans : PlansSeeded said (replicate 256 0) answer buffer
  pub told : text ≡ text_of (actions_of said) answer buffer
