-- What is answered of the last stage: 28 with the lowest two, or 0 with how many actions and pairs there are.
-- Assumes nothing.
use Rattle.std.specs.Prelude.{ℕ, Option, Some, None}
use Rattle.answer.specs.Answers.{three, done}
use Rattle.answer.specs.declared.Answer.{Answer}

abbrev pub lack_told : ℕ → ℕ → Option (ℕ × ℕ) → Answer
lack_told actions pairs None = done actions pairs
lack_told actions pairs (Some (i, j)) = three 28 i j
