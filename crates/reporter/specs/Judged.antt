-- What is answered to so many seeds from a first one on, whatever the file says: 0, or the refusal 19 or 18.
-- Assumes nothing.
use Rattle.std.specs.Prelude.{ℕ, ◌&&◌, leb}
use Rattle.std.proofs.Math.Option.{Option, none, some}
use Rattle.plain.specs.Choose.{pick}
use Rattle.answer.specs.Answers.{done, refusal}
use Rattle.answer.specs.declared.Answer.{Answer}
use Rattle.varied.specs.Report.{first_outside}

abbrev pub outside_answer : Option ℕ → Answer
outside_answer none = done 0 0
outside_answer (some seed) = refusal 18 seed

unfoldable pub seeds_answer : ℕ → ℕ → Answer
seeds_answer first n = pick (leb 1 n && leb n 64) (outside_answer (first_outside first n)) (refusal 19 n)
