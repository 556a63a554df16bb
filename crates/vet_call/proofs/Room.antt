-- A chart is accepted only of a file that was read whole: where the input fills all the room, the file is refused.
-- Assumes nothing.
use mathlib.Core.Path.{◌≡◌, ap, ◌∙◌}
use mathlib.Core.Logic.{◌≢◌}
use mathlib.Core.List.{List}
use Prim.Native.Nat.{ℕ, ◌+◌, ◌-◌, ◌≤◌, ◌<◌}
use native.Mathlib.Omega.{arith}
use lib.ListN.{length, drop, length-drop}
use lib.Seq.{length-take-le}
use Rattle.answer.specs.declared.Answer.{Answer}
use Rattle.study.proofs.Refusals.{numbered_some, refusals_numbered}
use Rattle.lawful.specs.Lengths.{longest_file}
use Rattle.lawful.proofs.Lengths.{longer_is_refused}
use Rattle.charts.specs.Answers.{ChartAllows}
use Rattle.intake.specs.Numbers.{pair_at}
use Rattle.vet_call.specs.Input.{input_length, behind_head, crew_in, actions_in, pairs_in, file_in}

too_long_is_refused :
    (file : List ℕ) (crew : ℕ) (actions pairs : List ℕ) → longest_file < length file → (r : Answer) → ChartAllows file crew actions pairs r → r.number ≢ 0
too_long_is_refused file crew actions pairs long r w zero =
    let (number, (place, said)) = longer_is_refused file long in
    omega (arith, ap (λ (x : Answer). x.number) (rw said at w), numbered_some (rw said at (refusals_numbered file)))

file_length_lem : (input : List ℕ) (k : ℕ) → length input ≡ input_length → length (drop k (behind_head input_length input)) ≡ input_length - 6 - k
file_length_lem input k full =
    length-drop k (behind_head input_length input)
    ∙ ap (λ (n : ℕ). n - k) (length-take-le (input_length - 6) (drop 6 input) (omega (arith, length-drop 6 input, full)))

pub filled_is_refused :
    (input : List ℕ) → length input ≡ input_length → pair_at input 0 ≤ 65535 → pair_at input 2 ≤ 65535 → (r : Answer)
    → ChartAllows (file_in input_length input) (crew_in input) (actions_in input_length input) (pairs_in input_length input) r → r.number ≢ 0
filled_is_refused input full many more =
    let long : longest_file < length (file_in input_length input) =
    omega (arith, file_length_lem input (pair_at input 0 + pair_at input 2) full, many, more) in
    too_long_is_refused (file_in input_length input) (crew_in input) (actions_in input_length input) (pairs_in input_length input) long
