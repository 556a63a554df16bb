-- What the program hands to the charter is what its input stands for.
-- Assumes nothing.
use mathlib.Core.Path.{◌≡◌}
use mathlib.Core.List.{List}
use Prim.Native.Nat.{ℕ, ◌-◌, ◌≤◌}
use Rattle.answer.specs.declared.Answer.{Answer}
use Rattle.charts.specs.Answers.{ChartAllows}
use Rattle.intake.specs.Numbers.{pair_at}
use Rattle.parts.proofs.Parts.{least, between, first_part, second_part, third_part}
use Rattle.vet_call.specs.Input.{crew_in, actions_in, pairs_in, file_in}

pub handed :
    (input : List ℕ) (n end many more pairs file : ℕ) → end - 6 ≡ n - 6 → 6 ≤ pairs → pairs ≤ file
    → pairs - 6 ≡ least many (end - 6) → file - pairs ≡ least more (end - pairs)
    → (crew : ℕ) (r : Answer) → many ≡ pair_at input 0 → more ≡ pair_at input 2 → crew ≡ crew_in input
    → ChartAllows (between file end input) crew (between 6 pairs input) (between pairs file input) r
    → ChartAllows (file_in n input) (crew_in input) (actions_in n input) (pairs_in n input) r
handed input n end many more pairs file came head apart pairs-at file-at crew r is-many is-more is-crew w =
    let actions = first_part 6 input n end many pairs came pairs-at in
    let second = second_part 6 input n end many pairs came pairs-at head more file file-at in
    let third = third_part 6 input n end many pairs came pairs-at head more file file-at apart in
    rw (← third, ← actions, ← second, is-many, is-more, is-crew) at w
