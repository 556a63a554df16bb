-- What the program hands to the dispatcher is what its input stands for.
-- Assumes nothing.
use mathlib.Core.Path.{◌≡◌}
use mathlib.Core.List.{List}
use Prim.Native.Nat.{ℕ, ◌-◌, ◌≤◌}
use Rattle.answer.specs.declared.Answer.{Answer}
use Rattle.journeys.specs.Allowed.{JourneysAllows}
use Rattle.intake.specs.Numbers.{pair_at}
use Rattle.parts.proofs.Parts.{least, between, first_part, second_part, third_part}
use Rattle.dispatch_call.specs.Input.{crew_in, start_in, ranks_in, rides_in, file_in}

pub handed :
    (input : List ℕ) (n end many more rides file : ℕ) → end - 8 ≡ n - 8 → 8 ≤ rides → rides ≤ file
    → rides - 8 ≡ least many (end - 8) → file - rides ≡ least more (end - rides)
    → (crew start : ℕ) (before : List ℕ) (r : Answer) (after : List ℕ)
    → many ≡ pair_at input 0 → more ≡ pair_at input 2 → crew ≡ crew_in input → start ≡ start_in input
    → JourneysAllows (between file end input) crew (between 8 rides input) (between rides file input) start before r after
    → JourneysAllows (file_in n input) (crew_in input) (ranks_in n input) (rides_in n input) (start_in input) before r after
handed input n end many more rides file came head apart rides-at file-at crew start before r after is-many is-more is-crew is-start w =
    let ranks = first_part 8 input n end many rides came rides-at in
    let second = second_part 8 input n end many rides came rides-at head more file file-at in
    let third = third_part 8 input n end many rides came rides-at head more file file-at apart in
    rw (← third, ← ranks, ← second, is-many, is-more, is-crew, is-start) at w
