-- The journeys that are printed lie in the buffer, 13 is never answered, and none are made of a file that was cut: where the input fills all the room, the file is refused.
-- Assumes nothing.
use mathlib.Core.Path.{◌≡◌, refl, ap, ◌∙◌}
use mathlib.Core.Logic.{◌≢◌}
use mathlib.Core.List.{List}
use Prim.Native.Nat.{ℕ, ◌+◌, ◌-◌, ◌*◌, ◌≤◌, ◌<◌}
use native.Mathlib.Omega.{arith}
use lib.ListN.{length, drop, length-drop}
use lib.Seq.{length-take-le}
use Rattle.answer.specs.declared.Answer.{Answer}
use Rattle.study.proofs.Refusals.{numbered_some, refusals_numbered}
use Rattle.lawful.specs.Lengths.{longest_file}
use Rattle.lawful.proofs.Lengths.{longer_is_refused}
use Rattle.journeys.specs.Allowed.{JourneysAllows}
use Rattle.journeys.proofs.Room.{answer_0_fits, never_13}
use Rattle.journeys.proofs.Settled.{plan_refused_alike}
use Rattle.answer.specs.Answers.{refusal}
use Rattle.intake.specs.Numbers.{pair_at}
use Rattle.dispatch_call.specs.Input.{input_length, most_bytes, behind_head, crew_in, start_in, ranks_in, rides_in, file_in}

pub journeys_fit :
    (file : List ℕ) (crew : ℕ) (ranks rides : List ℕ) (start : ℕ) (before : List ℕ) (r : Answer) (after : List ℕ) → length before ≡ most_bytes
    → JourneysAllows file crew ranks rides start before r after → r.number ≡ 0 → 3 * r.first ≤ most_bytes
journeys_fit file crew ranks rides start before r after room p z = omega (arith, answer_0_fits file crew ranks rides start before r after p z, room)

pub roomy :
    (file : List ℕ) (crew : ℕ) (ranks rides : List ℕ) (start : ℕ) (before : List ℕ) (r : Answer) (after : List ℕ) → length before ≡ most_bytes
    → JourneysAllows file crew ranks rides start before r after → r.number ≢ 13
roomy file crew ranks rides start before r after room = never_13 file crew ranks rides start before r after (omega (arith, room))

too_long_is_refused :
    (file : List ℕ) (crew : ℕ) (ranks rides : List ℕ) (start : ℕ) (before : List ℕ) → longest_file < length file → (r : Answer) (after : List ℕ)
    → JourneysAllows file crew ranks rides start before r after → r.number ≢ 0
too_long_is_refused file crew ranks rides start before long r after w zero =
    let (number, (place, said)) = longer_is_refused file long in
    let (e, f) = plan_refused_alike file crew ranks rides start before after r (refusal number place) (rw said refl) w in
    omega (arith, ap (λ (x : Answer). x.number) e, numbered_some (rw said at (refusals_numbered file)), zero)

file_length_lem : (input : List ℕ) (k : ℕ) → length input ≡ input_length → length (drop k (behind_head input_length input)) ≡ input_length - 8 - k
file_length_lem input k full =
    length-drop k (behind_head input_length input)
    ∙ ap (λ (n : ℕ). n - k) (length-take-le (input_length - 8) (drop 8 input) (omega (arith, length-drop 8 input, full)))

pub filled_is_refused :
    (input : List ℕ) → length input ≡ input_length → pair_at input 0 ≤ 65535 → pair_at input 2 ≤ 65535 → (before : List ℕ) (r : Answer) (after : List ℕ)
    → JourneysAllows (file_in input_length input) (crew_in input) (ranks_in input_length input) (rides_in input_length input) (start_in input) before r after
    → r.number ≢ 0
filled_is_refused input full many more before =
    let long : longest_file < length (file_in input_length input) =
    omega (arith, file_length_lem input (pair_at input 0 + pair_at input 2) full, many, more) in
    too_long_is_refused (file_in input_length input) (crew_in input) (ranks_in input_length input) (rides_in input_length input) (start_in input) before long
