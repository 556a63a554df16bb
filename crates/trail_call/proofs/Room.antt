-- A log is replayed only on a file that was read whole: where the input fills all the room, the file is refused.
-- Assumes nothing.
use mathlib.Core.Path.{◌≡◌, ap, ◌∙◌}
use mathlib.Core.Logic.{◌≢◌}
use mathlib.Core.List.{List}
use Prim.Native.Nat.{ℕ, ◌-◌, ◌≤◌, ◌<◌}
use native.Mathlib.Omega.{arith}
use lib.ListN.{length, drop, length-drop}
use lib.Seq.{length-take-le}
use Rattle.answer.specs.declared.Answer.{Answer}
use Rattle.study.proofs.Refusals.{numbered_some, refusals_numbered}
use Rattle.lawful.specs.Lengths.{longest_file}
use Rattle.lawful.proofs.Lengths.{longer_is_refused}
use Rattle.replays.specs.Replay.{replayed, ReplayAllows}
use Rattle.trail_call.specs.Input.{longest_log, input_length, announced, behind_head, crew_in, log_in, file_in}

too_long_is_refused :
    (file : List ℕ) (crew : ℕ) (log before after : List ℕ) → longest_file < length file → (r : Answer) → ReplayAllows file crew log before r after
    → r.number ≢ 0
unfolding replayed
too_long_is_refused file crew log before after long r w zero =
    let (number, (place, said)) = longer_is_refused file long in
    omega (arith, ap (λ (x : Answer). x.number) (rw said at w).0, numbered_some (rw said at (refusals_numbered file)))

file_length_lem : (input : List ℕ) (k : ℕ) → length input ≡ input_length → length (drop k (behind_head input_length input)) ≡ input_length - 12 - k
file_length_lem input k full =
    length-drop k (behind_head input_length input)
    ∙ ap (λ (n : ℕ). n - k) (length-take-le (input_length - 12) (drop 12 input) (omega (arith, length-drop 12 input, full)))

pub filled_is_refused :
    (input : List ℕ) → length input ≡ input_length → announced input ≤ longest_log → (before after : List ℕ) (r : Answer)
    → ReplayAllows (file_in input_length input) (crew_in input) (log_in input_length input) before r after → r.number ≢ 0
filled_is_refused input full few before after r =
    let long : longest_file < length (file_in input_length input) = omega (arith, file_length_lem input (announced input) full, few) in
    too_long_is_refused (file_in input_length input) (crew_in input) (log_in input_length input) before after long r
