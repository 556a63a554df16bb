-- What the program hands over to be replayed is what its input stands for.
-- Assumes nothing.
use mathlib.Core.Path.{◌≡◌, ap, ◌∙◌}
use mathlib.Core.List.{List}
use Prim.Native.Nat.{ℕ, ◌-◌, ◌≤◌}
use native.Mathlib.Omega.{arith}
use lib.ListN.{take, drop}
use lib.Seq.{take-take}
use Rattle.answer.specs.declared.Answer.{Answer}
use Rattle.parts.proofs.Parts.{least, take_same, part, between, first_part, behind_first}
use Rattle.replays.specs.Replay.{ReplayAllows}
use Rattle.trail_call.specs.Input.{announced, behind_head, crew_in, log_in, file_in}

pub handed :
    (input : List ℕ) (n end many file len cut : ℕ) → end - 12 ≡ n - 12 → 12 ≤ file
    → file - 12 ≡ least many (end - 12) → cut - 12 ≡ least len (file - 12)
    → (crew : ℕ) (before after : List ℕ) (r : Answer) → many ≡ announced input → crew ≡ crew_in input
    → ReplayAllows (between file end input) crew (between 12 cut input) before r after
    → ReplayAllows (file_in n input) (crew_in input) (take len (log_in n input)) before r after
handed input n end many file len cut came head file-at cut_at crew before after r is-many is-crew w =
    let log : take len (take many (behind_head n input)) ≡ between 12 cut input =
    ap (take len) (first_part 12 input n end many file came file-at) ∙ part len (file - 12) (cut - 12) (drop 12 input) cut_at in
    rw (← behind_first 12 input n end many file came file-at head, ← log, is-many, is-crew) at w

-- as many bytes of the log as are announced are all of it
pub whole_log :
    (input : List ℕ) (n len : ℕ) (before after : List ℕ) (r : Answer) → len ≡ announced input
    → ReplayAllows (file_in n input) (crew_in input) (take len (log_in n input)) before r after
    → ReplayAllows (file_in n input) (crew_in input) (log_in n input) before r after
whole_log input n len before after r is-len w =
    let all : take len (log_in n input) ≡ log_in n input =
    take_same len (announced input) (log_in n input) is-len
    ∙ take-take (announced input) (announced input) (behind_head n input) (omega arith) in
    rw all at w
