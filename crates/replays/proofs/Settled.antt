-- Two results that replaying a log may give are equal, there is one, and a refusal leaves the record as it was lent.
-- Assumes nothing.
use mathlib.Core.Path.{◌≡◌, refl, sym, ◌∙◌}
use mathlib.Core.Logic.{◌≢◌}
use mathlib.Core.List.{List}
use Prim.Native.Nat.{ℕ}
use Rattle.answer.specs.Allowing.{Exactly, Settles, Answers, RefusalAltersNothing}
use Rattle.study.specs.Reading.{reading_for}
use Rattle.replays.specs.Replay.{Replayed, comes_to, stops, replayed, replay_answer, replay_leaves, ReplayAllows}

pub replay_settles : (file : List ℕ) (crew : ℕ) (log before : List ℕ) → Settles (ReplayAllows file crew log before)
replay_settles file crew log before r r' after after' p q = (p.0 ∙ sym q.0, p.1 ∙ sym q.1)

pub replay_answers : (file : List ℕ) (crew : ℕ) (log before : List ℕ) → Answers (ReplayAllows file crew log before)
replay_answers file crew log before =
    let out = replayed (reading_for file crew) log in
    record { answer = replay_answer out; bytes = replay_leaves out before; allowed = (refl, refl) }

pub refusal_as_lent : (file : List ℕ) (crew : ℕ) (log before : List ℕ) → RefusalAltersNothing (ReplayAllows file crew log before) before
refusal_as_lent file crew log before r after = from (replayed (reading_for file crew) log)
  where
    from : (out : Replayed) → Exactly (replay_answer out) (replay_leaves out before) r after → r.number ≢ 0 → after ≡ before
    from (comes_to p) (answer, bytes) o = absurd (o (rw answer))
    from (stops a) (answer, bytes) o = bytes
