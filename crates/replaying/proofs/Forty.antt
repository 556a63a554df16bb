-- A lent record of forty bytes has forty bytes afterwards, whatever is answered.
-- Assumes nothing.
use mathlib.Core.Path.{◌≡◌, refl}
use mathlib.Core.List.{List}
use Prim.Native.Nat.{ℕ}
use lib.ListN.{length}
use Rattle.answer.specs.declared.Answer.{Answer}
use Rattle.study.specs.Study.{Study}
use Rattle.study.specs.Reading.{Said, says, refused, reading_for}
use Rattle.lawful.proofs.Loads.{heard_lawful}
use Rattle.replays.specs.Replay.{Replayed, comes_to, stops, replayed, replay_leaves, ReplayAllows}
use Rattle.replays.proofs.Record.{record_length}

pub still_forty :
    (file : List ℕ) (crew : ℕ) (log before : List ℕ) (r : Answer) (after : List ℕ) → length before ≡ 40
    → ReplayAllows file crew log before r after → length after ≡ 40
unfolding replayed
still_forty file crew log before r after forty p = rw p.1 (from (reading_for file crew) refl)
  where
    of_study : (t : Study) → reading_for file crew ≡ says t → (out : Replayed) → replayed (says t) log ≡ out → length (replay_leaves out before) ≡ 40
    of_study t e (comes_to end) comes = rw comes at (record_length t (heard_lawful file crew t e) log end before comes)
    of_study t e (stops a) comes = forty

    from : (said : Said Study) → reading_for file crew ≡ said → length (replay_leaves (replayed said log) before) ≡ 40
    from (says t) e = of_study t e (replayed (says t) log) refl
    from (refused number place) e = forty
