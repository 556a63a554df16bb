-- Of a log that is replayed each beginning is, and of one that is refused each beginning before the refused event: so no record is left out that could be printed.
-- Assumes nothing.
use mathlib.Core.Path.{◌≡◌, refl, ap}
use mathlib.Core.Logic.{inl, inr}
use mathlib.Core.Bool.{Bool, true, false}
use mathlib.Core.List.{List, [], ◌∷◌}
use Prim.Native.Nat.{ℕ, zero, suc, ◌+◌, ◌*◌, ◌≤◌}
use native.Mathlib.Omega.{arith}
use lib.Dec.{eqb}
use lib.ListN.{take}
use Rattle.plain.specs.Choose.{pick}
use Rattle.answer.specs.Answers.{refusal}
use Rattle.study.specs.Study.{Study, action_at}
use Rattle.study.specs.Reading.{says}
use Rattle.replays.specs.Log.{Log, event, ended, cut, other, event_kind, event_length, short, log_of}
use Rattle.replays.specs.Replay.{Progress, at_start, seen, step_at, comes_to, stops, replayed}
use Rattle.replays.proofs.Replays.{Replays, comes_exactly}
use Rattle.replays.proofs.Refusals.{StopsAt, replayed_stops}

-- the bytes of so many events
abbrev bytes_of : ℕ → ℕ
bytes_of zero = zero
bytes_of (suc k) = suc (suc (suc (suc (bytes_of k))))

four_each : (k : ℕ) → bytes_of k ≡ 4 * k
four_each zero = refl
four_each (suc k) = omega (arith, four_each k)

-- a log cut behind so many events
abbrev beginning : ℕ → Log → Log
beginning zero log = ended
beginning (suc k) (event tick i rest) = event tick i (beginning k rest)
beginning (suc k) ended = ended
beginning (suc k) cut = cut
beginning (suc k) other = other

torn : (k kind : ℕ) → short kind ≡ beginning (suc k) (short kind)
torn k kind = from (eqb kind event_kind)
  where
    from : (b : Bool) → pick b cut other ≡ beginning (suc k) (pick b cut other)
    from true = refl
    from false = refl

-- the bytes of so many events hold the log cut behind these
begun : (k : ℕ) (log : List ℕ) → log_of (take (bytes_of k) log) ≡ beginning k (log_of log)
unfolding log_of
begun zero log = refl
begun (suc k) [] = refl
begun (suc k) (kind ∷ []) = torn k kind
begun (suc k) (kind ∷ high ∷ []) = torn k kind
begun (suc k) (kind ∷ high ∷ low ∷ []) = torn k kind
begun (suc k) (kind ∷ high ∷ low ∷ action ∷ rest) = from (eqb kind event_kind) (begun k rest)
  where
    from :
        (b : Bool) → log_of (take (bytes_of k) rest) ≡ beginning k (log_of rest)
        → pick b (event (256 * high + low) action (log_of (take (bytes_of k) rest))) other
        ≡ beginning (suc k) (pick b (event (256 * high + low) action (log_of rest)) other)
    from true e = ap (event (256 * high + low) action) e
    from false e = refl

module _ (t : Study) where
  -- some progress is come to
  abbrev Comes : Progress → ℕ → Log → Type 0
  Comes p at log = (end : Progress) × Replays t p at log end

  of_replayed : (k : ℕ) (p : Progress) (at : ℕ) (log : Log) (end : Progress) → Replays t p at log end → Comes p at (beginning k log)
  of_replayed zero p at log end r = (p, refl)
  of_replayed (suc k) p at ended end r = (end, r)
  of_replayed (suc k) p at cut end r = absurd r
  of_replayed (suc k) p at other end r = absurd r
  of_replayed (suc k) p at (event tick i rest) end (few, usable, forth, r) =
      let (last, l) = of_replayed k (seen p (action_at t.actions i) tick (step_at at p.last tick)) (at + event_length) rest end r in
      (last, (few, usable, forth, l))

  of_refused :
      (k : ℕ) (p : Progress) (at : ℕ) (log : Log) (number place : ℕ) → StopsAt t p at log number place → at + 4 * k ≤ place
      → Comes p at (beginning k log)
  of_refused zero p at log number place s before = (p, refl)
  of_refused (suc k) p at ended number place s before = absurd s
  of_refused (suc k) p at cut number place (n, is) before = absurd (omega (arith, is, before))
  of_refused (suc k) p at other number place (n, is) before = absurd (omega (arith, is, before))
  of_refused (suc k) p at (event tick i rest) number place (inl (r, is)) before = absurd (omega (arith, is, before))
  of_refused (suc k) p at (event tick i rest) number place (inr (few, usable, forth, s)) before =
      let (last, l) =
      of_refused k (seen p (action_at t.actions i) tick (step_at at p.last tick)) (at + event_length) rest number place s
      (omega (arith, before)) in
      (last, (few, usable, forth, l))

  -- a log cut behind so many events comes to something
  abbrev pub Begins : List ℕ → ℕ → Type 0
  Begins log k = (end : Progress) × (replayed (says t) (take (4 * k) log) ≡ comes_to end)

  cut_comes : (log : List ℕ) (k : ℕ) → Comes (at_start t) 0 (beginning k (log_of log)) → Begins log k
  unfolding replayed
  cut_comes log k (end, r) =
      (end, rw (← four_each k) ((comes_exactly t (at_start t) 0 (log_of (take (bytes_of k) log)) end).1 (rw (begun k log) r)))

  pub each_beginning : (log : List ℕ) (end : Progress) → replayed (says t) log ≡ comes_to end → (k : ℕ) → Begins log k
  unfolding replayed
  each_beginning log end e k =
      cut_comes log k (of_replayed k (at_start t) 0 (log_of log) end ((comes_exactly t (at_start t) 0 (log_of log) end).0 e))

  pub each_before_the_refused :
      (log : List ℕ) (number place : ℕ) → replayed (says t) log ≡ stops (refusal number place) → (k : ℕ) → 4 * k ≤ place → Begins log k
  each_before_the_refused log number place e k before =
      cut_comes log k (of_refused k (at_start t) 0 (log_of log) number place ((replayed_stops t log number place).0 e) (omega (arith, before)))
