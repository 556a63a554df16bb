-- What stands at a place of a log: an event, another kind (2), an event that is cut (1), or nothing, since the log has ended.
-- Assumes nothing.
use mathlib.Core.Path.{◌≡◌, refl, sym, ap, ◌∙◌}
use mathlib.Core.Logic.{◌≢◌}
use mathlib.Core.List.{List, [], ◌∷◌}
use Prim.Native.Nat.{ℕ, ◌+◌, ◌*◌, ◌≤◌, ◌<◌}
use native.Mathlib.Omega.{arith}
use lib.ListN.{length, get_or, drop, length-drop}
use lib.Seq.{get_or-drop, drop-drop}
use borrow.Author.Tests.{eq-eqb, ne_eqb}
use Rattle.replays.specs.Log.{event, ended, cut, other, event_kind, event_length, log_of}

-- ---- at the front of some bytes

front_event :
    (bytes : List ℕ) → event_length ≤ length bytes → get_or bytes 0 0 ≡ event_kind
    → log_of bytes ≡ event (256 * get_or bytes 1 0 + get_or bytes 2 0) (get_or bytes 3 0) (log_of (drop event_length bytes))
unfolding log_of
front_event [] h e = absurd (omega arith)
front_event (kind ∷ []) h e = absurd (omega arith)
front_event (kind ∷ high ∷ []) h e = absurd (omega arith)
front_event (kind ∷ high ∷ low ∷ []) h e = absurd (omega arith)
front_event (kind ∷ high ∷ low ∷ action ∷ rest) h e = rw (eq-eqb kind event_kind e)

front_cut : (bytes : List ℕ) → 0 < length bytes → length bytes < event_length → get_or bytes 0 0 ≡ event_kind → log_of bytes ≡ cut
unfolding log_of
front_cut [] some h e = absurd (omega arith)
front_cut (kind ∷ []) some h e = rw (eq-eqb kind event_kind e)
front_cut (kind ∷ high ∷ []) some h e = rw (eq-eqb kind event_kind e)
front_cut (kind ∷ high ∷ low ∷ []) some h e = rw (eq-eqb kind event_kind e)
front_cut (kind ∷ high ∷ low ∷ action ∷ rest) some h e = absurd (omega arith)

front_other : (bytes : List ℕ) → 0 < length bytes → get_or bytes 0 0 ≢ event_kind → log_of bytes ≡ other
unfolding log_of
front_other [] some o = absurd (omega arith)
front_other (kind ∷ []) some o = rw (ne_eqb kind event_kind o)
front_other (kind ∷ high ∷ []) some o = rw (ne_eqb kind event_kind o)
front_other (kind ∷ high ∷ low ∷ []) some o = rw (ne_eqb kind event_kind o)
front_other (kind ∷ high ∷ low ∷ action ∷ rest) some o = rw (ne_eqb kind event_kind o)

front_none : (bytes : List ℕ) → length bytes ≡ 0 → log_of bytes ≡ ended
unfolding log_of
front_none [] e = refl
front_none (kind ∷ rest) e = absurd (omega arith)

-- ---- at a place

module _ (log : List ℕ) (at : ℕ) where
  kind_at : get_or (drop at log) 0 0 ≡ get_or log at 0
  kind_at = let e : at ≡ at + 0 = omega arith in get_or-drop at log 0 0 ∙ ap (λ (k : ℕ). get_or log k 0) (sym e)

  pub event_at :
      at + event_length ≤ length log → get_or log at 0 ≡ event_kind
      → log_of (drop at log) ≡ event (256 * get_or log (at + 1) 0 + get_or log (at + 2) 0) (get_or log (at + 3) 0) (log_of (drop (at + event_length) log))
  event_at h e =
      rw (← get_or-drop at log 1 0, ← get_or-drop at log 2 0, ← get_or-drop at log 3 0, ← drop-drop event_length at log)
      (front_event (drop at log) (omega (arith, length-drop at log)) (rw kind_at e))

  pub cut_at : at < length log → length log < at + event_length → get_or log at 0 ≡ event_kind → log_of (drop at log) ≡ cut
  cut_at some h e = front_cut (drop at log) (omega (arith, length-drop at log)) (omega (arith, length-drop at log)) (rw kind_at e)

  pub other_at : at < length log → get_or log at 0 ≢ event_kind → log_of (drop at log) ≡ other
  other_at some o = front_other (drop at log) (omega (arith, length-drop at log)) (rw kind_at o)

  pub ended_at : length log ≤ at → log_of (drop at log) ≡ ended
  ended_at h = front_none (drop at log) (omega (arith, length-drop at log))
