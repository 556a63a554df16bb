-- An access log: events one after another, each of kind 16 with a body of three bytes, its tick, most significant first, and an action; and how the log ends.
-- Assumes nothing.
use Rattle.std.specs.Prelude.{ℕ, ◌+◌, ◌*◌, List, [], ◌∷◌, eqb}
use Rattle.plain.specs.Choose.{pick}

-- an event with its tick and its action, and then the rest; or the end: nothing stands there, an event that is cut short, or another kind
pub data Log : Type 0 where
  event : ℕ → ℕ → Log → Log
  ended : Log
  cut : Log
  other : Log

abbrev pub event_kind : ℕ
event_kind = 16

-- the most events that a log may have
abbrev pub most_events : ℕ
most_events = 16384

-- an event's bytes
abbrev pub event_length : ℕ
event_length = 4

-- what bytes hold that are too few for an event
abbrev pub short : ℕ → Log
short kind = pick (eqb kind event_kind) cut other

unfoldable pub log_of : List ℕ → Log
log_of [] = ended
log_of (kind ∷ []) = short kind
log_of (kind ∷ high ∷ []) = short kind
log_of (kind ∷ high ∷ low ∷ []) = short kind
log_of (kind ∷ high ∷ low ∷ action ∷ rest) = pick (eqb kind event_kind) (event (256 * high + low) action (log_of rest)) other

-- the actions of a log's events, in order
unfoldable pub actions_of : Log → List ℕ
actions_of (event tick action rest) = action ∷ actions_of rest
actions_of ended = []
actions_of cut = []
actions_of other = []
