-- Rides of document 02: a list gives some actions a ride, three bytes each, the action and the floors from and to; and what is at fault in a list, in the order 1, 14, 5, 6, 7.
-- Assumes nothing.
use Rattle.std.specs.Prelude.{ℕ, zero, suc, ◌+◌, Bool, true, false, ◌&&◌, List, [], ◌∷◌, eqb, leb, length}
use Rattle.std.proofs.Math.Option.{Option, none, some}
use Rattle.plain.specs.Choose.{pick}
use Rattle.answer.specs.Answers.{refusal}
use Rattle.answer.specs.declared.Answer.{Answer}
use Rattle.ranking.specs.Ranking.{among}

pub record Ride : Type 0 where
  pub action : ℕ
  pub from : ℕ
  pub to : ℕ

abbrev pub ride : ℕ → ℕ → ℕ → Ride
ride action from to = record { action = action; from = from; to = to }

-- the whole rides that lent bytes stand for
unfoldable pub rides_of : List ℕ → List Ride
rides_of [] = []
rides_of (action ∷ []) = []
rides_of (action ∷ from ∷ []) = []
rides_of (action ∷ from ∷ to ∷ rest) = ride action from to ∷ rides_of rest

-- bytes are left behind them, one or two: one more ride, cut short
unfoldable pub cut_short_lem : List ℕ → Bool
cut_short_lem [] = false
cut_short_lem (action ∷ []) = true
cut_short_lem (action ∷ from ∷ []) = true
cut_short_lem (action ∷ from ∷ to ∷ rest) = cut_short_lem rest

-- floors are 0 to 199
abbrev pub highest : ℕ
highest = 199

abbrev pub is_floor : ℕ → Bool
is_floor floor = leb floor highest

-- ---- faults

-- what is wrong with a whole ride, by the number of its refusal, or 0; `again` tells whether an earlier ride is of the same action
unfoldable pub wrong_with_lem : ℕ → Bool → Ride → ℕ
wrong_with_lem actions again r =
    pick (leb actions r.action) 14
    (pick (is_floor r.from && is_floor r.to)
    (pick (eqb r.from r.to) 6
    (pick again 7 0))
    5)

-- ride k is refused with its number, or what follows it tells
abbrev pub unless_wrong : ℕ → ℕ → Option Answer → Option Answer
unless_wrong zero k rest = rest
unless_wrong (suc n) k rest = some (refusal (suc n) k)

-- the first fault from ride k on, behind rides of these actions; a ride that is cut short is the last
unfoldable pub fault_from : ℕ → Bool → List ℕ → ℕ → List Ride → Option Answer
fault_from actions cut earlier k [] = pick cut (some (refusal 1 k)) none
fault_from actions cut earlier k (r ∷ rest) =
    unless_wrong (wrong_with_lem actions (among earlier r.action) r) k (fault_from actions cut (r.action ∷ earlier) (k + 1) rest)

abbrev pub ride_fault : ℕ → List ℕ → Option Answer
ride_fault actions rides = fault_from actions (cut_short_lem rides) [] 0 (rides_of rides)

-- .. and before the rides the start floor, with the number of whole rides
unfoldable pub fault_of : ℕ → List ℕ → ℕ → Option Answer
fault_of actions rides start = pick (is_floor start) (ride_fault actions rides) (some (refusal 5 (length (rides_of rides))))
