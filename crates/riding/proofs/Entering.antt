-- Rides entered in the tables one after another: what is told of those left is told of all, and what the tables give, else those left, is what all give.
-- Assumes nothing.
use mathlib.Core.Path.{◌≡◌, refl, sym, ◌∙◌}
use mathlib.Core.Logic.{◌≢◌}
use mathlib.Core.Bool.{Bool, true, false, not, ◌&&◌, ◌||◌}
use mathlib.Core.Option.{Option, none, some}
use mathlib.Core.List.{List, [], ◌∷◌, ◌++◌}
use Prim.Native.Nat.{ℕ, zero, suc, ◌+◌, ◌≤◌, ◌<◌}
use native.Mathlib.Omega.{arith}
use native.Mathlib.Decide.{ℕ_discrete}
use Rattle.std.proofs.Common.{lit<}
use lib.Dec.{eqb, leb}
use lib.ListN.{length, get_or, drop, set, length-set}
use lib.Seq.{drop-set-lt, get_or-set_same, get_or-set_other}
use borrow.Author.Tests.{eqb-true, eq-eqb, ne_eqb, leb-true, not-false}
use Rattle.plain.specs.Choose.{pick}
use Rattle.answer.specs.Answers.{number_of, refusal}
use Rattle.answer.specs.declared.Answer.{Answer}
use Rattle.answer.specs.declared.Rule.{Rule}
use Rattle.answer.specs.declared.Rule.TheVariants.{Cut, NoKind, OutOfOrder, TooMany, OutOfRange, Improper, Repeats, Trailing, NoRankList, NoWalk, OffWalk, Ring, NoRoom, NoAction, Barred, HeldBefore, AwayFromGoal, NoSeed, WrongCount, OutOfForce, Unused, NoCrew, WentBack, WrongList, WrongPair, Circle, LacksOrder}
use Rattle.ranking.specs.Ranking.{among}
use Rattle.rides.specs.Rides.{Ride, ride, rides_of, cut_short_lem, highest, is_floor, wrong_with_lem, unless_wrong, fault_from, ride_fault}
use Rattle.rides.specs.Journeys.{ride_of}
use Rattle.riding.specs.Tables.{no_floor, ride_in, Sized, Fresh, Holds}

-- a ride that the tables give, or else what is left gives
abbrev given : Option Ride → Option Ride → Option Ride
given none o = o
given (some r) o = some r

given_none : (o : Option Ride) → given o none ≡ o
given_none none = refl
given_none (some r) = refl

-- the rides of these bytes are left, the first of them ride k; the room's second half is as it was
pub record EnteredSoFar (rides : List ℕ) (actions : ℕ) (room froms tos bytes : List ℕ) (k : ℕ) : Type 0 where
  pub sized : Sized froms tos
  pub kept : drop 256 tos ≡ drop 256 room
  pub earlier : List ℕ
  pub told : (i : ℕ) → i < 256 → not (eqb (get_or froms i 0) no_floor) ≡ among earlier i
  pub left : fault_from actions (cut_short_lem bytes) earlier k (rides_of bytes) ≡ ride_fault actions rides
  pub rest : (i : ℕ) → i < 256 → given (ride_in froms tos i) (ride_of (rides_of bytes) i) ≡ ride_of (rides_of rides) i

pub none_entered : {rides : List ℕ} {actions : ℕ} {froms tos : List ℕ} → Fresh froms tos → EnteredSoFar rides actions tos froms tos rides 0
unfolding among ride_in
none_entered {rides} f = record {
  sized = f.sized;
  kept = refl;
  earlier = [];
  told = λ i h. rw (f.none_given i h);
  left = refl;
  rest = λ i h. rw (f.none_given i h);
}

-- ---- one more

-- no rule has the number 0
numbered : (rule : Rule) → number_of rule ≢ 0
numbered rule e = omega (arith, e, above rule)
  where
    above : (rule : Rule) → 0 < number_of rule
    above Cut = lit< tt
    above NoKind = lit< tt
    above OutOfOrder = lit< tt
    above TooMany = lit< tt
    above OutOfRange = lit< tt
    above Improper = lit< tt
    above Repeats = lit< tt
    above Trailing = lit< tt
    above NoRankList = lit< tt
    above NoWalk = lit< tt
    above OffWalk = lit< tt
    above Ring = lit< tt
    above NoRoom = lit< tt
    above NoAction = lit< tt
    above Barred = lit< tt
    above HeldBefore = lit< tt
    above AwayFromGoal = lit< tt
    above NoSeed = lit< tt
    above WrongCount = lit< tt
    above OutOfForce = lit< tt
    above Unused = lit< tt
    above NoCrew = lit< tt
    above WentBack = lit< tt
    above WrongList = lit< tt
    above WrongPair = lit< tt
    above Circle = lit< tt
    above LacksOrder = lit< tt

pub whole_ride :
    {bytes others : List ℕ} (chunk : List ℕ) → bytes ≡ chunk ++ others → length chunk ≡ 3
    → bytes ≡ get_or chunk 0 0 ∷ get_or chunk 1 0 ∷ get_or chunk 2 0 ∷ others
whole_ride (action ∷ from ∷ to ∷ []) e long = e
whole_ride [] e long = absurd (omega arith)
whole_ride (action ∷ []) e long = absurd (omega arith)
whole_ride (action ∷ from ∷ []) e long = absurd (omega arith)
whole_ride (action ∷ from ∷ to ∷ more ∷ list) e long = absurd (omega arith)

no_bytes : (list : List ℕ) → length list ≡ 0 → list ≡ []
no_bytes [] e = refl
no_bytes (a ∷ list) e = absurd (omega arith)

short : (list : List ℕ) → 0 < length list → length list < 3 → (rides_of list ≡ []) × (cut_short_lem list ≡ true)
unfolding rides_of cut_short_lem
short [] more few = absurd (omega arith)
short (a ∷ []) more few = (refl, refl)
short (a ∷ b ∷ []) more few = (refl, refl)
short (a ∷ b ∷ c ∷ list) more few = absurd (omega arith)

-- a ride without fault is from a floor, and its action's first
right : (actions : ℕ) (again : Bool) (r : Ride) → wrong_with_lem actions again r ≡ 0 → (again ≡ false) × (r.from ≤ highest)
unfolding wrong_with_lem
right actions again r = there (leb actions r.action)
  where
    last : (b : Bool) → ◌≡◌ {A = ℕ} (pick b 7 0) 0 → b ≡ false
    last true e = absurd (omega arith)
    last false e = refl

    other : (b : Bool) → ◌≡◌ {A = ℕ} (pick b 6 (pick again 7 0)) 0 → again ≡ false
    other true e = absurd (omega arith)
    other false e = last again e

    floors :
        (a b : Bool) → leb r.from highest ≡ a → ◌≡◌ {A = ℕ} (pick (a && b) (pick (eqb r.from r.to) 6 (pick again 7 0)) 5) 0
        → (again ≡ false) × (r.from ≤ highest)
    floors true true f e = (other (eqb r.from r.to) e, leb-true r.from highest f)
    floors true false f e = absurd (omega arith)
    floors false b f e = absurd (omega arith)

    there :
        (b : Bool)
        → ◌≡◌ {A = ℕ} (pick b 14 (pick (is_floor r.from && is_floor r.to) (pick (eqb r.from r.to) 6 (pick again 7 0)) 5)) 0
        → (again ≡ false) × (r.from ≤ highest)
    there true e = absurd (omega arith)
    there false e = floors (is_floor r.from) (is_floor r.to) refl e

module _ {rides : List ℕ} {actions : ℕ} {room froms tos bytes : List ℕ} {k : ℕ} (so_far : EnteredSoFar rides actions room froms tos bytes k) where
  pub ends_cut : 0 < length bytes → length bytes < 3 → ride_fault actions rides ≡ some (refusal 1 k)
  unfolding fault_from
  ends_cut more few = let (none-whole, cut) = short bytes more few in sym so_far.left ∙ rw (none-whole, cut)

  pub all_passed : length bytes ≡ 0 → ride_fault actions rides ≡ none
  unfolding fault_from rides_of cut_short_lem
  all_passed e = sym so_far.left ∙ rw (no_bytes bytes e)

  pub all_hold : length bytes ≡ 0 → Holds (rides_of rides) froms tos
  unfolding rides_of ride_of
  all_hold e i low = sym (given_none (ride_in froms tos i)) ∙ rw (no_bytes bytes e) at (so_far.rest i low)

  module _ {action from to : ℕ} {others : List ℕ} (whole : bytes ≡ action ∷ from ∷ to ∷ others) (low : action < 256) where
    abbrev r : Ride
    r = ride action from to

    abbrev again : Bool
    again = not (eqb (get_or froms action 0) no_floor)

    abbrev after : Option Answer
    after = fault_from actions (cut_short_lem others) (action ∷ so_far.earlier) (k + 1) (rides_of others)

    left_here : unless_wrong (wrong_with_lem actions again r) k after ≡ ride_fault actions rides
    unfolding fault_from rides_of cut_short_lem
    left_here = rw (so_far.told action low) (rw whole at so_far.left)

    pub ends_wrong : (rule : Rule) → number_of rule ≡ wrong_with_lem actions again r → ride_fault actions rides ≡ some (refusal (number_of rule) k)
    ends_wrong rule e = sym left_here ∙ rw (← e) (refuses (number_of rule) (numbered rule))
      where
        refuses : (n : ℕ) → n ≢ 0 → unless_wrong n k after ≡ some (refusal n k)
        refuses zero away = absurd (away refl)
        refuses (suc n) away = refl

    module _ (fine : wrong_with_lem actions again r ≡ 0) where
      new : get_or froms action 0 ≡ no_floor
      new = eqb-true (get_or froms action 0) no_floor (not-false (eqb (get_or froms action 0) no_floor) (right actions again r fine).0)

      floor : from ≢ no_floor
      floor e = omega (arith, (right actions again r fine).1)

      abbrev froms_then : List ℕ
      froms_then = set froms action from

      abbrev tos_then : List ℕ
      tos_then = set tos action (to)

      from_here : get_or froms_then action 0 ≡ from
      from_here = get_or-set_same froms action from 0 (omega (arith, so_far.sized.froms_long))

      to_here : get_or tos_then action 0 ≡ to
      to_here = get_or-set_same tos action (to) 0 (omega (arith, so_far.sized.tos_long))

      told_then : (i : ℕ) → i < 256 → Dec (i ≡ action) → not (eqb (get_or froms_then i 0) no_floor) ≡ (eqb action i || among so_far.earlier i)
      told_then i h (yes e) = rw (e, from_here, ne_eqb from no_floor floor, eq-eqb action action refl)
      told_then i h (no d) =
          rw (get_or-set_other froms action i from 0 d, ne_eqb action i (λ e. d (sym e))) (so_far.told i h)

      same_ride : (i : ℕ) → i ≢ action → ride_in froms_then tos_then i ≡ ride_in froms tos i
      unfolding ride_in
      same_ride i d =
          rw (get_or-set_other froms action i from 0 d, get_or-set_other tos action i (to) 0 d)

      new_ride : ride_in froms_then tos_then action ≡ some r
      unfolding ride_in
      new_ride = rw (from_here, to_here, ne_eqb from no_floor floor)

      old_none : ride_in froms tos action ≡ none
      unfolding ride_in
      old_none = rw new

      -- what was left gave this ride first
      rest_here :
          (i : ℕ) → i < 256
          → given (ride_in froms tos i) (pick (eqb action i) (some r) (ride_of (rides_of others) i)) ≡ ride_of (rides_of rides) i
      unfolding rides_of ride_of
      rest_here i h = rw whole at (so_far.rest i h)

      rest_then :
          (i : ℕ) → i < 256 → Dec (i ≡ action)
          → given (ride_in froms_then tos_then i) (ride_of (rides_of others) i) ≡ ride_of (rides_of rides) i
      rest_then i h (yes e) = rw (e, new_ride) (rw (e, old_none, eq-eqb action action refl) at (rest_here i h))
      rest_then i h (no d) = rw (same_ride i d) (rw (ne_eqb action i (λ e. d (sym e))) at (rest_here i h))

      pub one_entered : EnteredSoFar rides actions room froms_then tos_then others (k + 1)
      unfolding among
      one_entered = record {
        sized = record {
          froms_long = length-set froms action from ∙ so_far.sized.froms_long;
          tos_long = length-set tos action (to) ∙ so_far.sized.tos_long;
        };
        kept = drop-set-lt 256 tos action (to) low ∙ so_far.kept;
        earlier = action ∷ so_far.earlier;
        told = λ i h. told_then i h (ℕ_discrete i action);
        left = rw fine at left_here;
        rest = λ i h. rest_then i h (ℕ_discrete i action);
      }
