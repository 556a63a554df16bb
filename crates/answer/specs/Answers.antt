-- Document 01's three numbers: an answer number, a first and a second.
-- Assumes nothing.
use Rattle.std.specs.Prelude.{ℕ}
use Rattle.answer.specs.declared.Answer.{Answer}
use Rattle.answer.specs.declared.Refusal.{Refusal}
use Rattle.answer.specs.declared.Rule.{Rule}
use Rattle.answer.specs.declared.Rule.TheVariants.{Cut, NoKind, OutOfOrder, TooMany, OutOfRange, Improper, Repeats, Trailing, NoRankList, NoWalk, OffWalk, Ring, NoRoom, NoAction, Barred, HeldBefore, AwayFromGoal, NoSeed, WrongCount, OutOfForce, Unused, NoCrew, WentBack, WrongList, WrongPair, Circle, LacksOrder}

abbrev pub three : ℕ → ℕ → ℕ → Answer
three number first second = record { number = number; first = first; second = second }

-- done, with what the call's table row says
abbrev pub done : ℕ → ℕ → Answer
done first second = three 0 first second

-- a refusal whose second number is 0
abbrev pub refusal : ℕ → ℕ → Answer
refusal number first = three number first 0

-- the number of each rule
abbrev pub number_of : Rule → ℕ
number_of Cut = 1
number_of NoKind = 2
number_of OutOfOrder = 3
number_of TooMany = 4
number_of OutOfRange = 5
number_of Improper = 6
number_of Repeats = 7
number_of Trailing = 8
number_of NoRankList = 9
number_of NoWalk = 10
number_of OffWalk = 11
number_of Ring = 12
number_of NoRoom = 13
number_of NoAction = 14
number_of Barred = 15
number_of HeldBefore = 16
number_of AwayFromGoal = 17
number_of NoSeed = 18
number_of WrongCount = 19
number_of OutOfForce = 20
number_of Unused = 21
number_of NoCrew = 22
number_of WentBack = 23
number_of WrongList = 25
number_of WrongPair = 26
number_of Circle = 27
number_of LacksOrder = 28

-- what a call answers that refuses for this rule at this place
abbrev pub refused : Refusal → Answer
refused r = refusal (number_of r.rule) r.place
