-- Document 01's marked cases hold: one test that antt computes over the whole table, and the law for each row.
-- Assumes nothing.
use Prim.Native.Nat.{ℕ, zero, suc, ◌<◌}
use native.Mathlib.Omega.{arith}
use mathlib.Core.Bool.{Bool, true, false, ◌&&◌}
use mathlib.Core.List.{List, [], ◌∷◌}
use lib.Dec.{T}
use lib.ListN.{length, get_or}
use Rattle.bits.specs.Bits
use Rattle.records.specs.Records
use Rattle.study.specs.Study
use Rattle.study.specs.Uses
use Rattle.study.specs.Reading
use Rattle.ranking.specs.Ranking
use Rattle.walks.specs.Traces
use Rattle.runs.specs.Run
use Rattle.worked.specs.Table
use Rattle.worked.specs.Table.{Row, straight_plans_lem, Holds, table, row_at}
use Rattle.reference.proofs.Tests
use Rattle.reference.proofs.Searching
use Rattle.reference.proofs.Meeting
use Rattle.reference.proofs.Barring
use Rattle.reference.proofs.Choosing
use Rattle.worked.proofs.Listing
use Rattle.reference.proofs.Reference
use Rattle.worked.proofs.Straights
use Rattle.worked.proofs.Rows
use Rattle.worked.proofs.Rows.{test, test_holds}

abbrev pub every_row : List Row → Bool
every_row [] = true
every_row (row ∷ rest) = test row && every_row rest

both_left : (a b : Bool) → T (a && b) → T a
both_left true b t = tt
both_left false b t = t

both_right : (a b : Bool) → T (a && b) → T b
both_right true b t = t
both_right false b t = absurd t

each_row : (rows : List Row) (other : Row) → T (every_row rows) → (k : ℕ) → k < length rows → T (test (get_or rows k other))
each_row [] other t k h = absurd (omega arith)
each_row (row ∷ rest) other t zero h = both_left (test row) (every_row rest) t
each_row (row ∷ rest) other t (suc k) h = each_row rest other (both_right (test row) (every_row rest) t) k (omega arith)

-- the one test that antt computes
every_row_right : T (every_row table)
unfolding
    table Table.porter Table.pair Table.pair_and_free Table.round Table.lent test Rows.outcome
    Reading.reading Reading.read_on Reading.verdict_at Reading.judged Reading.unless Reading.taken Reading.with Reading.manned Reading.placed
    Reading.fault Reading.fault_in Reading.above Reading.sets Reading.repeat_from Reading.may_follow_lem Reading.decoded Study.in_force Uses.uses Uses.named Uses.unused_from Bits.bit
    Records.record_at_lem Records.record_of Records.body_length_lem Records.body_lengths
    Ranking.tested Ranking.tested_from Ranking.among
    Run.ran Run.run_on Run.failing Run.barred Run.held Run.away
    Reference.planned Reference.left_out_lem Reference.chosen Straights.straight_plans
    Barring.barred Barring.off_action Barring.off_variable Barring.lowest_without Barring.wants_off
    Meeting.on_walk Meeting.value_on Meeting.comes_before Meeting.wants Meeting.walk_actions
    Traces.walk_of Traces.break_of Traces.trace Traces.traced_back Traces.setter_from
    Searching.lowest Searching.least Searching.better Searching.passing
    Choosing.ready Choosing.greedily Listing.orders Listing.starting_with
    Tests.among Tests.every Tests.any
every_row_right = tt

pub worked : (k : ℕ) → k < length table → Holds (row_at k)
worked k h = test_holds (row_at k) (each_row table (straight_plans_lem [] []) every_row_right k h)
