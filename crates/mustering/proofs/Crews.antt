-- What a crew hears of a file that was read: 22 where it is not there, else its study, which the tables hold once its tasks are entered.
-- Assumes nothing.
use mathlib.Core.Path.{◌≡◌, ap, ◌∙◌}
use mathlib.Core.List.{List}
use Prim.Native.Nat.{ℕ, ◌+◌, ◌*◌, ◌≤◌, ◌<◌}
use native.Mathlib.Omega.{arith}
use lib.ListN.{length, get_or}
use borrow.Author.Tests.{lt-ltb, le-ltb}
use Rattle.study.specs.Study.{Roster, crew_at, study_of}
use Rattle.study.specs.Reading.{says, refused, reading, heard_by, reading_for}
use Rattle.tables.specs.Tables.{Tables, tables, HoldsTasks, Holds, HoldsRoster, seed_at_lem}

pub crew_missing :
    (file : List ℕ) {r : Roster} (crew : ℕ) → reading file ≡ says r → length r.crews ≤ crew → reading_for file crew ≡ refused 22 crew
crew_missing file {r} crew said none = ap (heard_by crew) said ∙ rw (le-ltb crew (length r.crews) none)

pub crew_there :
    (file : List ℕ) {r : Roster} (crew : ℕ) → reading file ≡ says r → crew < length r.crews
    → reading_for file crew ≡ says (study_of r (crew_at r.crews crew))
crew_there file {r} crew said there = ap (heard_by crew) said ∙ rw (lt-ltb crew (length r.crews) there)

pub still_refused : (file : List ℕ) (crew : ℕ) {n place : ℕ} → reading file ≡ refused n place → reading_for file crew ≡ refused n place
still_refused file crew said = ap (heard_by crew) said

-- the tables with a crew's tasks in them hold its study
pub crew_held :
    {file : List ℕ} {nv na nc crew : ℕ} {t : Tables} {places starts goals : List ℕ} {r : Roster}
    → HoldsRoster file nv na nc t places r → crew < nc → length starts ≡ 32 → length goals ≡ 32
    → HoldsTasks nv starts goals (crew_at r.crews crew).tasks
    → Holds file nv na (seed_at_lem file (get_or places crew 0 + 4 * nv)) (tables t.counts t.acts starts goals) (study_of r (crew_at r.crews crew))
crew_held {crew = crew} held there long long' tasks = record {
  sized = omega (arith, held.sized);
  counts = held.counts;
  actions = held.actions;
  setters = held.setters;
  tasks = tasks;
  seed = (held.crews.crew crew there).seed;
}
