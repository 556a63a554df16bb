-- What is answered of rides once there is a plan: one result is allowed, and a refusal alters nothing.
-- Assumes nothing.
use mathlib.Core.Path.{◌≡◌, refl}
use mathlib.Core.Logic.{◌≢◌}
use mathlib.Core.Bool.{Bool, true, false}
use mathlib.Core.Option.{Option, none, some}
use mathlib.Core.List.{List, ◌++◌}
use Prim.Native.Nat.{ℕ}
use lib.Dec.{leb}
use lib.ListN.{length, drop}
use Rattle.plain.specs.Choose.{pick}
use Rattle.answer.specs.Answers.{done, refusal}
use Rattle.answer.specs.Allowing.{Allowing, Exactly, AllowsOnly}
use Rattle.answer.specs.declared.Answer.{Answer}
use Rattle.rides.specs.Rides.{rides_of, fault_of}
use Rattle.rides.specs.Journeys.{Journey, journeys_of, bytes_of}
use Rattle.rides.specs.Answers.{Laid, UnlessFault, RidesAllow}

-- one result, and as a refusal it alters nothing
pub record AllowsOne (before : List ℕ) (allows : Allowing) : Type 0 where
  pub answer : Answer
  pub bytes : List ℕ
  pub only_it : AllowsOnly allows answer bytes
  pub unaltered : answer.number ≢ 0 → bytes ≡ before

exactly_one : {before : List ℕ} (answer : Answer) (bytes : List ℕ) → (answer.number ≢ 0 → bytes ≡ before) → AllowsOne before (Exactly answer bytes)
exactly_one answer bytes same = record {
  answer = answer;
  bytes = bytes;
  only_it = record { allowed = (refl, refl); only = λ r after p. p };
  unaltered = same;
}

-- a refusal with the bytes as they were lent
pub refused-one : {before : List ℕ} (answer : Answer) → AllowsOne before (Exactly answer before)
refused-one {before} answer = exactly_one answer before (λ _. refl)

laid_one : {before : List ℕ} (journeys : List Journey) → AllowsOne before (Laid journeys before)
laid_one {before} journeys = from (leb (length (bytes_of journeys)) (length before))
  where
    from : (b : Bool)
        → AllowsOne before
        (pick b (Exactly (done (length journeys) 0) (bytes_of journeys ++ drop (length (bytes_of journeys)) before)) (Exactly (refusal 13 (length (bytes_of journeys))) before))
    from true = exactly_one (done (length journeys) 0) (bytes_of journeys ++ drop (length (bytes_of journeys)) before) (λ h. absurd (h refl))
    from false = refused-one (refusal 13 (length (bytes_of journeys)))

pub rides_one : (actions : ℕ) (rides : List ℕ) (start : ℕ) (plan before : List ℕ) → AllowsOne before (RidesAllow actions rides start plan before)
rides_one actions rides start plan before = from (fault_of actions rides start)
  where
    from : (o : Option Answer) → AllowsOne before (UnlessFault o (journeys_of (rides_of rides) start plan) before)
    from none = laid_one (journeys_of (rides_of rides) start plan)
    from (some r) = refused-one r
