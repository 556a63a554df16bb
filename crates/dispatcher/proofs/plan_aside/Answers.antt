-- `dispatcher::plan_aside` meets its contract: what is loaded is what the file says to the crew, and its tables are given to planning.
-- Assumes nothing.
use mathlib.Core.Path.{◌≡◌, refl, sym, ◌∙◌}
use Prim.Native.Nat.{ℕ}
use native.Mathlib.Omega.{arith}
use Rattle.study.specs.Study.{Study}
use Rattle.study.specs.Reading.{says, refused}
use Rattle.tables.specs.Rows.{column}
use Rattle.handing.proofs.NotRanked.{not_ranked_lem}
use Rattle.stages.proofs.Stages.{known_given}
use Rattle.planner.proofs.Loading.{loaded_known}
use borrow.Author.Rules.{rules}
use Rattle.dispatcher.proofs.plan_aside.Goals as goal

-- what is refused says no study
refused-says-none : {number place : ℕ} {t : Study} → refused number place ≡ says t → ⊥
refused-says-none e = let z : ◌≡◌ {A = ℕ} 0 1 = cc in omega arith

pub load_for-requires : goal.load_for-requires
unfolding column
load_for-requires c = search rules

pub returns-in-Err : goal.returns-in-Err
returns-in-Err c =
    let said = rw c.in-Err.is at c.load_for.ensures in
    record {
      room_len = rw said (λ t other. absurd (refused-says-none other));
      plan_allows = rw said ((c.from.ensures, refl));
    }

pub returns-in-Err-test : goal.returns-in-Err-test
returns-in-Err-test c =
    let (t, said, holds) = rw c.in-Ok.is at c.load_for.ensures in
    record {
      room_len = λ s same. holds.sized.setters;
      plan_allows = rw (said, c.unranked.ensures)
          (not_ranked_lem _ (rw (← holds.actions.count) (sym c.test.ensures ∙ c.in-Err-test.is)));
    }

pub plan_in_room-requires : goal.plan_in_room-requires
plan_in_room-requires c =
    let (t, said, holds) = rw c.in-Ok.is at c.load_for.ensures in
    (holds.sized.setters, (t, known_given _ (loaded_known _ said holds) (sym c.test.ensures ∙ c.in_default.is)))

pub returns : goal.returns
returns c =
    let (t, said, holds) = rw c.in-Ok.is at c.load_for.ensures in
    record {
      room_len = λ s same. c.plan_in_room.ensures.setters_len;
      plan_allows = rw said (c.plan_in_room.ensures.in_room t (known_given _ (loaded_known _ said holds) (sym c.test.ensures ∙ c.in_default.is)));
    }
