-- An event's action, as its row tells it, is done or held as the definition says.
-- Assumes nothing.
use Rattle.std.proofs.Common.{◌≡◌, ℕ, ◌<◌, List, length, set, ◌∙◌, arith, length-set}
use lib.Seq.{take-set-lt}
use Rattle.std.specs.Prelude.{true, false, Option, None, Some, is_none}
use Rattle.study.specs.Study.{Action, Study, action_at}
use Rattle.lawful.specs.Lawful.{LawfulAction}
use Rattle.tables.specs.Rows.{Row}
use Rattle.tables.specs.declared.Act.{Act}
use Rattle.replays.specs.Replay.{lacks}
use Rattle.barring.specs.declared.Want.{Want}
use Rattle.barring.specs.Stances.{stance_of}
use Rattle.barring.specs.Telling.{Tells, Ready, shown}
use Rattle.barring.proofs.Searches.{lacks_shown}
use Rattle.barring.proofs.Stances.{is_idle, is_waiting}
use Rattle.following.specs.Following.{Takes}

module _ {file : List ℕ} {actions : ℕ} {acts : List Row} {t : Study} (ready : Ready file actions acts t) (i : ℕ) (there : i < actions) (table : List ℕ) (long : length table ≡ 32) where
  abbrev a : Action
  a = action_at t.actions i

  lawful : LawfulAction t.counts a
  lawful = ready.lawful.action i (omega (arith, ready.count))

  lacks_is : lacks (shown t table) a ≡ lacks table a
  lacks_is = lacks_shown (length t.counts) table a lawful.has_pre.there (λ j h. (lawful.conditions.has j h).there)

  pub takes_none : (lack : Option Want) → is_none lack ≡ false → lack ≡ stance_of (lacks table a) → Takes t i table table lack
  takes_none None h e = cc
  takes_none (Some w) h e =
      let held = is_waiting (lacks (shown t table) a) w (rw lacks_is e) in
      record { stance = rw held; state = rw held; long = long }

  pub takes_it :
      {act : Act} → Tells file act a → {v : ℕ} → v ≡ act.var
      → (lack : Option Want) → is_none lack ≡ true → lack ≡ stance_of (lacks table a)
      → Takes t i table (set table v act.post) lack
  takes_it {act} tells {v} var (Some w) h e = cc
  takes_it {act} tells {v} var None h e =
      let done = is_idle (lacks (shown t table) a) (rw lacks_is e) in
      record {
        stance = rw done;
        state =
            rw (done, var ∙ tells.var, tells.post)
            (take-set-lt (length t.counts) table a.var a.post lawful.has_post.there);
        long = length-set table v act.post ∙ long;
      }
