-- What is known of a loaded study, as the walks, the list and the direct orders ask for it.
-- Assumes nothing.
use mathlib.Core.List.{List}
use Prim.Native.Nat.{ℕ}
use Rattle.study.specs.Study.{Study}
use Rattle.tables.specs.Tables.{ActionTables}
use Rattle.tracing.specs.Facts.{TellsForce, Wishes}
use Rattle.tracing.specs.Steps.{Rowed}
use Rattle.ordering.specs.Ordering.{Orderable}
use Rattle.stages.specs.Whole.{Known}
use Rattle.stages.proofs.Stages.{held_wishes}

module _ {file : List ℕ} {n a x : ℕ} {acts : ActionTables} {starts goals : List ℕ} {t : Study} (known : Known file n a x acts starts goals t) where
  pub known_force : TellsForce a acts.outs t
  known_force i h = (known.actions.action i h).force

  pub known_wishes : Wishes file a acts.vars acts.pres acts.places acts.manys t
  known_wishes = held_wishes known.lawful known.actions

  pub known_orderable :
      {steps : List ℕ} → Rowed t n steps → Orderable file a acts.vars acts.pres acts.places acts.manys starts acts.setters steps t
  known_orderable rowed = record {
    wishes = known_wishes;
    names = known.setters;
    starts = rw (← known.variables) known.tasks.start;
    rowed = rw (← known.variables) rowed;
  }
