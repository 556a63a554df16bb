-- A known study with all its walks and every condition on them: what is asked for where its walk actions are taken, and where its ring is told.
-- Assumes nothing.
use mathlib.Core.List.{List, []}
use Prim.Native.Nat.{ℕ}
use native.Mathlib.Omega.{arith}
use Rattle.bits.specs.Bits.{within}
use Rattle.study.specs.Study.{Study}
use Rattle.tables.specs.Tables.{HoldsActions}
use Rattle.tables.specs.Rows.{Row, start_column, seen}
use Rattle.walks.specs.Walks.{Walks, Met}
use Rattle.tracing.specs.Facts.{WishesIn}
use Rattle.tracing.specs.Steps.{WalksAll}
use Rattle.std.specs.Prelude.{Ok}
use Rattle.stages.specs.Whole.{KnownIn}
use Rattle.stages.proofs.Stages.{held_wishes}
use Rattle.explained.specs.Wanters.{Sets, Noted}
use Rattle.stranding.specs.Left.{UntakenIn}
use Rattle.ringing.specs.Stranded.{LeftAre, Stranded, Rowed}
use Rattle.explaining.proofs.Known.{known_start, known_posts}

module _
    {file : List ℕ} {n a x : ℕ} (acts vars : List Row) (setters : List ℕ) {t : Study}
    (known : KnownIn file n a x acts vars setters t)
  where
    pub known_wishes : WishesIn file a acts t
    known_wishes = held_wishes known.lawful known.actions

    -- the table of setters is no part of how the actions are held
    held_without_setters : HoldsActions file t.situation a (seen [] acts) t.actions
    held_without_setters = record {
      count = known.actions.count;
      few = known.actions.few;
      action =
          λ i h.
          let held = known.actions.action i h in
          record {
            var = held.var;
            pre = held.pre;
            post = held.post;
            low = held.low;
            narrow = held.narrow;
            force = held.force;
            conditions = held.conditions;
          };
    }

    pub known_rowed : Rowed file acts t
    known_rowed = record {
      tells_var = λ i h. (known.actions.action i (omega (arith, known.actions.count))).var;
      tells_pre = λ i h. (known.actions.action i (omega (arith, known.actions.count))).pre;
      tells_post = known_posts known;
      tells_conditions = λ i h. (known.actions.action i (omega (arith, known.actions.count))).conditions;
    }

    module _ (walks : Walks t) (met : Met t) where
      pub known_untaken : {total : ℕ} (steps : List ℕ) → WalksAll t n steps (Ok total) → UntakenIn file n a total acts vars steps t
      known_untaken steps (rowed, (list, (members, counted))) = record {
        orderly = record { lawful = known.lawful; walks = walks; met = met; list = list; members = members; counted = counted };
        variables = known.variables;
        actions = held_without_setters;
        tells_starts = known.tasks.start;
        rowed = rowed;
      }

      pub known_stranded :
          {sets : Sets} {left : List ℕ} → Noted t a (λ i. within left i) sets → LeftAre t left
          → Stranded file (start_column vars) setters sets left t
      known_stranded noted left_are = record {
        lawful = known.lawful;
        walks = walks;
        met = met;
        starts = known_start known;
        names = rw (← known.actions.count) known.setters;
        noted = rw (← known.actions.count) noted;
        left_are = left_are;
      }
