-- One step of a run, as the tables tell it, is one step of the definition.
-- Assumes nothing.
use mathlib.Core.Path.{◌≡◌, sym, ◌∙◌}
use mathlib.Core.Bool.{true, false, ◌||◌}
use mathlib.Core.List.{List, ◌∷◌}
use Prim.Native.Nat.{ℕ, ◌+◌, ◌≤◌, ◌<◌}
use native.Mathlib.Omega.{arith}
use lib.Dec.{eqb}
use lib.ListN.{length, get_or, set, length-set}
use lib.Seq.{take-set-lt, length-take-le}
use borrow.Author.Tests.{le-leb, lt-leb}
use Rattle.std.specs.Prelude.{None, Some, Ok, Err}
use Rattle.answer.specs.Answers.{three, refusal}
use Rattle.bits.specs.Bits.{bit}
use Rattle.study.specs.Study.{Action, Study, in_force, action_at}
use Rattle.lawful.specs.Lawful.{LawfulAction}
use Rattle.plans.specs.Plans.{State, Usable, after}
use Rattle.runs.specs.Run.{none, fails, stops, barred, held, run_on}
use Rattle.replays.specs.Replay.{lacks}
use Rattle.tables.specs.Rows.{Row, out_column}
use Rattle.tables.specs.declared.Act.{Act}
use Rattle.barring.specs.declared.Want.{Want}
use Rattle.barring.specs.Stances.{stance_of}
use Rattle.barring.specs.Telling.{Tells, Ready, shown}
use Rattle.barring.proofs.Searches.{lacks_shown}
use Rattle.barring.proofs.Stances.{free, bars}
use Rattle.stepping.specs.Stepping.{Stage, Takes}
use Rattle.stepping.proofs.Marks.{marked_more}

module _ (t : Study) (past : List State) (s : State) (k i : ℕ) (rest : List ℕ) where
  abbrev a : Action
  a = action_at t.actions i

  run_too_high : length t.actions ≤ i → run_on t past s k (i ∷ rest) ≡ stops (refusal 14 k)
  unfolding run_on
  run_too_high h = rw (le-leb (length t.actions) i h)

  run_out : i < length t.actions → in_force t.situation a ≡ false → run_on t past s k (i ∷ rest) ≡ stops (refusal 20 k)
  unfolding run_on
  run_out h out = rw (lt-leb (length t.actions) i h, out)

  module _ (u : Usable t i) where
    run_barred : (v : ℕ) → barred s a ≡ fails v → run_on t past s k (i ∷ rest) ≡ stops (three 15 k v)
    unfolding run_on
    run_barred v e = rw (lt-leb (length t.actions) i u.there, u.in_force_lem, e)

    run_held : barred s a ≡ none → held (s ∷ past) a.var a.post ≡ true → run_on t past s k (i ∷ rest) ≡ stops (three 16 k a.var)
    unfolding run_on
    run_held e b = rw (lt-leb (length t.actions) i u.there, u.in_force_lem, e, b)

    run_step :
        barred s a ≡ none → held (s ∷ past) a.var a.post ≡ false
        → run_on t past s k (i ∷ rest) ≡ run_on t (s ∷ past) (after s a) (k + 1) rest
    unfolding run_on
    run_step e b = rw (lt-leb (length t.actions) i u.there, u.in_force_lem, e, b)

-- an action that is there, as its row tells it
module _ {file : List ℕ} {actions : ℕ} {acts : List Row} {t : Study} (ready : Ready file actions acts t) (i : ℕ) (there : i < actions) where
  lawful : LawfulAction t.counts (action_at t.actions i)
  lawful = ready.lawful.action i (omega (arith, ready.count))

  module _ {act : Act} (tells : Tells file act (action_at t.actions i)) where
    post_small : act.post < 16
    post_small = omega (arith, tells.post, lawful.has_post.small, ready.lawful.few_values (action_at t.actions i).var lawful.has_post.there)

    module _ {v : ℕ} (var : v ≡ act.var) where
      var_is : v ≡ (action_at t.actions i).var
      var_is = var ∙ tells.var

      var_small : v < length t.counts
      var_small = rw var_is lawful.has_post.there

      pub mark_in_range : (v < 32) × (act.post < 16)
      mark_in_range = (omega (arith, var_small, ready.lawful.few_variables), post_small)

module _
    {file : List ℕ} {actions : ℕ} {acts : List Row} {t : Study}
    (ready : Ready file actions acts t)
    {past : List State} {table marks : List ℕ}
    (stage : Stage t past table marks)
    (k i : ℕ)
  where
    pub takes_14 : actions ≤ i → Takes t past k i table table marks (Err (refusal 14 k))
    takes_14 h rest = run_too_high t past (shown t table) k i rest (omega (arith, ready.count))

    module _ (there : i < actions) where
      pub takes_20 : eqb (get_or (out_column acts) i 0) 0 ≡ false → Takes t past k i table table marks (Err (refusal 20 k))
      takes_20 out rest = run_out t past (shown t table) k i rest (omega (arith, ready.count)) (sym (ready.force i there) ∙ out)

      lacks_is : lacks (shown t table) (action_at t.actions i) ≡ lacks table (action_at t.actions i)
      lacks_is =
          let a = lawful ready i there in
          lacks_shown (length t.counts) table (action_at t.actions i) a.has_pre.there (λ j h. (a.conditions.has j h).there)

      -- it is in force
      module _ (force : eqb (get_or (out_column acts) i 0) 0 ≡ true) where
        usable : Usable t i
        usable = record { there = omega (arith, ready.count); in_force_lem = sym (ready.force i there) ∙ force }

        pub takes_15 :
            {w : Want} → Some w ≡ stance_of (lacks table (action_at t.actions i))
            → Takes t past k i table table marks (Err (three 15 k w.var))
        takes_15 {w} e rest =
            run_barred t past (shown t table) k i rest usable w.var (bars (shown t table) (action_at t.actions i) w (rw lacks_is e))

        -- nothing bars it
        module _
            (nothing : None ≡ stance_of (lacks table (action_at t.actions i)))
            {act : Act} (tells : Tells file act (action_at t.actions i))
            {v : ℕ} (var : v ≡ act.var)
          where
            unbarred : barred (shown t table) (action_at t.actions i) ≡ none
            unbarred = free (shown t table) (action_at t.actions i) (rw lacks_is nothing)

            told : bit (get_or marks v 0) act.post ≡ held (shown t table ∷ past) (action_at t.actions i).var (action_at t.actions i).post
            told =
                stage.marked.tells v act.post (var_small ready i there tells var) (post_small ready i there tells)
                ∙ (rw (var_is ready i there tells var, tells.post))

            pub takes_16 : bit (get_or marks v 0) act.post ≡ true → Takes t past k i table table marks (Err (three 16 k v))
            takes_16 e rest = run_held t past (shown t table) k i rest usable unbarred (sym told ∙ e) ∙ (rw (var_is ready i there tells var))

            shown_set : shown t (set table v act.post) ≡ set (shown t table) v act.post
            shown_set = take-set-lt (length t.counts) table v act.post (var_small ready i there tells var)

            -- a word that marks its value besides
            module _ (word : ℕ) (put : (j : ℕ) → bit word j ≡ (eqb act.post j || bit (get_or marks v 0) j)) where
              stage_more : Stage t (shown t table ∷ past) (set table v act.post) (set marks v word)
              stage_more =
                  record {
                    long = length-set table v act.post ∙ stage.long;
                    marked =
                        rw shown_set
                        (marked_more stage.marked v act.post word (var_small ready i there tells var) ready.lawful.few_variables
                        (omega (arith, length-take-le (length t.counts) table (omega (arith, stage.long, ready.lawful.few_variables))))
                        put);
                  }

              pub takes_on : bit (get_or marks v 0) act.post ≡ false → Takes t past k i table (set table v act.post) (set marks v word) (Ok tt)
              takes_on e = (
                λ rest.
                    run_step t past (shown t table) k i rest usable unbarred (sym told ∙ e)
                    ∙ (rw (shown_set, var_is ready i there tells var, tells.post)),
                stage_more,
              )
