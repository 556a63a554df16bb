-- One walk action: what sets what it wants or leaves is marked before it, and it before what leaves what it wants.
-- Assumes nothing.
use mathlib.Core.Path.{◌≡◌, refl, sym, ◌∙◌}
use mathlib.Core.Logic.{◌⊎◌, inl, inr, ◌≢◌}
use mathlib.Core.Bool.{true, ◌||◌, true≢false}
use mathlib.Core.List.{List}
use Prim.Native.Nat.{ℕ, ◌+◌, ◌*◌, ◌<◌}
use native.Mathlib.Omega.{arith}
use lib.ListN.{length, get_or, set}
use Rattle.bits.specs.Bits.{bit}
use Rattle.bits.proofs.Words.{bit_zero}
use Rattle.study.specs.Study.{Study}
use Rattle.tables.specs.declared.Act.{Act}
use Rattle.walks.specs.Walks.{OnAWalk, next, var_of, pre_of, conditions_of, start_of}
use Rattle.walks.proofs.Wanted.{wanted-each}
use Rattle.tracing.specs.Steps.{SetterIs}
use Rattle.std.specs.Prelude.{Some}
use Rattle.tracing.proofs.Ranges.{pre_small}
use Rattle.tracing.proofs.StepTable.{step_has_value, on_walk_step}
use Rattle.marking.specs.Marking.{Ranked, Marked, SetterMarked}
use Rattle.marking.proofs.Marks.{put_grows, put_there, put_only}
use Rattle.ordering.specs.Marking.{Surveyed, SettersIn, LeaversAfter, Justified, WantedMarked, Turn, SetsFor, ActionMarked}
use Rattle.ordering.proofs.Named.{walk_setter, value_setter}
use Rattle.ordering.proofs.OneCondition.{low_rank}

module _
    {file : List ℕ} {act : Act} {j rank : ℕ} {ranks firsts setters steps : List ℕ} {t : Study} {i : ℕ}
    (turn : Turn file act j rank ranks firsts setters steps t i) where
  s : Surveyed file act.place act.many rank ranks firsts setters steps t i
  s = turn.surveyed

  narrow : pre_of t i < 16
  narrow = pre_small s.stand.lawful i s.stand.there

  -- the action that sets what it leaves
  setter : pre_of t i ≢ start_of t (var_of t i) → SetterIs t (var_of t i) (pre_of t i) (Some (get_or setters (16 * var_of t i + pre_of t i) 0))
  setter =
      value_setter setters s.actions s.names
      (step_has_value s.rowed (var_of t i) (pre_of t i) turn.on_walk_lem.there narrow
      (λ e. omega (arith, on_walk_step s.rowed s.stand.lawful turn.on_walk_lem)))

  pub in_table_lem : j < 512
  in_table_lem =
      omega (arith, turn.is_index, narrow, turn.on_walk_lem.there, s.stand.lawful.a_task_each, s.stand.lawful.few_variables)

  module _ {x start : ℕ} (is_var : x ≡ act.var) (is-start : start ≡ get_or firsts x 0) where
    same_start : start ≡ start_of t (var_of t i)
    same_start = rw (is_var ∙ turn.is_var) at is-start ∙ s.starts (var_of t i) turn.on_walk_lem.there

    pub setter_fits : act.pre ≢ start → get_or setters j 0 < length ranks
    setter_fits away = rw turn.is_index (omega (arith, s.actions, (setter (rw (turn.is_pre, same_start) at away)).0))

    pub marks :
        {l : ℕ} (before before' : List ℕ) {first word : ℕ} (joined : ℕ) → length before' ≡ 64 → Ranked ranks → l ≡ rank
        → SetterMarked 0 act.pre start (get_or ranks (get_or setters j 0) 0) first
        → WantedMarked t i (length (conditions_of t i)) rank ranks steps before before' first word
        → ((b : ℕ) → bit joined b ≡ (bit word b || bit (get_or before' l 0) b))
        → ActionMarked t i ranks steps before (set before' l joined)
    marks {l} before before' {first} {word} joined size ranked is_rank set_first wanted is = rw e (record {
      have_steps = wanted.have_steps;
      grows = λ a b m. put_grows before' (get_or ranks i 0) joined (bit word) low put a b (wanted.grows a b m);
      setters = λ z on how. put_there before' (get_or ranks i 0) joined (bit word) low put (get_or ranks z 0) (set_for z on how);
      leavers = λ z on h.
          put_grows before' (get_or ranks i 0) joined (bit word) low put _ _
          (wanted-each (LeaversAfter t ranks (get_or ranks i 0) before') (conditions_of t i) (rw s.is_rank at wanted.leavers) _ _ h z on refl refl);
      only = λ a b m. from a b (put_only before' (get_or ranks i 0) joined (bit word) low put a b m);
    })
      where
        e : l ≡ get_or ranks i 0
        e = is_rank ∙ s.is_rank

        low : get_or ranks i 0 < length before'
        low = omega (arith, low_rank s ranked, s.is_rank)

        put : (b : ℕ) → bit joined b ≡ (bit word b || bit (get_or before' (get_or ranks i 0) 0) b)
        put = rw e at is

        own : SetterMarked 0 (pre_of t i) (start_of t (var_of t i)) (get_or ranks (get_or setters (16 * var_of t i + pre_of t i) 0) 0) first
        own = rw (turn.is_pre, same_start, turn.is_index) at set_first

        set_for : (z : ℕ) → OnAWalk t z → SetsFor t z i → bit word (get_or ranks z 0) ≡ true
        set_for z on (inl (var, left)) =
            let (away, named) = walk_setter setters s.actions s.names on var left in
            wanted.keeps _ (rw named at (own.there away))
        set_for z on (inr h) = wanted-each (SettersIn t ranks word) (conditions_of t i) wanted.setters _ _ h z on refl refl

        first_by :
            (b : ℕ)
            → (bit 0 b ≡ true) ⊎ ((pre_of t i ≢ start_of t (var_of t i)) × (get_or ranks (get_or setters (16 * var_of t i + pre_of t i) 0) 0 ≡ b))
            → Justified t ranks rank b
        first_by b (inl m) = absurd (true≢false (sym m ∙ bit_zero b))
        first_by b (inr (away, f)) =
            let (usable, var, left) = setter away in
            record {
              one = get_or setters (16 * var_of t i + pre_of t i) 0;
              other = i;
              one_there = usable.there;
              other_there = s.stand.there;
              one_rank = f;
              other_rank = sym s.is_rank;
              before = next var left;
            }

        word_by : (b : ℕ) → (bit first b ≡ true) ⊎ Justified t ranks rank b → Justified t ranks rank b
        word_by b (inl m) = first_by b (own.only b m)
        word_by b (inr found) = found

        from : (a b : ℕ) → Marked before' a b ⊎ ((a ≡ get_or ranks i 0) × (bit word b ≡ true)) → Marked before a b ⊎ Justified t ranks a b
        from a b (inl m) = wanted.only_leavers a b m
        from a b (inr (f, m)) = inr (rw (f ∙ sym s.is_rank) (word_by b (wanted.only_setters b m)))
