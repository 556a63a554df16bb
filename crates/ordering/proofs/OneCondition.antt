-- One condition more of an action: its setter is in the word, and its leaver after the rank.
-- Assumes nothing.
use mathlib.Core.Path.{◌≡◌, refl, sym, ◌∙◌}
use mathlib.Core.Logic.{◌⊎◌, inl, inr, ◌≢◌}
use mathlib.Core.Bool.{true}
use mathlib.Core.List.{List}
use Prim.Native.Nat.{ℕ, ◌+◌, ◌*◌, ◌<◌}
use native.Mathlib.Omega.{arith}
use lib.ListN.{length, get_or}
use borrow.Author.Count.{below_more}
use Rattle.bits.specs.Bits.{bit}
use Rattle.study.specs.Study.{Condition, Study, condition_at}
use Rattle.walks.specs.Walks.{Wants, sets, leaves, conditions_of, start_of}
use Rattle.walks.proofs.Leads.{on_walk_usable}
use Rattle.tracing.specs.Steps.{SetterIs}
use Rattle.std.specs.Prelude.{Some}
use Rattle.tracing.proofs.StepTable.{step_has_value, step_leaves, on_walk_step}
use Rattle.wanting.specs.Wanting.{step_at}
use Rattle.wanting.proofs.Conditions.{wants_at, stands_here, condition_there}
use Rattle.marking.specs.Marking.{Ranked, Marked, SetterMarked, LeaverMarked}
use Rattle.ordering.specs.Marking.{Surveyed, SettersIn, LeaversAfter, Justified, WantedMarked}
use Rattle.ordering.proofs.Named.{walk_setter, value_setter, step_low}

abbrev pub condition : Study → ℕ → ℕ → Condition
condition t i k = condition_at (conditions_of t i) k

module _
    {file : List ℕ} {place many rank : ℕ} {ranks firsts setters steps : List ℕ} {t : Study} {i : ℕ}
    (s : Surveyed file place many rank ranks firsts setters steps t i) where
  pub low_rank : Ranked ranks → rank < 64
  low_rank ranked = omega (arith, s.is_rank, ranked i (omega (arith, s.actions, s.stand.there)))

  -- condition k
  module _ (k : ℕ) (h : k < many) where
    narrow : (condition t i k).value < 16
    narrow = (stands_here s.stand (place + 3 * k) k refl h).narrow

    there : (condition t i k).var < length t.tasks
    there = condition_there s.stand k h

    pub told_start : get_or firsts (condition t i k).var 0 ≡ start_of t (condition t i k).var
    told_start = s.starts (condition t i k).var there

    pub step_of_action : step_at (conditions_of t i) steps k < length ranks + 2
    step_of_action = omega (arith, s.actions, step_low s.rowed (condition t i k).var (condition t i k).value there narrow)

    module _ (has-step : step_at (conditions_of t i) steps k ≢ 0) where
      pub setter : (condition t i k).value ≢ start_of t (condition t i k).var
          → SetterIs t (condition t i k).var (condition t i k).value (Some (get_or setters (16 * (condition t i k).var + (condition t i k).value) 0))
      setter =
          value_setter setters s.actions s.names
          (step_has_value s.rowed (condition t i k).var (condition t i k).value there narrow has-step)

      -- the first k conditions and this one
      pub one_more :
          {before before' before'' : List ℕ} {first word word' : ℕ}
          → WantedMarked t i k rank ranks steps before before' first word
          → LeaverMarked (step_at (conditions_of t i) steps k) rank ranks before' before''
          → SetterMarked word (condition t i k).value (start_of t (condition t i k).var)
          (get_or ranks (get_or setters (16 * (condition t i k).var + (condition t i k).value) 0) 0) word'
          → WantedMarked t i (k + 1) rank ranks steps before before'' first word'
      one_more {before} {before'} {before''} {first} {word} {word'} old left set = record {
        have_steps = below_more (λ m. step_at (conditions_of t i) steps m ≢ 0) k old.have_steps has-step;
        setters =
            below_more (λ m. SettersIn t ranks word' (condition t i m).var (condition t i m).value) k
            (λ m l x on e f. set.grows _ (old.setters m l x on e f))
            (λ x on e f. let (away, named) = walk_setter setters s.actions s.names on e f in rw named at (set.there away));
        leavers =
            below_more (λ m. LeaversAfter t ranks rank before'' (condition t i m).var (condition t i m).value) k
            (λ m l x on e f. left.grows _ _ (old.leavers m l x on e f))
            (λ x on e f. left.there x (rw (← e, ← f) (on_walk_step s.rowed s.stand.lawful on)));
        grows = λ a b m. left.grows a b (old.grows a b m);
        keeps = λ b m. set.grows b (old.keeps b m);
        only_setters = λ b m. set_by b (set.only b m);
        only_leavers = λ a b m. left_by a b (left.only a b m);
      }
        where
          wanted : Wants (conditions_of t i) (condition t i k).var (condition t i k).value
          wanted = wants_at (conditions_of t i) k (omega (arith, s.stand.holds.count))

          set_by :
              (b : ℕ)
              → (bit word b ≡ true)
              ⊎ (((condition t i k).value ≢ start_of t (condition t i k).var)
              × (get_or ranks (get_or setters (16 * (condition t i k).var + (condition t i k).value) 0) 0 ≡ b))
              → (bit first b ≡ true) ⊎ Justified t ranks rank b
          set_by b (inl m) = old.only_setters b m
          set_by b (inr (away, e)) =
              let (usable, own, post) = setter away in
              inr (record {
                one = get_or setters (16 * (condition t i k).var + (condition t i k).value) 0;
                other = i;
                one_there = usable.there;
                other_there = s.stand.there;
                one_rank = e;
                other_rank = sym s.is_rank;
                before = sets (rw (own, post) wanted);
              })

          left_by :
              (a b : ℕ)
              → Marked before' a b ⊎ ((b ≡ rank) × ((l : ℕ) × ((step_at (conditions_of t i) steps k ≡ l + 2) × (get_or ranks l 0 ≡ a))))
              → Marked before a b ⊎ Justified t ranks a b
          left_by a b (inl m) = old.only_leavers a b m
          left_by a b (inr (e, (l, (is, f)))) =
              let (on, (own, pre)) = step_leaves s.rowed (condition t i k).var (condition t i k).value l there narrow is in
              inr (record {
                one = i;
                other = l;
                one_there = s.stand.there;
                other_there = (on_walk_usable on).there;
                one_rank = sym (e ∙ s.is_rank);
                other_rank = f;
                before = leaves (rw (own, pre) wanted);
              })
