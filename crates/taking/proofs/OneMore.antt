-- One ready action of least rank is taken: what is so between the steps is so after it.
-- Assumes nothing.
use mathlib.Core.Path.{◌≡◌, sym, ap, ◌∙◌}
use mathlib.Core.Logic.{◌⊎◌, inl, inr, ◌≢◌}
use mathlib.Core.List.{List, [], ◌∷◌, ◌++◌}
use Prim.Native.Nat.{ℕ, ◌+◌, ◌*◌, ◌≤◌, ◌<◌}
use native.Mathlib.Omega.{arith}
use native.Mathlib.Decide.{ℕ_discrete}
use lib.ListN.{length, get_or, set, take}
use lib.Seq.{get_or-set_same, get_or-set_other, take-set-lt}
use Rattle.study.specs.Study.{Study}
use Rattle.plans.specs.Plans.{State}
use Rattle.orders.specs.Orders.{In, Plus, Ready}
use Rattle.orders.proofs.Lists.{in_append_left, in_append_right, in_append_cases}
use Rattle.orders.proofs.Grown.{Same, Least, greedy_one_more}
use Rattle.walks.specs.Walks.{OnAWalk, ComesBefore, leaves, var_of, pre_of, post_of, conditions_of, Wants}
use Rattle.walks.proofs.Leads.{on_walk_usable}
use Rattle.walks.proofs.Wanted.{wants_has}
use Rattle.walks.proofs.Straight.{Kept, kept_next}
use Rattle.wanting.specs.Wanting.{wanted}
use Rattle.opening.specs.Conditions.{HoldsAt, HoldUpTo, Lowerable, lowered_all}
use Rattle.opening.specs.Opening.{step_of}
use Rattle.choosing.specs.Choosing.{HeldRight, Noted}
use Rattle.taking.specs.Taking.{Prepared}
use Rattle.taking.proofs.Holding.{wants_read}
use Rattle.taking.proofs.Lowered.{action_lowerable, action_lowers}
use Rattle.taking.proofs.StillWanted.{wanted_one_more, wanted_left}
use Rattle.taking.proofs.Between.{Going, action_stands, part, ahead}
use Rattle.taking.proofs.Alike.{state_is}

-- ---- what is taken, said otherwise

kept_same : {t : Study} {P Q : ℕ → Type 0} {s : State} {past : List State} → Same P Q → Kept t P s past → Kept t Q s past
kept_same same kept = record {
  long = kept.long;
  closed = λ y z h on before. same.there z (kept.closed y z (same.back y h) on before);
  stands = λ v h xs walk.
      let old = kept.stands v h xs walk in
      record {
        place = old.place;
        within = old.within;
        done = λ j b. same.there _ (old.done j b);
        undone = λ j b k. old.undone j b (same.back _ k);
        value = old.value;
      };
  fresh = λ x on free. kept.fresh x on (λ h. free (same.there x h));
}

plus_last : (x : ℕ) (xs : List ℕ) → Same (Plus x (λ y. In y xs)) (λ y. In y (xs ++ (x ∷ [])))
plus_last x xs = record { there = there; back = λ y h. back y (in_append_cases y xs (x ∷ []) h) }
  where
    there : (y : ℕ) → Plus x (λ y. In y xs) y → In y (xs ++ (x ∷ []))
    there y (inl e) = in_append_right y xs (x ∷ []) (inl e)
    there y (inr h) = in_append_left y xs (x ∷ []) h

    back : (y : ℕ) → In y xs ⊎ In y (x ∷ []) → Plus x (λ y. In y xs) y
    back y (inl h) = inr h
    back y (inr (inl e)) = inl e
    back y (inr (inr h)) = absurd h

-- ---- the notes of what holds were added to

pub going_noted :
    {ranks file places manys steps wants state held held' list taken : List ℕ} {t : Study}
    → Going ranks file places manys steps wants state held list taken t → Noted file places manys steps state held held'
    → Going ranks file places manys steps wants state held' list taken t
going_noted going noted = record {
  past = going.past;
  kept = going.kept;
  greedy = going.greedy;
  counts = going.counts;
  right = λ v h. noted.right v (going.right v h);
}

-- ---- one more

module _ {file : List ℕ} {n a total : ℕ} {vars posts places manys steps wants₀ state₀ : List ℕ} {t : Study}
    (prep : Prepared file n a total vars posts places manys steps wants₀ state₀ t)
    {ranks wants state held taken : List ℕ} (going : Going ranks file places manys steps wants state held prep.list taken t)
    {i : ℕ} (ready : Ready (OnAWalk t) (ComesBefore t) (λ y. In y taken) i) where
  abbrev own : ℕ
  own = var_of t i

  still_counted : (u q : ℕ) → Wants (conditions_of t i) u q → 1 ≤ get_or wants (16 * u + q) 0
  still_counted u q w =
      let lawful = prep.deeds.lawful in
      let has = wants_has t.counts (conditions_of t i) (lawful.action i (on_walk_usable ready.is_member).there).conditions.has u q w in
      omega (
        arith,
        going.counts u q (omega (arith, has.there, lawful.few_variables)) (omega (arith, has.small, lawful.few_values u has.there)),
        wanted_left t u q prep.members (part prep going) i ready.is_member ready.not_taken w,
      )

  pub taken_lowerable : length wants ≡ 512 → Lowerable file (get_or places i 0) (get_or manys i 0) wants
  taken_lowerable size = action_lowerable (action_stands prep i ready.is_member) wants size still_counted

  kept_more :
      Kept t (λ y. In y (taken ++ (i ∷ []))) (take (length t.tasks) (set state own (post_of t i))) (take (length t.tasks) state ∷ going.past)
  kept_more =
      rw (take-set-lt (length t.tasks) state own (post_of t i) ready.is_member.there)
      (kept_same (plus_last i taken) (kept_next prep.deeds.lawful going.kept ready))

  counts_more :
      length wants ≡ 512 → (u q : ℕ) → u < 32 → q < 16
      → get_or (lowered_all file (get_or places i 0) (get_or manys i 0) wants) (16 * u + q) 0 + wanted t (taken ++ (i ∷ [])) u q ≡ wanted t prep.list u q
  counts_more size u q low slim =
      omega (
        arith,
        action_lowers (action_stands prep i ready.is_member) wants size still_counted u q slim,
        wanted_one_more t u q taken i,
        going.counts u q low slim,
      )

  -- a condition of the next action of another variable holds still: that action is not taken, so the action that is taken does not leave its value
  module _ (u : ℕ) (there : u < length t.tasks) (other : u ≢ own) (j : ℕ) (is : step_of steps state u ≡ j + 2) where
    not_left : Wants (conditions_of t j) own (pre_of t i) → ⊥
    not_left w = let a = ahead prep going u there j is in a.free (ready.all_before j a.on (leaves w))

    holds_still : (k : ℕ) → k < get_or manys j 0 → HoldsAt file (get_or places j 0) state k → HoldsAt file (get_or places j 0) (set state own (post_of t i)) k
    holds_still k b h = go (ℕ_discrete var own)
      where
        var : ℕ
        var = get_or file (get_or places j 0 + 3 * k + 1) 0

        go : Dec (var ≡ own) → HoldsAt file (get_or places j 0) (set state own (post_of t i)) k
        go (no o) = get_or-set_other state own var (post_of t i) 0 o ∙ h
        go (yes e) =
            let w = wants_read (action_stands prep j (ahead prep going u there j is).on) k b in
            absurd (not_left (rw (e, sym h ∙ ap (λ (x : ℕ). get_or state x 0) e ∙ state_is prep going ready) at w))

  right_more : length held ≡ 32 → (u : ℕ) → u < length t.tasks → HeldRight file places manys steps (set state own (post_of t i)) (set held own 0) u
  right_more long u there j is = go (ℕ_discrete u own)
    where
      Right : Type 0
      Right =
          (get_or (set held own 0) u 0 ≤ get_or manys j 0)
          × HoldUpTo file (get_or places j 0) (set state own (post_of t i)) (get_or (set held own 0) u 0)

      go : Dec (u ≡ own) → Right
      go (yes e) =
          let z : get_or (set held own 0) u 0 ≡ 0 = rw e (get_or-set_same held own 0 0 (omega (arith, prep.deeds.lawful.a_task_each, prep.deeds.lawful.few_variables))) in
          rw z (omega arith, λ k b. absurd (omega arith))
      go (no o) =
          let same = get_or-set_other state own u (post_of t i) 0 o in
          let step : step_of steps state u ≡ j + 2 = rw same at is in
          let old = going.right u there j step in
          rw (get_or-set_other held own u 0 0 o) (old.0, λ k b. holds_still u there o j step k (omega (arith, old.0)) (old.1 k b))

  pub one_more :
      length wants ≡ 512 → length held ≡ 32 → Least (OnAWalk t) (ComesBefore t) (λ y. get_or ranks y 0) (λ y. In y taken) i
      → Going ranks file places manys steps (lowered_all file (get_or places i 0) (get_or manys i 0) wants) (set state own (post_of t i)) (set held own 0)
      prep.list (taken ++ (i ∷ [])) t
  one_more size long least = record {
    past = take (length t.tasks) state ∷ going.past;
    kept = kept_more;
    greedy = greedy_one_more (OnAWalk t) (ComesBefore t) (λ y. get_or ranks y 0) taken i going.greedy ready least;
    counts = counts_more size;
    right = right_more long;
  }
