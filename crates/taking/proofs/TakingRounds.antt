-- All rounds of taking: what is so at the start, that a round keeps it, and what it tells at the end.
-- Assumes nothing.
use mathlib.Core.Path.{◌≡◌, refl, sym, ◌∙◌}
use mathlib.Core.List.{List, []}
use Prim.Native.Nat.{ℕ, ◌+◌, ◌-◌, ◌*◌, ◌≤◌, ◌<◌}
use native.Mathlib.Numerals.{add-one}
use native.Mathlib.Omega.{arith}
use native.Mathlib.Decide.{dec_lt}
use lib.ListN.{length, get_or, set, take, drop, replicate, length-set, length-drop, get_or-replicate}
use lib.Seq.{ext_get_or, get_or-take, get_or-set_other, length-take-le, take-suc-set, drop-set-add}
use Rattle.study.specs.Study.{Study}
use Rattle.plans.specs.Plans.{start_state}
use Rattle.plans.proofs.States.{start_value, start-length}
use Rattle.ranks.specs.Ranks.{rising, Inverse}
use Rattle.ranks.proofs.Laws.{length-rising, get_d_rising}
use Rattle.orders.specs.Orders.{In, Distinct, Ready}
use Rattle.orders.proofs.Lists.{entry_in, distinct_within, distinct_fills}
use Rattle.orders.proofs.Grown.{Least, greedy_ended}
use Rattle.walks.specs.Walks.{OnAWalk, ComesBefore, var_of, post_of}
use Rattle.walks.proofs.Leads.{on_walk_usable}
use Rattle.walks.proofs.Wanted.{wanted_there}
use Rattle.walks.proofs.Straight.{kept_first}
use Rattle.wanting.specs.Wanting.{wanted}
use Rattle.std.specs.Prelude.{Some, None}
use Rattle.bits.specs.Bits.{Removed}
use Rattle.opening.specs.Conditions.{entry_at, Lowerable, lowered_all}
use Rattle.opening.specs.Opening.{step_of, Joined, Opens, Freed, Woken, Placed}
use Rattle.choosing.specs.Choosing.{LooksReady, Noted, Chosen, Guarded}
use Rattle.taking.specs.Taking.{Prepared, TakenGreedily}
use Rattle.choosing.specs.OpenRight.{OpenRight}
use Rattle.taking.proofs.OpenRounds.{right_goes_on}
use Rattle.taking.proofs.Holding.{stand_readable, wants_read}
use Rattle.taking.proofs.Lowered.{lowered_length}
use Rattle.taking.proofs.StillWanted.{Part}
use Rattle.taking.proofs.Between.{Going, action_stands, part, narrow, ahead}
use Rattle.taking.proofs.Alike.{looks_so_is, is_so_looks}
use Rattle.taking.proofs.OneMore.{going_noted, taken_lowerable, one_more}

-- numbers below m, each once, are at most m
at_most : (m : ℕ) (xs : List ℕ) → Distinct xs → ((x : ℕ) → In x xs → x < m) → length xs ≤ m
at_most m xs once below =
    omega (
      arith,
      length-rising m,
      distinct_within xs (rising m) once
          (λ x h. rw (get_d_rising m x (below x h)) at (entry_in (rising m) x (omega (arith, length-rising m, below x h)))),
    )

-- ---- the start

module _ {file : List ℕ} {n a total : ℕ} {vars posts places manys steps wants state : List ℕ} {t : Study}
    (prep : Prepared file n a total vars posts places manys steps wants state t) where
  few : n ≤ 32
  few = omega (arith, prep.variables, prep.deeds.lawful.a_task_each, prep.deeds.lawful.few_variables)

  starts : length state ≡ 32 → take (length t.tasks) state ≡ start_state t
  starts long =
      ext_get_or 0 (take (length t.tasks) state) (start_state t) (size ∙ sym (start-length t))
      (λ v h. let b : v < length t.tasks = omega (arith, size) in
      get_or-take (length t.tasks) state v 0 b ∙ prep.at_start_lem v (omega (arith, prep.variables)) ∙ sym (start_value t v))
    where
      size : length (take (length t.tasks) state) ≡ length t.tasks
      size = length-take-le (length t.tasks) state (omega (arith, few, prep.variables))

  pub going_starts : (ranks : List ℕ) → length state ≡ 32 → Going ranks file places manys steps wants state (replicate 32 0) prep.list [] t
  unfolding wanted
  going_starts ranks long = record {
    past = [];
    kept = rw (starts long) (kept_first t);
    greedy = tt;
    counts = λ u q low slim. omega (arith, prep.wanted u q low slim);
    right = λ v h i e.
        let z : ◌≡◌ {A = ℕ} (get_or (replicate 32 0) v 0) 0 = get_or-replicate 32 v 0 0 (omega (arith, few, prep.variables)) in
        rw z (omega arith, λ k b. absurd (omega arith));
  }

  -- there are at most 256 actions on walks
  pub total_few : total ≤ 256
  total_few =
      omega (
        arith,
        prep.counted,
        at_most 256 prep.list prep.members.once
            (λ x h. omega (arith, on_walk_usable (prep.members.only x h), prep.deeds.lawful.few_actions)),
      )

-- ---- between the rounds

-- after k rounds
pub record Underway (file ranks : List ℕ) (n total : ℕ) (vars posts places manys steps wants₀ state₀ wants state room held : List ℕ) (k : ℕ) : Type 0 where
  pub some : (t : Study) × Prepared file n (length ranks) total vars posts places manys steps wants₀ state₀ t
  pub within : k ≤ total
  pub wants_long : length wants ≡ 512
  pub room_long : length room ≡ 512
  pub by_rank : Inverse ranks room
  pub held_long : length held ≡ 32
  pub going :
      (t : Study) (prep : Prepared file n (length ranks) total vars posts places manys steps wants₀ state₀ t)
      → Going ranks file places manys steps wants state held prep.list (take k (drop 256 room)) t

pub begins :
    {file ranks : List ℕ} {n total : ℕ} {vars posts places manys steps wants state room : List ℕ}
    → length wants ≡ 512 → length state ≡ 32 → length room ≡ 512 → Inverse ranks room
    → (t : Study) × Prepared file n (length ranks) total vars posts places manys steps wants state t
    → Underway file ranks n total vars posts places manys steps wants state wants state room (replicate 32 0) 0
begins {ranks = ranks} wants_long state-long room_long by_rank some = record {
  some = some;
  within = omega arith;
  wants_long = wants_long;
  room_long = room_long;
  by_rank = by_rank;
  held_long = refl;
  going = λ t prep. going_starts prep ranks state-long;
}

module _ {file ranks : List ℕ} {n total : ℕ} {vars posts places manys steps wants₀ state₀ wants state room held : List ℕ} {k : ℕ}
    (under : Underway file ranks n total vars posts places manys steps wants₀ state₀ wants state room held k) where
  abbrev Prep : Study → Type 0
  Prep t = Prepared file n (length ranks) total vars posts places manys steps wants₀ state₀ t

  -- each look is guarded
  pub guards : Guarded file vars places manys steps state ranks room n held
  guards = let (t, prep) = under.some in from prep (under.going t prep)
    where
      from : {t : Study} (prep : Prep t) → Going ranks file places manys steps wants state held prep.list (take k (drop 256 room)) t → Guarded file vars places manys steps state ranks room n held
      from {t} prep going = record {
        sound = λ v h.
            let there : v < length t.tasks = omega (arith, prep.variables) in
            record {
              there = omega (arith, few prep);
              narrow = narrow prep going v there;
              next = λ i e.
                  let s = ahead prep going v there i e in
                  (omega (arith, on_walk_usable s.on, prep.deeds.actions), stand_readable (action_stands prep i s.on));
              own = λ i e.
                  let s = ahead prep going v there i e in
                  prep.deeds.tells_var i (omega (arith, on_walk_usable s.on, prep.deeds.actions)) ∙ s.var;
            };
        right = λ v h. going.right v (omega (arith, prep.variables));
        by_rank = under.by_rank;
        long = under.held_long;
      }

  -- a variable's next action has a rank
  pub has_rank : (v : ℕ) → v < n → Placed ranks steps state v
  has_rank v h = record { low = (guards.sound v h).there; narrow = (guards.sound v h).narrow; ranked = go (dec_lt (step_of steps state v) 2) }
    where
      go : Dec (step_of steps state v < 2) → step_of steps state v < length ranks + 2
      go (yes b) = omega arith
      go (no b) = omega (arith, ((guards.sound v h).next (step_of steps state v - 2) (omega arith)).0)

  pub notes : {held' : List ℕ} → Noted file places manys steps state held held' → Underway file ranks n total vars posts places manys steps wants₀ state₀ wants state room held' k
  notes noted = record {
    some = under.some;
    within = under.within;
    wants_long = under.wants_long;
    room_long = under.room_long;
    by_rank = under.by_rank;
    held_long = noted.long ∙ under.held_long;
    going = λ t prep. going_noted (under.going t prep) noted;
  }

  -- none that looks ready: none is
  pub ends_stuck : Chosen ranks n file places manys steps wants state None → (t : Study) → Prep t → TakenGreedily t ranks (take k (drop 256 room))
  ends_stuck none t prep =
      greedy_ended (OnAWalk t) (ComesBefore t) (λ i. get_or ranks i 0) (take k (drop 256 room)) (under.going t prep).greedy
      (λ y ready. none (var_of t y) y (omega (arith, ready.is_member.there, prep.variables)) (is_so_looks prep (under.going t prep) ready))

  -- as many taken as there are: all are
  pub ends_all : total ≤ k → (t : Study) → Prep t → TakenGreedily t ranks (take k (drop 256 room))
  ends_all h t prep =
      greedy_ended (OnAWalk t) (ComesBefore t) (λ i. get_or ranks i 0) (take k (drop 256 room)) (under.going t prep).greedy
      (λ y ready. ready.not_taken (all y ready.is_member))
    where
      some_taken : Part t (take k (drop 256 room))
      some_taken = part prep (under.going t prep)

      all : (y : ℕ) → OnAWalk t y → In y (take k (drop 256 room))
      all y on =
          distinct_fills (take k (drop 256 room)) prep.list some_taken.once (λ x g. prep.members.all x (some_taken.only x g))
          (omega (arith, prep.counted, under.within, length-take-le k (drop 256 room) (omega (arith, under.within, total_few prep, length-drop 256 room, under.room_long))))
          y (prep.members.all y on)

  -- ---- one chosen

  module _ {i : ℕ} (chosen : Chosen ranks n file places manys steps wants state (Some i)) where
    chosen_ready : {t : Study} → Prep t → Ready (OnAWalk t) (ComesBefore t) (λ y. In y (take k (drop 256 room))) i
    chosen_ready prep =
        looks_so_is prep (under.going _ prep) (omega (arith, chosen.0.1.0, prep.variables)) chosen.0.1.1

    chosen_least : {t : Study} → Prep t → Least (OnAWalk t) (ComesBefore t) (λ y. get_or ranks y 0) (λ y. In y (take k (drop 256 room))) i
    chosen_least {t} prep y ready =
        chosen.1 (var_of t y) y (omega (arith, ready.is_member.there, prep.variables)) (is_so_looks prep (under.going _ prep) ready)

    pub chosen_below : i < 256
    chosen_below =
        let (t, prep) = under.some in
        omega (arith, on_walk_usable (chosen_ready prep).is_member, prep.deeds.lawful.few_actions)

    pub chosen_lowerable : Lowerable file (get_or places i 0) (get_or manys i 0) wants
    chosen_lowerable = let (t, prep) = under.some in taken_lowerable prep (under.going t prep) (chosen_ready prep) under.wants_long

    own_var : {t : Study} → Prep t → get_or vars i 0 ≡ var_of t i
    own_var prep = prep.deeds.tells_var i (omega (arith, on_walk_usable (chosen_ready prep).is_member, prep.deeds.actions))

    own_post : {t : Study} → Prep t → get_or posts i 0 ≡ post_of t i
    own_post prep = prep.deeds.tells_post i (omega (arith, on_walk_usable (chosen_ready prep).is_member, prep.deeds.actions))

    pub chosen_var : get_or vars i 0 < 32
    chosen_var = let (t, prep) = under.some in omega (arith, own_var prep, few prep, prep.variables, (chosen_ready prep).is_member.there)

    pub chosen_within : get_or vars i 0 < n
    chosen_within = let (t, prep) = under.some in omega (arith, own_var prep, prep.variables, (chosen_ready prep).is_member.there)

    chosen_looks : LooksReady file places manys steps wants state (get_or vars i 0) i
    chosen_looks = let (t, prep) = under.some in rw (own_var prep) (is_so_looks prep (under.going t prep) (chosen_ready prep))

    pub chosen_listed : i < length ranks
    chosen_listed = ((guards.sound _ chosen_within).next i chosen_looks.next).0

    -- its conditions are on variables of the study
    chosen_known : (j : ℕ) → j < get_or manys i 0 → get_or file (get_or places i 0 + 3 * j + 1) 0 < n
    chosen_known j h =
        let (t, prep) = under.some in
        let on = (chosen_ready prep).is_member in
        let lawful = prep.deeds.lawful in
        let w = wants_read (action_stands prep i on) j h in
        omega (arith, wanted_there (lawful.action i (on_walk_usable on).there).conditions _ _ w, lawful.a_task_each, prep.variables)

    -- .. and hold, so what leaves their values has a rank
    pub chosen_ranked : (j : ℕ) → j < get_or manys i 0 → get_or steps (entry_at file (get_or places i 0 + 3 * j)) 0 < length ranks + 2
    chosen_ranked j h = rw (chosen_looks.hold j h) at (has_rank _ (chosen_known j h)).ranked

    -- the open ranks are right for the next state too
    pub right_stays :
        {opened waiting : List ℕ} → OpenRight ranks file places manys steps wants state opened waiting n
        → {room₁ held₁ : List ℕ} → Guarded file vars places manys steps (set state (get_or vars i 0) (get_or posts i 0)) ranks room₁ n held₁
        → {opened₁ opened₂ opened₃ opened₄ : List ℕ} → Removed (get_or ranks i 0) opened opened₁
        → Joined (Freed file (get_or places i 0) (get_or manys i 0) ranks steps (lowered_all file (get_or places i 0) (get_or manys i 0) wants)) opened₁ opened₂
        → Joined
        (Opens ranks steps (lowered_all file (get_or places i 0) (get_or manys i 0) wants) (set state (get_or vars i 0) (get_or posts i 0)) (get_or vars i 0))
        opened₂ opened₃
        → Joined (Woken (get_or waiting (get_or vars i 0) 0) ranks steps (set state (get_or vars i 0) (get_or posts i 0))) opened₃ opened₄
        → OpenRight ranks file places manys steps (lowered_all file (get_or places i 0) (get_or manys i 0) wants) (set state (get_or vars i 0) (get_or posts i 0))
        opened₄ (set waiting (get_or vars i 0) 0) n
    right_stays right after = right_goes_on guards right chosen_within chosen_looks chosen_lowerable chosen_known (get_or posts i 0) after

    pub room_left : k < total → k < 256
    room_left h = let (t, prep) = under.some in omega (arith, total_few prep)

    pub goes_on :
        k < total
        → Underway file ranks n total vars posts places manys steps wants₀ state₀
        (lowered_all file (get_or places i 0) (get_or manys i 0) wants) (set state (get_or vars i 0) (get_or posts i 0)) (set room (256 + k) i) (set held (get_or vars i 0) 0) (k + 1)
    goes_on h = record {
      some = under.some;
      within = omega arith;
      wants_long = lowered_length file (get_or places i 0) (get_or manys i 0) wants ∙ under.wants_long;
      room_long = length-set room (256 + k) i ∙ under.room_long;
      by_rank = λ j b.
          let e = under.by_rank j b in
          (e.0, get_or-set_other room (256 + k) (get_or ranks j 0) i 0 (λ f. omega (arith, e.0)) ∙ e.1);
      held_long = length-set held (get_or vars i 0) 0 ∙ under.held_long;
      going = λ t prep.
          rw (add-one k, drop-set-add 256 room k i, take-suc-set (drop 256 room) k i (omega (arith, room_left h, length-drop 256 room, under.room_long)), own_var prep, own_post prep)
          (one_more prep (under.going t prep) (chosen_ready prep) under.wants_long under.held_long (chosen_least prep));
    }
