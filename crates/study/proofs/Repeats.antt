-- Which action is the first that repeats an earlier one: said by the numbers of the two.
-- Assumes nothing.
use mathlib.Core.Path.{◌≡◌, refl, sym, ap, ◌∙◌, subst}
use mathlib.Core.Bool.{Bool, true, false, ◌&&◌, and-eq-true_iff, false≢true}
use mathlib.Core.Option.{Option, none, some}
use mathlib.Core.List.{List, [], ◌∷◌, ◌++◌}
use Prim.Native.Nat.{ℕ, zero, suc, ◌+◌, ◌≤◌, ◌<◌}
use native.Mathlib.Omega.{arith}
use native.Mathlib.Decide.{ℕ_discrete, dec_lt}
use lib.ListN.{length, get_or, length-append, get_or-append}
use lib.Seq.{append_snoc, get_or-append_seam}
use Rattle.plain.specs.Choose.{pick}
use Rattle.plain.proofs.Lists.{length_more}
use Rattle.study.specs.Study.{Action, no_action, in_force, action_at}
use Rattle.study.specs.Reading.{sets, repeat_from}
use Rattle.study.proofs.Setters.{SetsAt, one_sets, who_sets}

-- action k is in force and sets what an earlier one, in force too, sets
pub record RepeatsAt (situation : ℕ) (actions : List Action) (k : ℕ) : Type 0 where
  pub there : k < length actions
  pub in_force_lem : in_force situation (action_at actions k) ≡ true
  pub earlier : ℕ
  pub before : earlier < k
  pub earlier_in_force : in_force situation (action_at actions earlier) ≡ true
  pub same_var : (action_at actions earlier).var ≡ (action_at actions k).var
  pub same_post : (action_at actions earlier).post ≡ (action_at actions k).post

-- what looking for the first repeat from action n on comes to
pub data Repeat (situation : ℕ) (actions : List Action) (n : ℕ) : Option ℕ → Type 0 where
  nowhere : ((k : ℕ) → n ≤ k → RepeatsAt situation actions k → ⊥) → Repeat situation actions n none
  first_at :
      (k : ℕ) → n ≤ k → RepeatsAt situation actions k → ((i : ℕ) → n ≤ i → i < k → RepeatsAt situation actions i → ⊥)
      → Repeat situation actions n (some k)

abbrev IsNone : Option ℕ → Type 0
IsNone none = Unit {0}
IsNone (some k) = ⊥

module _ (situation : ℕ) where
  module _ (earlier : List Action) (a : Action) (rest : List Action) where
    here : action_at (earlier ++ a ∷ rest) (length earlier) ≡ a
    here = get_or-append_seam earlier a rest no_action

    older : (i : ℕ) → i < length earlier → action_at (earlier ++ a ∷ rest) i ≡ action_at earlier i
    older i h = get_or-append earlier (a ∷ rest) no_action i h

    abbrev test : Bool
    test = in_force situation a && sets situation earlier a.var a.post

    repeats_here : test ≡ true → RepeatsAt situation (earlier ++ a ∷ rest) (length earlier)
    repeats_here e =
        let t = (and-eq-true_iff (in_force situation a) (sets situation earlier a.var a.post)).0 e in
        let (j, s) = who_sets situation earlier a.var a.post t.1 in
        record {
          there = omega (arith, length-append earlier (a ∷ rest));
          in_force_lem = rw here t.0;
          earlier = j;
          before = s.there;
          earlier_in_force = rw (older j s.there) s.in_force_lem;
          same_var = rw (older j s.there, here) s.var;
          same_post = rw (older j s.there, here) s.post;
        }

    here_tested : RepeatsAt situation (earlier ++ a ∷ rest) (length earlier) → test ≡ true
    here_tested r =
        (and-eq-true_iff (in_force situation a) (sets situation earlier a.var a.post)).1 (
          rw here at r.in_force_lem,
          one_sets situation earlier a.var a.post r.earlier (record {
            there = r.before;
            in_force_lem = rw (older r.earlier r.before) at r.earlier_in_force;
            var = rw (older r.earlier r.before, here) at r.same_var;
            post = rw (older r.earlier r.before, here) at r.same_post;
          }),
        )

  -- what is so from the next action on is so from this one on, if this one does not repeat
  one_back :
      {actions : List Action} {n : ℕ} {found : Option ℕ} → (RepeatsAt situation actions n → ⊥)
      → Repeat situation actions (suc n) found → Repeat situation actions n found
  one_back {actions} {n} not-here (nowhere none-later) = nowhere (λ k h r. later k r h (ℕ_discrete n k))
    where
      later : (k : ℕ) → RepeatsAt situation actions k → n ≤ k → Dec (n ≡ k) → ⊥
      later k r h (yes e) = not-here (subst (RepeatsAt situation actions) (sym e) r)
      later k r h (no d) = none-later k (omega (arith, d)) r
  one_back {actions} {n} not-here (first_at k h r none_between) = first_at k (omega arith) r (λ i h less r. later i r h less (ℕ_discrete n i))
    where
      later : (i : ℕ) → RepeatsAt situation actions i → n ≤ i → i < k → Dec (n ≡ i) → ⊥
      later i r h less (yes e) = not-here (subst (RepeatsAt situation actions) (sym e) r)
      later i r h less (no d) = none_between i (omega (arith, d)) less r

  from_here :
      (earlier : List Action) (a : Action) (rest : List Action) (b : Bool) → test earlier a rest ≡ b
      → Repeat situation (earlier ++ a ∷ rest) (suc (length earlier)) (repeat_from situation (earlier ++ (a ∷ [])) rest)
      → Repeat situation (earlier ++ a ∷ rest) (length earlier) (pick b (some (length earlier)) (repeat_from situation (earlier ++ (a ∷ [])) rest))
  from_here earlier a rest true e on = first_at (length earlier) (omega arith) (repeats_here earlier a rest e) (λ i h less r. omega arith)
  from_here earlier a rest false e on = one_back (λ r. false≢true (sym e ∙ here_tested earlier a rest r)) on

  from :
      (earlier rest actions : List Action) → earlier ++ rest ≡ actions → Repeat situation actions (length earlier) (repeat_from situation earlier rest)
  unfolding repeat_from
  from earlier [] actions e = nowhere (λ k h r. omega (arith, r.there, ap length (sym e), length-append earlier []))
  from earlier (a ∷ rest) actions e =
      subst (λ (l : List Action). Repeat situation l (length earlier) (pick (test earlier a rest) (some (length earlier)) (repeat_from situation (earlier ++ (a ∷ [])) rest))) e
      (from_here earlier a rest (test earlier a rest) refl
      (rw (← length_more earlier a) (from (earlier ++ (a ∷ [])) rest (earlier ++ a ∷ rest) (append_snoc earlier a rest))))

  pub first_repeat_lem : (actions : List Action) → Repeat situation actions 0 (repeat_from situation [] actions)
  first_repeat_lem actions = from [] actions actions refl

  -- nothing repeats
  pub none_repeats : {actions : List Action} → repeat_from situation [] actions ≡ none → (k : ℕ) → RepeatsAt situation actions k → ⊥
  none_repeats {actions} e k r = go (repeat_from situation [] actions) e (first_repeat_lem actions)
    where
      go : (found : Option ℕ) → found ≡ none → Repeat situation actions 0 found → ⊥
      go none e (nowhere nobody) = nobody k (omega arith) r
      go (some _) e (first_at j h s between) = subst IsNone (sym e) tt

  pub nobody_repeats : {actions : List Action} → ((k : ℕ) → RepeatsAt situation actions k → ⊥) → repeat_from situation [] actions ≡ none
  nobody_repeats {actions} nobody = go (repeat_from situation [] actions) (first_repeat_lem actions)
    where
      go : (found : Option ℕ) → Repeat situation actions 0 found → found ≡ none
      go none (nowhere h) = refl
      go (some _) (first_at j h s between) = absurd (nobody j s)

  pub first_that_repeats :
      {actions : List Action} {k : ℕ} → RepeatsAt situation actions k → ((i : ℕ) → i < k → RepeatsAt situation actions i → ⊥)
      → repeat_from situation [] actions ≡ some k
  first_that_repeats {actions} {k} r none_before = go (repeat_from situation [] actions) (first_repeat_lem actions)
    where
      go : (found : Option ℕ) → Repeat situation actions 0 found → found ≡ some k
      go none (nowhere nobody) = absurd (nobody k (omega arith) r)
      go (some _) (first_at j h s between) = ap some (same (dec_lt j k) (dec_lt k j))
        where
          same : Dec (j < k) → Dec (k < j) → j ≡ k
          same (yes less) more = absurd (none_before j less s)
          same (no _) (yes more) = absurd (between k (omega arith) more r)
          same (no less) (no more) = omega (arith, less, more)
