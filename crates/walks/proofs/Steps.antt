-- The steps of a run: which of them lead a variable on, who set a value that a step wants, and that a value once left is wanted no more.
-- Assumes nothing.
use mathlib.Core.Path.{◌≡◌, refl, sym, ap, ◌∙◌}
use mathlib.Core.Logic.{◌⊎◌, inl, inr, ◌≢◌}
use mathlib.Core.List.{List, [], ◌∷◌}
use Prim.Native.Nat.{ℕ}
use native.Mathlib.Omega.{arith}
use native.Mathlib.Decide.{ℕ_discrete}
use lib.ListN.{length}
use Rattle.study.specs.Study.{Study, action_at}
use Rattle.lawful.specs.Lawful.{Lawful}
use Rattle.plans.specs.Plans.{State, value_of, after, Usable, Runs, NeverHeld, NoneAgain}
use Rattle.orders.specs.Orders.{In}
use Rattle.walks.specs.Walks.{var_of, post_of, conditions_of, Leads, Wants}
use Rattle.plans.proofs.States.{after_own, after_other, after-length}
use Rattle.walks.proofs.Wanted.{wanted_holds}

pub runs_usable : (t : Study) (s : State) (xs : List ℕ) (e : State) → Runs t s xs e → (i : ℕ) → In i xs → Usable t i
runs_usable t s [] e r i h = absurd h
runs_usable t s (x ∷ xs) e (u, may, r) i (inl f) = rw f u
runs_usable t s (x ∷ xs) e (u, may, r) i (inr h) = runs_usable t (after s (action_at t.actions x)) xs e r i h

-- no step of the list sets a value that was held before the list began
pub none_again_in :
    (t : Study) (past : List State) (s : State) (xs : List ℕ) → NoneAgain t past s xs
    → (i : ℕ) → In i xs → NeverHeld (s ∷ past) (var_of t i) (post_of t i)
none_again_in t past s [] n i h = absurd h
none_again_in t past s (x ∷ xs) (never, n) i (inl f) = rw f never
none_again_in t past s (x ∷ xs) (never, n) i (inr h) = (none_again_in t (s ∷ past) (after s (action_at t.actions x)) xs n i h).1

-- after a step the variable has what the step sets, or the step is on another variable and it has what it had
pub data Then (t : Study) (s : State) (x v : ℕ) : Type 0 where
  own : var_of t x ≡ v → value_of (after s (action_at t.actions x)) v ≡ post_of t x → Then t s x v
  other : var_of t x ≢ v → value_of (after s (action_at t.actions x)) v ≡ value_of s v → Then t s x v

-- the steps of a run that are on one variable
pub record StepsOn (t : Study) (v : ℕ) (s : State) (xs : List ℕ) (e : State) : Type 0 where
  pub list : List ℕ
  pub leads : Leads t v (value_of s v) list (value_of e v)
  pub all : (i : ℕ) → In i xs → var_of t i ≡ v → In i list
  pub only : (i : ℕ) → In i list → In i xs × (var_of t i ≡ v)

-- one among some sets the variable to the value
pub record Setter (t : Study) (among : ℕ → Type 0) (v q : ℕ) : Type 0 where
  pub by : ℕ
  pub one : among by
  pub var : var_of t by ≡ v
  pub post : post_of t by ≡ q

pub setter_more : {t : Study} {P Q : ℕ → Type 0} {v q : ℕ} → ((y : ℕ) → P y → Q y) → Setter t P v q → Setter t Q v q
setter_more f w = record { by = w.by; one = f w.by w.one; var = w.var; post = w.post }

module _ {t : Study} (lawful : Lawful t) where
  pub then_own :
      (s : State) → length s ≡ length t.tasks → (x : ℕ) → Usable t x
      → value_of (after s (action_at t.actions x)) (var_of t x) ≡ post_of t x
  then_own s full x u = after_own s (action_at t.actions x) (omega (arith, (lawful.action x u.there).has_pre.there, lawful.a_task_each))

  pub then : (s : State) → length s ≡ length t.tasks → (x : ℕ) → Usable t x → (v : ℕ) → Then t s x v
  then s full x u v = from (ℕ_discrete (var_of t x) v)
    where
      from : Dec (var_of t x ≡ v) → Then t s x v
      from (yes e) = own e (rw (← e) (then_own s full x u))
      from (no o) = other o (after_other s (action_at t.actions x) v (λ f. o (sym f)))

  pub steps_on : (v : ℕ) (s : State) → length s ≡ length t.tasks → (xs : List ℕ) (e : State) → Runs t s xs e → StepsOn t v s xs e
  steps_on v s full [] e r = record { list = []; leads = ap (λ (z : State). value_of z v) r; all = λ i h f. h; only = λ i h. absurd h }
  steps_on v s full (x ∷ xs) e (u, may, r) =
      from (then s full x u v) (steps_on v (after s (action_at t.actions x)) (after-length s (action_at t.actions x) ∙ full) xs e r)
    where
      from : Then t s x v → StepsOn t v (after s (action_at t.actions x)) xs e → StepsOn t v s (x ∷ xs) e
      from (own d p) w = record {
        list = x ∷ w.list;
        leads = (u, (d, (sym may.pre ∙ ap (value_of s) d, rw p at w.leads)));
        all = λ i h f. elim h [ inl g ↦ inl g | inr g ↦ inr (w.all i g f) ];
        only = λ i h. elim h [ inl g ↦ (inl g, rw g d) | inr g ↦ (inr (w.only i g).0, (w.only i g).1) ];
      }
      from (other o p) w = record {
        list = w.list;
        leads = rw p at w.leads;
        all = λ i h f. elim h [ inl g ↦ absurd (o (rw (← g) f)) | inr g ↦ w.all i g f ];
        only = λ i h. (inr (w.only i h).0, (w.only i h).1);
      }

  -- what a step wants was so from the beginning, or was set
  pub wanted_set :
      (v q : ℕ) (s : State) → length s ≡ length t.tasks → (xs : List ℕ) (e : State) → Runs t s xs e
      → (i : ℕ) → In i xs → Wants (conditions_of t i) v q → (value_of s v ≡ q) ⊎ Setter t (λ y. In y xs) v q
  wanted_set v q s full [] e r i h w = absurd h
  wanted_set v q s full (x ∷ xs) e (u, may, r) i (inl f) w = inl (wanted_holds s (conditions_of t x) may.conditions v q (rw f at w))
  wanted_set v q s full (x ∷ xs) e (u, may, r) i (inr h) w =
      from (then s full x u v) (wanted_set v q (after s (action_at t.actions x)) (after-length s (action_at t.actions x) ∙ full) xs e r i h w)
    where
      from : Then t s x v → (value_of (after s (action_at t.actions x)) v ≡ q) ⊎ Setter t (λ y. In y xs) v q
          → (value_of s v ≡ q) ⊎ Setter t (λ y. In y (x ∷ xs)) v q
      from (own d p) (inl g) = inr (record { by = x; one = inl refl; var = d; post = sym p ∙ g })
      from (other o p) (inl g) = inl (sym p ∙ g)
      from c (inr g) = inr (setter_more (λ y k. inr k) g)

  -- where no step sets a value again, one that was held and left is wanted by no step that follows
  pub left_not_wanted :
      (v q : ℕ) (past : List State) (s : State) → length s ≡ length t.tasks → (xs : List ℕ) (e : State)
      → Runs t s xs e → NoneAgain t past s xs → (NeverHeld past v q → ⊥) → value_of s v ≢ q
      → (i : ℕ) → In i xs → Wants (conditions_of t i) v q → ⊥
  left_not_wanted v q past s full [] e r n held left i h w = h
  left_not_wanted v q past s full (x ∷ xs) e (u, may, r) n held left i (inl f) w =
      left (wanted_holds s (conditions_of t x) may.conditions v q (rw f at w))
  left_not_wanted v q past s full (x ∷ xs) e (u, may, r) (never, n) held left i (inr h) w =
      left_not_wanted v q (s ∷ past) (after s (action_at t.actions x)) (after-length s (action_at t.actions x) ∙ full) xs e r n
      (λ m. held m.1) (from (then s full x u v)) i h w
    where
      from : Then t s x v → value_of (after s (action_at t.actions x)) v ≢ q
      from (own d p) g = held (rw (d, sym p ∙ g) at never.1)
      from (other o p) g = left (sym p ∙ g)
