-- The tables of actions with one action more, and with one action changed.
-- Assumes nothing.
use mathlib.Core.Path.{◌≡◌, refl, sym, ◌∙◌}
use mathlib.Core.Logic.{◌≢◌}
use mathlib.Core.Bool.{true}
use mathlib.Core.List.{List, [], ◌∷◌, ◌++◌}
use Prim.Native.Nat.{ℕ, zero, suc, ◌+◌, ◌/◌, ◌%◌, ◌≤◌, ◌<◌}
use native.Mathlib.Omega.{arith}
use native.Mathlib.Decide.{ℕ_discrete}
use lib.Dec.{eqb}
use lib.ListN.{length, get_or, set, length-set, get_or-append}
use lib.Seq.{get_or-set_same, get_or-set_other, get_or_at}
use Rattle.plain.proofs.Lists.{length_more}
use Rattle.bits.specs.Bits.{bit}
use Rattle.study.specs.Study.{Action, always, in_force, action_at, no_action}
use Rattle.tables.specs.Tables.{ActionTables, Tables, action_tables, Sized, HoldsConditions, HoldsAction, HoldsActions}
use Rattle.advancing.specs.Steps.{with_many}
use Rattle.standing.proofs.Grows.{each_next, set_below}

abbrev pub one_action : ActionTables → (i v x y next : ℕ) → ActionTables
one_action t i v x y next =
    action_tables t.setters (set t.vars i v) (set t.pres i x) (set t.posts i y) (set t.places i next) (set t.manys i 0) (set t.outs i 0)

-- a set of all eight situations has each of them
all_situations : (s : ℕ) → s ≤ 7 → bit always s ≡ true
unfolding bit
all_situations zero h = refl
all_situations (suc zero) h = refl
all_situations (suc (suc zero)) h = refl
all_situations (suc (suc (suc zero))) h = refl
all_situations (suc (suc (suc (suc zero)))) h = refl
all_situations (suc (suc (suc (suc (suc zero))))) h = refl
all_situations (suc (suc (suc (suc (suc (suc zero)))))) h = refl
all_situations (suc (suc (suc (suc (suc (suc (suc zero))))))) h = refl
all_situations (suc (suc (suc (suc (suc (suc (suc (suc s)))))))) h = absurd (omega arith)

always-in_force : (situation : ℕ) → situation ≤ 7 → (a : Action) → a.situations ≡ always → in_force situation a ≡ true
unfolding in_force
always-in_force situation known a e = rw e (all_situations situation known)

module _ {file : List ℕ} {situation n : ℕ} {t : Tables} {actions : List Action} (sized : Sized t) (holds : HoldsActions file situation n t.acts actions) where
  pub actions_more :
      (v x y next : ℕ)
      → n < 256 → v < 32 → y < 16 → situation ≤ 7 → next ≤ length file
      → HoldsActions file situation (n + 1) (one_action t.acts n v x y next) (actions ++ (record { var = v; pre = x; post = y; conditions = []; situations = always } ∷ []))
  actions_more v x y next few low narrow known room = record {
    count = omega (arith, length_more actions new);
    few = omega arith;
    action =
        each_next (λ i. HoldsAction file situation after i (action_at (actions ++ (new ∷ [])) i)) n
        (λ i h. rw (get_or-append actions (new ∷ []) no_action i (omega arith)) (older i h))
        (rw (get_or_at actions new [] no_action n (sym holds.count)) newest);
  }
    where
      new : Action
      new = record { var = v; pre = x; post = y; conditions = []; situations = always }

      after : ActionTables
      after = one_action t.acts n v x y next

      stays : (table : List ℕ) (z i : ℕ) → i < n → get_or (set table n z) i 0 ≡ get_or table i 0
      stays table z i h = set_below table n i z 0 h

      is : (table : List ℕ) (z : ℕ) → length table ≡ 256 → get_or (set table n z) n 0 ≡ z
      is table z size = get_or-set_same table n z 0 (omega arith)

      older : (i : ℕ) → i < n → HoldsAction file situation after i (action_at actions i)
      older i h = let old = holds.action i h in record {
        var = stays t.acts.vars v i h ∙ old.var;
        pre = stays t.acts.pres x i h ∙ old.pre;
        post = stays t.acts.posts y i h ∙ old.post;
        low = old.low;
        narrow = old.narrow;
        force = rw (stays t.acts.outs 0 i h) old.force;
        conditions = rw (stays t.acts.places next i h, stays t.acts.manys 0 i h) old.conditions;
      }

      newest : HoldsAction file situation after n new
      newest = record {
        var = is t.acts.vars v sized.vars;
        pre = is t.acts.pres x sized.pres;
        post = is t.acts.posts y sized.posts;
        low = low;
        narrow = narrow;
        force = rw (is t.acts.outs 0 sized.outs) (sym (always-in_force situation known new refl));
        conditions =
            rw (is t.acts.places next sized.places, is t.acts.manys 0 sized.manys)
            (record { count = refl; room = omega arith; var = λ k h. absurd (omega arith); value = λ k h. absurd (omega arith) });
      }

  -- the byte of an action's row that tells its conditions and whether it is in force, and the action with them
  pub action_changed :
      (k byte : ℕ) (new : Action)
      → k < n
      → new.var ≡ (action_at actions k).var → new.pre ≡ (action_at actions k).pre → new.post ≡ (action_at actions k).post
      → eqb (byte / 64) 0 ≡ in_force situation new
      → HoldsConditions file (get_or t.acts.places k 0) (byte % 64) new.conditions
      → HoldsActions file situation n (with_many t.acts k byte) (set actions k new)
  action_changed k byte new h same_var same-pre same_post force conditions = record {
    count = holds.count ∙ sym (length-set actions k new);
    few = holds.few;
    action = λ i g. from i g (ℕ_discrete i k);
  }
    where
      after : ActionTables
      after = with_many t.acts k byte

      old : HoldsAction file situation t.acts k (action_at actions k)
      old = holds.action k h

      changed : HoldsAction file situation after k new
      changed = record {
        var = old.var ∙ sym same_var;
        pre = old.pre ∙ sym same-pre;
        post = old.post ∙ sym same_post;
        low = rw same_var old.low;
        narrow = rw same_post old.narrow;
        force = rw (get_or-set_same t.acts.outs k (byte / 64) 0 (omega (arith, sized.outs, holds.few))) force;
        conditions = rw (get_or-set_same t.acts.manys k (byte % 64) 0 (omega (arith, sized.manys, holds.few))) conditions;
      }

      other : (i : ℕ) → i ≢ k → HoldsAction file situation t.acts i (action_at actions i) → HoldsAction file situation after i (action_at actions i)
      other i ne same = record {
        var = same.var;
        pre = same.pre;
        post = same.post;
        low = same.low;
        narrow = same.narrow;
        force = rw (get_or-set_other t.acts.outs k i (byte / 64) 0 ne) same.force;
        conditions = rw (get_or-set_other t.acts.manys k i (byte % 64) 0 ne) same.conditions;
      }

      from : (i : ℕ) → i < n → Dec (i ≡ k) → HoldsAction file situation after i (action_at (set actions k new) i)
      from i g (yes e) = rw (e, get_or-set_same actions k new no_action (omega (arith, holds.count))) changed
      from i g (no ne) = rw (get_or-set_other actions k i new no_action ne) (other i ne (holds.action i g))
