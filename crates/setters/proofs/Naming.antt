-- What filling the table of setters comes to: where each action in force is named at a place, none repeats an earlier one.
-- Assumes nothing.
use mathlib.Core.Path.{◌≡◌, sym, ◌∙◌}
use mathlib.Core.Bool.{false≢true}
use mathlib.Core.List.{List}
use Prim.Native.Nat.{ℕ, ◌+◌, ◌*◌, ◌<◌}
use native.Mathlib.Omega.{arith}
use lib.ListN.{length, replicate}
use Rattle.std.specs.Prelude.{Some, None}
use Rattle.bits.proofs.Words.{bit_zero}
use Rattle.bits.proofs.Members.{zero_words}
use Rattle.study.specs.Study.{Action, action_at}
use Rattle.study.proofs.Repeats.{RepeatsAt, first_that_repeats, nobody_repeats}
use Rattle.tables.specs.Tables.{ActionTables, action_tables, HoldsActions, NamesSetters}
use Rattle.setters.specs.Filling.{Marks, Filled}

-- where the table names an action
abbrev pub place_of : Action → ℕ
place_of a = 16 * a.var + a.post

-- where each action in force is named, none repeats an earlier one: one place names one action
pub named_once :
    {situation n : ℕ} (setters : List ℕ) {actions : List Action}
    → NamesSetters situation n setters actions → (i : ℕ) → i < n → RepeatsAt situation actions i → ⊥
named_once setters {actions} names i h r =
    let here = names i h r.in_force_lem in
    let there = names r.earlier (omega (arith, r.before)) r.earlier_in_force in
    let same : place_of (action_at actions r.earlier) ≡ place_of (action_at actions i) = rw (r.same_var, r.same_post) in
    omega (arith, r.before, rw same at there, here)

-- nothing is set among none
pub none_marked : (situation : ℕ) (actions : List Action) → Marks situation 0 (replicate 32 0) actions
none_marked situation actions = record {
  sets = λ v q e. absurd (false≢true (sym (rw (zero_words 32 v) (bit_zero q)) ∙ e));
  marked = λ v q k s. absurd (omega (arith, s.before));
}

module _ {file : List ℕ} {situation n : ℕ} {t : ActionTables} {actions : List Action} (holds : HoldsActions file situation n t actions) where
  -- the rows hold the actions beside any table of setters
  pub beside : (other : List ℕ) → HoldsActions file situation n (action_tables other t.vars t.pres t.posts t.places t.manys t.outs) actions
  beside other = record {
    count = holds.count;
    few = holds.few;
    action = λ i h.
        let a = holds.action i h in
        record { var = a.var; pre = a.pre; post = a.post; low = a.low; narrow = a.narrow; force = a.force; conditions = a.conditions };
  }

-- the first that repeats, where those before it are named
pub one_repeats :
    {situation n i : ℕ} {actions : List Action} (before setters : List ℕ) → NamesSetters situation i before actions
    → RepeatsAt situation actions i → Filled situation n actions setters (Some i)
one_repeats {situation} {actions = actions} before setters names r = record {
  repeats = λ k e. rw (first_that_repeats situation r (named_once before names)) cc;
  none_repeats = λ e. cc;
  long = λ e. cc;
  names = λ e. cc;
}

-- .. and all of them named
pub none_repeats :
    {situation n : ℕ} {actions : List Action} (setters : List ℕ) → n ≡ length actions → length setters ≡ 512
    → NamesSetters situation n setters actions → Filled situation n actions setters None
none_repeats {situation} setters count long names = record {
  repeats = λ k e. cc;
  none_repeats = λ _. nobody_repeats situation (λ k r. named_once setters names k (rw count r.there) r);
  long = λ _. long;
  names = λ _. names;
}
