-- What filling the table of setters comes to: each action in force is named for the value that it sets, or one repeats an earlier one.
-- Assumes nothing.
use Rattle.std.specs.Prelude.{ℕ, ◌+◌, ◌<◌, ◌≡◌, Bool, true, false, List, [], length, get_or, Option, Some, None}
use Rattle.std.proofs.Math.Option.{none, some}
use Rattle.bits.specs.Bits.{bit}
use Rattle.study.specs.Study.{Action, in_force, action_at}
use Rattle.study.specs.Reading.{repeat_from}
use Rattle.study.proofs.Repeats.{RepeatsAt}
use Rattle.tables.specs.Tables.{NamesSetters}

-- action k, one of the first n, is in force and sets the variable to the value
pub record SetsBefore (situation : ℕ) (actions : List Action) (n v q k : ℕ) : Type 0 where
  pub before : k < n
  pub in_force_lem : in_force situation (action_at actions k) ≡ true
  pub var : (action_at actions k).var ≡ v
  pub post : (action_at actions k).post ≡ q

-- the values that the first n actions set are marked, for each variable as bits of its word, and no others are
pub record Marks (situation n : ℕ) (marks : List ℕ) (actions : List Action) : Type 0 where
  pub sets : (v q : ℕ) → bit (get_or marks v 0) q ≡ true → (k : ℕ) × SetsBefore situation actions n v q k
  pub marked : (v q k : ℕ) → SetsBefore situation actions n v q k → bit (get_or marks v 0) q ≡ true

-- the first n actions are named, and what they set is marked
pub record Kept (situation n : ℕ) (setters marks : List ℕ) (actions : List Action) : Type 0 where
  pub named : NamesSetters situation n setters actions
  pub noted : Marks situation n marks actions

-- so are the actions up to this one, if those before it were; or it repeats one of them
pub record Named (situation : ℕ) (actions : List Action) (i : ℕ) (before marks after marks' : List ℕ) (r : Bool) : Type 0 where
  pub names : r ≡ true → Kept situation i before marks actions → (length after ≡ 512) × Kept situation (i + 1) after marks' actions
  pub repeats : r ≡ false → Kept situation i before marks actions → RepeatsAt situation actions i

-- all n actions are named and none repeats; or action k is the first that does
pub record Filled (situation n : ℕ) (actions : List Action) (setters : List ℕ) (r : Option ℕ) : Type 0 where
  pub repeats : (k : ℕ) → r ≡ Some k → repeat_from situation [] actions ≡ some k
  pub none_repeats : r ≡ None → repeat_from situation [] actions ≡ none
  pub long : r ≡ None → length setters ≡ 512
  pub names : r ≡ None → NamesSetters situation n setters actions
