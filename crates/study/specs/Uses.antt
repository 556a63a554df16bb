-- Which variables are used: those that an action changes, and those that a condition of one names, in force or not.
-- Assumes nothing.
use Rattle.std.specs.Prelude.{ℕ, zero, suc, Bool, false, ◌||◌, List, [], ◌∷◌, eqb, length}
use Rattle.std.proofs.Math.Option.{Option, none, some}
use Rattle.plain.specs.Choose.{pick}
use Rattle.study.specs.Study.{Condition, Action, Study}

-- some condition of the list names the variable
unfoldable pub named : List Condition → ℕ → Bool
named [] v = false
named (c ∷ rest) v = eqb c.var v || named rest v

-- the action changes the variable, or one of its conditions names it
abbrev pub uses_it : Action → ℕ → Bool
uses_it a v = eqb a.var v || named a.conditions v

-- some action of the list changes the variable, or a condition of one names it
unfoldable pub uses : List Action → ℕ → Bool
uses [] v = false
uses (a ∷ rest) v = uses_it a v || uses rest v

-- the lowest variable that no action uses, of so many from one on
unfoldable pub unused_from : List Action → ℕ → ℕ → Option ℕ
unused_from actions v zero = none
unused_from actions v (suc n) = pick (uses actions v) (unused_from actions (suc v) n) (some v)

-- the lowest variable that no action uses
abbrev pub first_unused : Study → Option ℕ
first_unused s = unused_from s.actions 0 (length s.counts)
