-- Which action in force sets a value: what the table of setters names there, where that action does set it.
-- Assumes nothing.
use mathlib.Core.Path.{◌≡◌, sym, ◌∙◌}
use mathlib.Core.Bool.{true, false, ◌&&◌, and-eq-true_iff, true≢false}
use mathlib.Core.List.{List}
use Prim.Native.Nat.{ℕ, ◌+◌, ◌*◌, ◌≤◌, ◌<◌}
use native.Mathlib.Omega.{arith}
use lib.Dec.{eqb}
use lib.ListN.{length, get_or}
use borrow.Author.Tests.{eqb-true, eq-eqb}
use Rattle.study.specs.Study.{Study}
use Rattle.plans.specs.Plans.{Usable}
use Rattle.walks.specs.Walks.{var_of, post_of}
use Rattle.tracing.specs.Facts.{NamesUsable, Moves}
use Rattle.tracing.specs.Steps.{SetterIs}
use Rattle.std.specs.Prelude.{Some, None}

-- the table names any action in force for the value that it sets
pub names_usable :
    {a : ℕ} (setters : List ℕ) {t : Study} → a ≡ length t.actions → NamesUsable a setters t
    → {v q : ℕ} (i : ℕ) → Usable t i → var_of t i ≡ v → post_of t i ≡ q → get_or setters (16 * v + q) 0 ≡ i
names_usable setters actions names i u e f = rw (← e, ← f) (names i (omega (arith, actions, u.there)) u.in_force_lem)

module _ {actions : ℕ} {setters vars pres posts outs : List ℕ} {t : Study} (moves : Moves actions setters vars pres posts outs t) {v q i : ℕ}
    (named : i ≡ get_or setters (16 * v + q) 0) where
  names_it : (j : ℕ) → Usable t j → var_of t j ≡ v → post_of t j ≡ q → i ≡ j
  names_it j u e f = named ∙ names_usable setters moves.actions moves.names j u e f

  pub none_named : actions ≤ i → SetterIs t v q None
  none_named h j u e f = omega (arith, moves.actions, u.there, names_it j u e f)

  module _ (there : i < actions) where
    pub is_setter : (eqb (get_or vars i 0) v && (eqb (get_or posts i 0) q && eqb (get_or outs i 0) 0)) ≡ true → SetterIs t v q (Some i)
    is_setter e =
        let (own, rest) = (and-eq-true_iff (eqb (get_or vars i 0) v) (eqb (get_or posts i 0) q && eqb (get_or outs i 0) 0)).0 e in
        let (value, force) = (and-eq-true_iff (eqb (get_or posts i 0) q) (eqb (get_or outs i 0) 0)).0 rest in (
          record { there = omega (arith, moves.actions); in_force_lem = sym (moves.tells_force i there) ∙ force },
          sym (moves.tells_var i there) ∙ eqb-true (get_or vars i 0) v own,
          sym (moves.tells_post i there) ∙ eqb-true (get_or posts i 0) q value,
        )

    pub other_set : (eqb (get_or vars i 0) v && (eqb (get_or posts i 0) q && eqb (get_or outs i 0) 0)) ≡ false → SetterIs t v q None
    other_set e j u f g = true≢false (sym sets ∙ e)
      where
        sets : (eqb (get_or vars i 0) v && (eqb (get_or posts i 0) q && eqb (get_or outs i 0) 0)) ≡ true
        sets =
            rw (
              moves.tells_var i there,
              moves.tells_post i there,
              moves.tells_force i there,
              names_it j u f g,
              eq-eqb (var_of t j) v f,
              eq-eqb (post_of t j) q g,
              u.in_force_lem,
            )
