-- The order between two actions, by the first rule that applies, as a row.
-- Assumes nothing.
use mathlib.Core.Path.{◌≡◌, sym, ◌∙◌}
use mathlib.Core.Bool.{true, false, ◌&&◌}
use mathlib.Core.List.{List}
use Prim.Native.Nat.{ℕ}
use native.Mathlib.Decide.{ℕ_discrete}
use lib.Dec.{eqb}
use borrow.Author.Tests.{eq-eqb, ne_eqb}
use Rattle.study.specs.Study.{Study}
use Rattle.tables.specs.declared.Act.{Act}
use Rattle.walks.specs.Walks.{var_of, pre_of, post_of, conditions_of}
use Rattle.wanting.specs.Wanting.{wants}
use Rattle.facts.specs.declared.Fact.TheVariants.{Ring}
use Rattle.facts.specs.declared.Rule.TheVariants.{Next, Sets, Leaves}
use Rattle.explained.specs.Facts.{row_of}
use Rattle.explained.specs.Rings.{order_fact}
use Rattle.ringing.specs.Stranded.{Opened}

module _ {file : List ℕ} {one other : Act} {t : Study} {i j : ℕ} (is-i : Opened file one t i) (is-j : Opened file other t j) where
  sets_left : one.var ≡ other.var → one.post ≡ other.pre → (eqb (var_of t i) (var_of t j) && eqb (post_of t i) (pre_of t j)) ≡ true
  sets_left e f =
      rw (
        eq-eqb (var_of t i) (var_of t j) (sym is-i.is_var ∙ e ∙ is-j.is_var),
        eq-eqb (post_of t i) (pre_of t j) (sym is-i.is_post ∙ f ∙ is-j.is_pre),
      )

  sets_other :
      (one.var ≡ other.var → one.post ≡ other.pre → ⊥) → (eqb (var_of t i) (var_of t j) && eqb (post_of t i) (pre_of t j)) ≡ false
  sets_other d = from (ℕ_discrete (var_of t i) (var_of t j))
    where
      from : Dec (var_of t i ≡ var_of t j) → (eqb (var_of t i) (var_of t j) && eqb (post_of t i) (pre_of t j)) ≡ false
      from (yes e) =
          rw (
            eq-eqb (var_of t i) (var_of t j) e,
            ne_eqb (post_of t i) (pre_of t j) (λ f. d (is-i.is_var ∙ e ∙ sym is-j.is_var) (is-i.is_post ∙ f ∙ sym is-j.is_pre)),
          )
      from (no n) = rw (ne_eqb (var_of t i) (var_of t j) n)

  pub by_next : one.var ≡ other.var → one.post ≡ other.pre → Ring Next i j other.var other.pre ≡ row_of (order_fact t i j)
  by_next e f = rw (sets_left e f, is-j.is_var, is-j.is_pre)

  module _ (d : one.var ≡ other.var → one.post ≡ other.pre → ⊥) where
    pub by_sets : true ≡ wants (conditions_of t j) one.var one.post → Ring Sets i j one.var one.post ≡ row_of (order_fact t i j)
    by_sets e = rw (sets_other d, ← is-i.is_var, ← is-i.is_post, ← e)

    pub by_leaves : false ≡ wants (conditions_of t j) one.var one.post → Ring Leaves i j other.var other.pre ≡ row_of (order_fact t i j)
    by_leaves e = rw (sets_other d, ← is-i.is_var, ← is-i.is_post, ← e, is-j.is_var, is-j.is_pre)
