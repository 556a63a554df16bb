-- `circling::lowest_before` meets its contract: by what comes before the action in each of three ways.
-- Assumes nothing.
use mathlib.Core.Path.{◌≡◌, sym, subst, ◌∙◌}
use Prim.Native.Nat.{ℕ, ◌<◌}
use Rattle.std.specs.Prelude.{Option, unwrap_or}
use lib.ListN.{get_or}
use Rattle.study.specs.Study.{Study}
use Rattle.tables.specs.Rows.{start_column}
use Rattle.walks.specs.Walks.{var_of, pre_of}
use Rattle.explained.specs.Rings.{Stuck, WaitsOn}
use Rattle.ringing.specs.Stranded.{Stranded, Opened}
use Rattle.circling.specs.Lowest.{LowestBelow}
use Rattle.circling.proofs.LowestBefore.{SetsLeft, lowest_wanter, none_sets_left, lowest_sets_left, waits_on}
use Rattle.circling.proofs.Lowest.{some_below}
use Rattle.circling.proofs.lowest_before.Goals as goal
use Rattle.circling.proofs.lowest_before.Goals.{After-lowest_setter, then-act-var, else-act-var}

module _
    (c : After-lowest_setter) (t : Study) (j : ℕ)
    (stranded : Stranded c.args.file.now (start_column c.args.vars.now) c.args.setters.now c.args.wanters.now c.args.left.now t)
    (opened : Opened c.args.file.now c.args.act t j) (stuck : Stuck t j) where
  is_var : c.wide-v.result ≡ var_of t j
  is_var = c.wide-v.ensures.0 ∙ opened.is_var

  is_pre : c.wide.result ≡ pre_of t j
  is_pre = c.wide.ensures.0 ∙ opened.is_pre

  first-told : c.variable_at-var.result.start ≡ get_or (start_column c.args.vars.now) c.wide-v.result 0
  first-told = c.variable_at-var.ensures.start

  abbrev SetsLeftFrom : Option ℕ → Type 0
  SetsLeftFrom low = LowestBelow t (SetsLeft t j) (unwrap_or c.least-low.result 256) (unwrap_or low 256)

  sets-left : SetsLeftFrom c.if-act-var.low
  sets-left =
      elim c.if-act-var.branch [
        | then-act-var w ↦
            subst SetsLeftFrom (sym w.low-is)
            (lowest_sets_left stranded stuck is_var is_pre (λ z. w.if-act-var.true (sym c.wide.ensures.0 ∙ z ∙ sym first-told)) w.lower-low.ensures)
        | else-act-var w ↦
            subst SetsLeftFrom (sym w.low-is)
            (none_sets_left stranded stuck is_var is_pre (c.wide.ensures.0 ∙ w.if-act-var.false ∙ first-told))
      ]

  is-lowest : (unwrap_or c.lowest_setter.result 256 < 256) × WaitsOn t j (unwrap_or c.lowest_setter.result 256)
  is-lowest =
      waits_on stranded stuck (lowest_wanter stranded stuck is_var is_pre c.least-low.ensures) sets-left
      (c.lowest_setter.ensures t j c.args.wanters.now stranded opened stuck)

pub unwrap-requires : goal.unwrap-requires
unwrap-requires c =
    let (t, j, stranded, opened, stuck) = c.requires in
    some_below c.lowest_setter.result (is-lowest (goal.at.unwrap-requires c).After-lowest_setter t j stranded opened stuck).0

pub returns : goal.returns
returns c =
    let w = (goal.at.returns c).After-lowest_setter in
    record { upper_bound = c.unwrap.type_inv; waits_on = λ t j stranded opened stuck. rw c.unwrap.ensures at ((is-lowest w t j stranded opened stuck).1) }
