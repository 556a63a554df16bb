-- `vetting::chart_few` meets its contract: what is answered to every chart, or the study is in words and the chart is vetted.
-- Assumes nothing.
use mathlib.Core.Path.{◌≡◌, refl, subst}
use Prim.Native.Nat.{ℕ}
use Rattle.std.specs.Prelude.{Result}
use Rattle.plain.proofs.Lists.{all_zeros}
use Rattle.answer.specs.declared.Answer.{Answer}
use Rattle.tables.specs.Rows.{out_column}
use Rattle.study.specs.Study.{Study}
use Rattle.stages.specs.Whole.{KnownIn}
use Rattle.vetting.specs.Words.{Readies}
use Rattle.vetting.specs.declared.WalkActions.{WalkActions}
use Rattle.vetting.proofs.chart_few.Goals as goal
use Rattle.vetting.proofs.chart_few.Goals.{After-ready}

-- what is known once the study is made ready
module _ (r : After-ready) where
  readied-of :
      {l : Result WalkActions Answer} → r.ready.result ≡ l → (t : Study) (x : ℕ)
      → KnownIn r.args.file.now r.args.n r.args.count x r.args.acts.now r.args.vars.now r.args.setters.now t
      → Readies t r.args.count (out_column r.args.acts.now) r.ready.new.words l
  readied-of e t x known =
      subst (λ (l : Result WalkActions Answer). Readies t r.args.count (out_column r.args.acts.now) r.ready.new.words l) e
      (r.ready.ensures.readies t x known)

pub ready-requires : goal.ready-requires
ready-requires c =
    (refl, all_zeros 64, c.requires.0, c.requires.1, c.requires.2)

pub vet_words-requires : goal.vet_words-requires
vet_words-requires c =
    let (t, x, known) = c.requires.2 in
    (c.requires.0, (t, readied-of (goal.at.vet_words-requires c).After-ready c.in-Ok.is t x known), c.ready.ensures.setters_len)

pub returns-in-Err : goal.returns-in-Err
returns-in-Err c t x known =
    readied-of (goal.at.returns-in-Err c).After-ready c.in-Err.is t x known _

pub returns-in-Ok : goal.returns-in-Ok
returns-in-Ok c t x known =
    c.vet_words.ensures t (readied-of (goal.at.returns-in-Ok c).After-ready c.in-Ok.is t x known)
