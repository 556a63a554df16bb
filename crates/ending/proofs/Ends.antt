-- The end record: 7 at the place of the first action that repeats, then 21 for the lowest variable that nobody uses, then 8, or else the study that the tables hold.
-- Assumes nothing.
use mathlib.Core.Path.{◌≡◌}
use mathlib.Core.Option.{Option, none, some}
use mathlib.Core.List.{List}
use Prim.Native.Nat.{ℕ, ◌+◌, ◌≤◌, ◌<◌}
use native.Mathlib.Omega.{arith}
use lib.ListN.{length, get_or}
use borrow.Author.Tests.{lt-ltb, le-ltb}
use Rattle.std.specs.Prelude.{Option as Repeat, Some, None}
use Rattle.study.specs.Uses.{first_unused}
use Rattle.study.specs.Reading.{refused, Draft, Verdict, settled, ended, roster_of, first_repeat}
use Rattle.tables.specs.Tables.{Tables, tables, action_tables}
use Rattle.advancing.specs.declared.Progress.{Progress}
use Rattle.advancing.specs.declared.Step.TheVariants.{Done}
use Rattle.setters.specs.Filling.{Filled}
use Rattle.setters.proofs.Naming.{beside}
use Rattle.standing.specs.Reads.{Stands, Meets}

module _ {file : List ℕ} {p : Progress} {t : Tables} {begins : List ℕ} {d : Draft} (stands : Stands file p t begins d) {setters : List ℕ} {r : Repeat ℕ} (filled : Filled d.study.situation p.actions d.study.actions setters r) (next : ℕ) where
  abbrev says_so : Option ℕ → Verdict
  says_so repeat = settled (ended file next d repeat)

  pub ends_with_7 :
      {k : ℕ} → r ≡ Some k → k < p.actions → {place : ℕ} → place + 4 ≡ get_or t.acts.places k 0 → says_so (first_repeat d.study) ≡ settled (refused 7 place)
  ends_with_7 {k} is less {place} e =
      let here : get_or d.places k 0 ≡ place = omega (arith, stands.places k less) in
      rw (filled.repeats k is, here)

  module _ (all : r ≡ None) where
    pub ends_with_21 : {v : ℕ} → first_unused d.study ≡ some v → says_so (first_repeat d.study) ≡ settled (refused 21 v)
    ends_with_21 unused = rw (filled.none_repeats all, unused)

    pub ends_with_8 : first_unused d.study ≡ none → next < length file → says_so (first_repeat d.study) ≡ settled (refused 8 next)
    ends_with_8 used more = rw (filled.none_repeats all, used, lt-ltb next (length file) more)

    pub ends_well :
        first_unused d.study ≡ none → length file ≤ next
        → Meets file (says_so (first_repeat d.study))
        (tables t.counts (action_tables setters t.acts.vars t.acts.pres t.acts.posts t.acts.places t.acts.manys t.acts.outs) t.starts t.goals) begins (Done p)
    ends_well used no_more = (
      roster_of d,
      rw (filled.none_repeats all, used, le-ltb next (length file) no_more),
      record {
        sized = omega (arith, filled.long all);
        counts = stands.knows.counts;
        actions = beside stands.actions setters;
        setters = filled.names all;
        crews = stands.crews;
      },
    )
