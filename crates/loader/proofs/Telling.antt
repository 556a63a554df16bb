-- A step that goes no further, taken halfway down a file, tells what the file says.
-- Assumes nothing.
use mathlib.Core.Path.{◌≡◌, refl}
use mathlib.Core.List.{List, []}
use Prim.Native.Nat.{ℕ}
use native.Mathlib.Omega.{arith}
use Rattle.std.specs.Prelude.{Result}
use Rattle.answer.specs.declared.Refusal.{Refusal}
use Rattle.study.proofs.Refusals.{refusals_numbered}
use Rattle.tables.specs.Tables.{Tables, Reads}
use Rattle.tables.specs.declared.Read.{Read}
use Rattle.advancing.specs.declared.Progress.{Progress}
use Rattle.advancing.specs.declared.Step.{Step}
use Rattle.advancing.specs.declared.Step.TheVariants.{On, Refused, Done}
use Rattle.standing.specs.Reads.{Safe, Further}
use Rattle.standing.specs.Halfway.{Halfway}
use Rattle.standing.proofs.Arms.{Answers}
use Rattle.standing.proofs.Pass.{refuses, ends}
use Rattle.loader.specs.Told.{ToldBy}

-- what is further down every file from every place is no place
pub goes_nowhere : {s : Step} → ((file counts : List ℕ) (at : ℕ) → Further file at counts s) → (q : Progress) → s ≡ On q → ⊥
goes_nowhere further q e = let h = rw e at (further [] [] q.at) in omega (arith, h.0)

pub tells_the_file :
    {file : List ℕ} {t : Tables} {crews : List ℕ} {p : Progress} → Safe file p t.counts → Halfway file t crews p
    → (t' : Tables) (crews' : List ℕ) (s : Step) → ((q : Progress) → s ≡ On q → ⊥) → Answers file p t crews t' crews' s
    → (r : Result Read Refusal) → ToldBy s r → Reads file t' crews' r
tells_the_file safe h t' crews' (On q) stopped a r told = absurd (stopped q refl)
tells_the_file {file} safe h t' crews' (Refused n place) stopped a r (e, r-is, place-is, named) =
    let said = refuses safe h a in
    let numbered = rw said at (refusals_numbered file) in
    rw (r-is, place-is, named numbered) said
tells_the_file safe h t' crews' (Done q) stopped a r told = rw told (ends safe h t' crews' q a)
