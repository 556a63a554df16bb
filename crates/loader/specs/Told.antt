-- What a step tells that goes no further: the refusal, or how much has been read.
-- Assumes nothing.
use Rattle.std.specs.Prelude.{ℕ, ◌≡◌, ◌≤◌, ◌⊎◌, Result, Ok, Err}
use Rattle.answer.specs.Answers.{number_of}
use Rattle.answer.specs.declared.Refusal.{Refusal}
use Rattle.answer.specs.declared.Rule.{Rule}
use Rattle.advancing.specs.declared.Progress.{Progress}
use Rattle.advancing.specs.declared.Step.{Step}
use Rattle.advancing.specs.declared.Step.TheVariants.{On, Refused, Done}
use Rattle.tables.specs.declared.Read.{Read}

abbrev pub roster_of : Progress → Read
roster_of p = record { vars = p.vars; actions = p.actions; crews = p.crews }

-- a number by which a file is refused names its rule
abbrev pub Named : ℕ → Rule → Type 0
Named number rule = ((1 ≤ number) × (number ≤ 8)) ⊎ (number ≡ 21) → number_of rule ≡ number

abbrev pub ToldBy : Step → Result Read Refusal → Type 0
ToldBy (On p) r = r ≡ Ok (roster_of p)
ToldBy (Refused n place) r = (e : Refusal) × (r ≡ Err e) × (e.place ≡ place) × Named n e.rule
ToldBy (Done p) r = r ≡ Ok (roster_of p)
