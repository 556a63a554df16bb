-- The seeds for a file's crew, all there are, either all give a plan, equally long, or are all refused with the same three numbers.
-- Assumes nothing.
use Prim.Native.Nat.{ℕ}
use mathlib.Core.Path.{◌≡◌}
use mathlib.Core.Logic.{◌⊎◌, inl, inr}
use mathlib.Core.List.{List, [], ◌∷◌}
use lib.ListN.{length}
use Rattle.answer.specs.declared.Answer.{Answer}
use Rattle.study.specs.Study.{Study}
use Rattle.study.specs.Reading.{says, reading_for}
use Rattle.lawful.specs.Lawful.{Lawful}
use Rattle.lawful.proofs.Loads.{heard_lawful}
use Rattle.planning.specs.Refusals.{NoPlanCanBe}
use Rattle.varied.specs.Outcomes.{Outcome, planned, barred, ComesTo}
use Rattle.varied.proofs.Alike.{PlanOf, plan_then_plans, barred_comes, barred_is_10_11_12}
use Rattle.varied.proofs.Settled.{comes_to_some}

abbrev pub EachGivesPlan : Study → ℕ → Type 0
EachGivesPlan t len = (seed : ℕ) → (list : List ℕ) × ((length list ≡ len) × ComesTo t seed (planned list))

abbrev pub EachRefused : Study → Answer → Type 0
EachRefused t r = (seed : ℕ) → ComesTo t seed (barred r)

abbrev pub SeedsAlike : Study → Type 0
SeedsAlike t = ((len : ℕ) × EachGivesPlan t len) ⊎ ((r : Answer) × (NoPlanCanBe r × EachRefused t r))

lawful_seeds_alike : {t : Study} → Lawful t → SeedsAlike t
lawful_seeds_alike {t} lawful = let (o, c) = comes_to_some lawful 1 in from o c
  where
    as_plan : (seed len : ℕ) (o : Outcome) → ComesTo t seed o → PlanOf len o → (list : List ℕ) × ((length list ≡ len) × ComesTo t seed (planned list))
    as_plan seed len (planned list) c e = (list, (e, c))
    as_plan seed len (barred r) c e = absurd e

    from : (o : Outcome) → ComesTo t 1 o → SeedsAlike t
    from (planned list) c =
        inl (
          length list,
          λ seed. let (o, d) = comes_to_some lawful seed in
              as_plan seed (length list) o d (plan_then_plans lawful c seed (o ∷ []) (d, tt)).0,
        )
    from (barred r) c = inr (r, (barred_is_10_11_12 lawful c, λ seed. (barred_comes lawful c seed 1).0))

pub file_seeds_alike : (file : List ℕ) (crew : ℕ) (t : Study) → reading_for file crew ≡ says t → SeedsAlike t
file_seeds_alike file crew t loads = lawful_seeds_alike (heard_lawful file crew t loads)
