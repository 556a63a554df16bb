-- 10, 11 and 12 do not depend on the ranks, nor on the buffer: a file that is refused so for a crew is refused with the same three numbers whatever rank list and buffer are lent, and with the crew's own seed.
-- Assumes nothing.
use Prim.Native.Nat.{ℕ}
use mathlib.Core.Path.{◌≡◌, sym, ◌∙◌}
use mathlib.Core.Logic.{◌⊎◌, inl, inr}
use mathlib.Core.List.{List}
use Rattle.answer.specs.declared.Answer.{Answer}
use Rattle.study.specs.Study.{Study}
use Rattle.study.specs.Reading.{Said, says, refused, reading_for}
use Rattle.lawful.proofs.Loads.{LawfulIfHeard, hearing_lawful}
use Rattle.planning.specs.Refusals.{NoPlanCanBe}
use Rattle.planning.specs.Planning.{PlansFile, PlanAllows}
use Rattle.planning.specs.Seeded.{seed_ranks, SeededAllows}
use Rattle.planning.proofs.Exact.{rank_list_not_9}
use Rattle.planning.proofs.Alike.{barred_alike}
use Rattle.demands.specs.Words.{LoadsFor, RanksFor}
use Rattle.demands.proofs.Demand3.{seeded_never_answers_9}

said_alike :
    (said : Said Study) → LawfulIfHeard said
    → (ranks before : List ℕ) (r : Answer) (after : List ℕ) → PlansFile said ranks before r after → NoPlanCanBe r
    → (ranks' before' : List ℕ) (r' : Answer) (after' : List ℕ) → PlansFile said ranks' before' r' after' → (r'.number ≡ 9) ⊎ (r' ≡ r)
said_alike (says t) lawful ranks before r after p h ranks' before' r' after' q = barred_alike lawful p q h
said_alike (refused number place) lawful ranks before r after p h ranks' before' r' after' q = inr (q.0 ∙ sym p.0)

-- ---- the theorems: a file was planned for a crew with some ranks into some buffer, and answered 10, 11 or 12

module _
    (file : List ℕ) (crew : ℕ) (ranks before : List ℕ) (r : Answer) (after : List ℕ) (allowed : PlanAllows file crew ranks before r after)
    (none : NoPlanCanBe r)
  where
    -- with any other ranks and buffer the answer is the same, or 9 where those ranks are at fault
    pub refused_alike :
        (ranks' before' : List ℕ) (r' : Answer) (after' : List ℕ) → PlanAllows file crew ranks' before' r' after' → (r'.number ≡ 9) ⊎ (r' ≡ r)
    refused_alike = said_alike (reading_for file crew) (hearing_lawful file crew) ranks before r after allowed none

    pub refused_alike_with_any_rank_list :
        (t : Study) → LoadsFor file crew t → (ranks' before' : List ℕ) (r' : Answer) (after' : List ℕ) → RanksFor t ranks'
        → PlanAllows file crew ranks' before' r' after' → r' ≡ r
    refused_alike_with_any_rank_list t loads ranks' before' r' after' rank_list q = from (refused_alike ranks' before' r' after' q)
      where
        from : (r'.number ≡ 9) ⊎ (r' ≡ r) → r' ≡ r
        from (inl nine) = absurd (rank_list_not_9 rank_list (rw loads at q) nine)
        from (inr e) = e

    pub refused_alike_with_the_seed : (before' : List ℕ) (r' : Answer) (after' : List ℕ) → SeededAllows file crew before' r' after' → r' ≡ r
    refused_alike_with_the_seed before' r' after' q = from (refused_alike (seed_ranks (reading_for file crew)) before' r' after' q)
      where
        from : (r'.number ≡ 9) ⊎ (r' ≡ r) → r' ≡ r
        from (inl nine) = absurd (seeded_never_answers_9 file crew before' r' after' q nine)
        from (inr e) = e
