-- What bars every straight plan is told alike whatever the ranks and the buffer: 10, 11 and 12 come back with the same numbers, unless the other ranks are at fault.
-- Assumes nothing.
use Prim.Native.Nat.{ℕ}
use native.Mathlib.Omega.{arith}
use mathlib.Core.Path.{◌≡◌, refl}
use mathlib.Core.Logic.{◌⊎◌, inl, inr}
use mathlib.Core.List.{List}
use Rattle.answer.specs.declared.Answer.{Answer}
use Rattle.study.specs.Study.{Study}
use Rattle.lawful.specs.Lawful.{Lawful}
use Rattle.planning.specs.Refusals.{NoPlanCanBe}
use Rattle.planning.specs.Planning.{Plans}
use Rattle.planning.proofs.Determined.{barred_determined}
use Rattle.planning.proofs.Ways.{Barred, short, fits, Way, at_fault, barred, planned, way_of, barred_has_none}

module _ {t : Study} (lawful : Lawful t) where
  barred_again : {ranks before after : List ℕ} {r r' : Answer} → Barred t r → Way t ranks before r' after → (r'.number ≡ 9) ⊎ (r' ≡ r)
  barred_again b (at_fault f) = inl refl
  barred_again b (barred fine c) = inr (barred_determined lawful c b)
  barred_again b (planned fine p l) = absurd (barred_has_none lawful b p.straight)

  pub barred_alike :
      {ranks ranks' before before' after after' : List ℕ} {r r' : Answer} → Plans t ranks before r after → Plans t ranks' before' r' after'
      → NoPlanCanBe r → (r'.number ≡ 9) ⊎ (r' ≡ r)
  barred_alike {ranks = ranks} {before = before} {r' = r'} p q = from (way_of p)
    where
      from : {r : Answer} {after : List ℕ} → Way t ranks before r after → NoPlanCanBe r → (r'.number ≡ 9) ⊎ (r' ≡ r)
      from (at_fault f) h = absurd (omega arith)
      from (barred fine b) h = barred_again b (way_of q)
      from (planned fine p (short l)) h = absurd (omega arith)
      from (planned fine p (fits l)) h = absurd (omega arith)
