-- The values held, as bits of words: one for each start value, and one more for each step.
-- Assumes nothing.
use mathlib.Core.Path.{◌≡◌, refl, ◌∙◌}
use mathlib.Core.Bool.{Bool, true, false, ◌||◌, or-false}
use mathlib.Core.List.{List, [], ◌∷◌}
use Prim.Native.Nat.{ℕ, ◌+◌, ◌≤◌, ◌<◌}
use native.Mathlib.Decide.{ℕ_discrete}
use native.Mathlib.Omega.{arith}
use lib.Dec.{eqb}
use lib.ListN.{length, get_or, set, take, length-set}
use lib.Seq.{get_or-set_same, get_or-set_other, get_or-take}
use Rattle.bits.specs.Bits.{bit}
use Rattle.bits.proofs.Words.{bit_zero}
use Rattle.study.specs.Study.{Study}
use Rattle.plans.specs.Plans.{State}
use Rattle.runs.specs.Run.{held}
use Rattle.stepping.specs.Stepping.{Marked, Stage}

or_again : (a b : Bool) → (a || (a || b)) ≡ (a || b)
or_again true b = refl
or_again false b = refl

-- a step sets variable w of the present state to p, and marks it in its word
module _ {n : ℕ} {marks : List ℕ} {s : State} {past : List State} (marked : Marked n marks (s ∷ past)) where
  pub marked_more :
      (w p word : ℕ) → w < n → n ≤ 32 → n ≤ length s → ((j : ℕ) → bit word j ≡ (eqb p j || bit (get_or marks w 0) j))
      → Marked n (set marks w word) (set s w p ∷ (s ∷ past))
  unfolding held
  marked_more w p word hw few long put = record { long = length-set marks _ _ ∙ marked.long; tells = λ v q hv hq. tells v q hv hq (ℕ_discrete v w) }
    where
      tells : (v q : ℕ) → v < n → q < 16 → Dec (v ≡ w) → bit (get_or (set marks w word) v 0) q ≡ held (set s w p ∷ (s ∷ past)) v q
      tells v q hv hq (yes e) =
          rw (e, get_or-set_same marks w word 0 (omega (arith, marked.long)), put q, get_or-set_same s w p 0 (omega arith), marked.tells w q hw hq)
      tells v q hv hq (no o) =
          rw (get_or-set_other marks w v word 0 o, get_or-set_other s w v p 0 o, or_again) (marked.tells v q hv hq)

-- the words of the first v variables have their values, and no others
pub record Begun (v : ℕ) (marks table : List ℕ) : Type 0 where
  pub long : length marks ≡ 32
  pub tells : (w q : ℕ) → w < v → bit (get_or marks w 0) q ≡ eqb (get_or table w 0) q

pub begun : {marks : List ℕ} (table : List ℕ) → length marks ≡ 32 → Begun 0 marks table
begun table long = record { long = long; tells = λ w q h. absurd (omega arith) }

module _ {v : ℕ} {marks table : List ℕ} (b : Begun v marks table) where
  pub begun_more : (word : ℕ) → v < 32 → ((j : ℕ) → bit word j ≡ (eqb (get_or table v 0) j || bit 0 j)) → Begun (v + 1) (set marks v word) table
  begun_more word small put = record { long = length-set marks _ _ ∙ b.long; tells = λ w q hw. tells w q hw (ℕ_discrete w v) }
    where
      tells : (w q : ℕ) → w < v + 1 → Dec (w ≡ v) → bit (get_or (set marks v word) w 0) q ≡ eqb (get_or table w 0) q
      tells w q hw (yes e) = rw (e, get_or-set_same marks v word 0 (omega (arith, b.long)), put q, bit_zero q, or-false)
      tells w q hw (no o) = rw (get_or-set_other marks v w word 0 o) (b.tells w q (omega arith))

  pub begun_all : {n : ℕ} → n ≤ v → Marked n marks (take n table ∷ [])
  unfolding held
  begun_all {n} h = record { long = b.long; tells = λ w q hw hq. b.tells w q (omega arith) ∙ (rw (get_or-take n table w 0 hw, or-false)) }

pub stage_first :
    (t : Study) {n : ℕ} {marks table : List ℕ} → n ≡ length t.counts → length table ≡ 32
    → Marked n marks (take n table ∷ []) → Stage t [] table marks
stage_first t counted long marked = record { long = long; marked = rw counted at marked }
