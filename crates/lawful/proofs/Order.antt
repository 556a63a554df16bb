-- What a kind that may follow tells, by the record that the kind decodes to.
-- Assumes nothing.
use mathlib.Core.Path.{◌≡◌, ap}
use mathlib.Core.Logic.{◌⊎◌, inl, inr}
use mathlib.Core.Bool.{Bool, true, false, not, ◌&&◌, ◌||◌, and-eq-true_iff}
use Prim.Native.Nat.{ℕ, ◌≤◌}
use native.Mathlib.Omega.{arith}
use lib.Dec.{leb, eqb}
use borrow.Author.Tests.{leb-true, eqb-true, ne_eqb, not-true}
use Rattle.plain.specs.Choose.{pick}
use Rattle.plain.proofs.Tests.{picked, picked_both, either}
use Rattle.study.specs.Reading.{Record, variable, action, condition, task, seed, end, times, present, crew, decoded, may_follow_lem}

-- how far a file has come with a record of this kind: behind the situation as at the start, behind an action's situations as behind its conditions, behind the opening of a crew as behind a task
abbrev pub stage : ℕ → ℕ
stage kind = pick (eqb kind 8) 0 (pick (eqb kind 7) 3 (pick (eqb kind 9) 4 kind))

pub stage_same : (kind : ℕ) → kind ≤ 6 → stage kind ≡ kind
stage_same kind h = rw (ne_eqb kind 8 (λ e. omega arith), ne_eqb kind 7 (λ e. omega arith), ne_eqb kind 9 (λ e. omega arith))

abbrev pub Follows : Bool → ℕ → ℕ → Record → Type 0
Follows left last kind (variable n) = (kind ≡ 1) × (stage last ≤ 1)
Follows left last kind (action v p q) = (kind ≡ 2) × (1 ≤ stage last) × (stage last ≤ 3)
Follows left last kind (condition v q) = (kind ≡ 3) × (2 ≤ last) × (last ≤ 3)
Follows left last kind (task v p q) = (kind ≡ 4) × (1 ≤ stage last) × (stage last ≤ 4) × (left ≡ true)
Follows left last kind (seed n) = (kind ≡ 5) × (last ≡ 4) × (left ≡ false)
Follows left last kind end = last ≡ 5
Follows left last kind (times n) = (kind ≡ 7) × (2 ≤ last) × (last ≤ 3)
Follows left last kind (present n) = (kind ≡ 8) × (last ≡ 0)
Follows left last kind crew = (kind ≡ 9) × (last ≡ 5)

pub may_follow_law : (left : Bool) (last kind a b c d : ℕ) → may_follow_lem left last kind ≡ true → Follows left last kind (decoded kind a b c d)
unfolding may_follow_lem decoded
may_follow_law left last kind a b c d =
    picked_both P (eqb kind 1) (λ k m. (eqb-true kind 1 k, early (either (leb last 1) (eqb last 8) m)))
    λ _. picked_both P (eqb kind 2) (λ k m. let t = middle 3 (omega arith) (either (leb 1 last && leb last 3) (eqb last 7) m) in (eqb-true kind 2 k, t.0, t.1))
    λ _. picked_both P (eqb kind 3) (λ k m. (eqb-true kind 3 k, (between 2 3 m).0, (between 2 3 m).1))
    λ _. picked_both P (eqb kind 4) (λ k m. let s = some_left m in let t = late (either (leb 1 last && leb last 4) (eqb last 7 || eqb last 9) s.0) in (eqb-true kind 4 k, t.0, t.1, s.1))
    λ _. picked_both P (eqb kind 5) (λ k m. (eqb-true kind 5 k, eqb-true last 4 (none_left m).0, not-true left (none_left m).1))
    λ _. picked_both P (eqb kind 7) (λ k m. (eqb-true kind 7 k, (between 2 3 m).0, (between 2 3 m).1))
    λ _. picked_both P (eqb kind 8) (λ k m. (eqb-true kind 8 k, eqb-true last 0 m))
    λ _. picked (P (eqb last 5)) (eqb kind 9) (λ k m. (eqb-true kind 9 k, eqb-true last 5 m)) (λ _ m. eqb-true last 5 m)
  where
    P : Bool → Record → Type 0
    P m r = m ≡ true → Follows left last kind r

    between : (low high : ℕ) → (leb low last && leb last high) ≡ true → (low ≤ last) × (last ≤ high)
    between low high m =
        let t = (and-eq-true_iff (leb low last) (leb last high)).0 m in
        (leb-true low last t.0, leb-true last high t.1)

    early : (leb last 1 ≡ true) ⊎ (eqb last 8 ≡ true) → stage last ≤ 1
    early (inl m) = let h = leb-true last 1 m in omega (arith, stage_same last (omega arith))
    early (inr m) = omega (arith, ap stage (eqb-true last 8 m))

    middle : (high : ℕ) → (3 ≤ high) × (high ≤ 4) → ((leb 1 last && leb last high) ≡ true) ⊎ (eqb last 7 ≡ true) → (1 ≤ stage last) × (stage last ≤ high)
    middle high h (inl m) = let t = between 1 high m in omega (arith, stage_same last (omega arith))
    middle high h (inr m) = omega (arith, ap stage (eqb-true last 7 m))

    opened : (eqb last 7 ≡ true) ⊎ (eqb last 9 ≡ true) → (1 ≤ stage last) × (stage last ≤ 4)
    opened (inl m) = omega (arith, ap stage (eqb-true last 7 m))
    opened (inr m) = omega (arith, ap stage (eqb-true last 9 m))

    late : ((leb 1 last && leb last 4) ≡ true) ⊎ ((eqb last 7 || eqb last 9) ≡ true) → (1 ≤ stage last) × (stage last ≤ 4)
    late (inl m) = middle 4 (omega arith) (inl m)
    late (inr m) = opened (either (eqb last 7) (eqb last 9) m)

    some_left :
        (((leb 1 last && leb last 4) || (eqb last 7 || eqb last 9)) && left) ≡ true
        → (((leb 1 last && leb last 4) || (eqb last 7 || eqb last 9)) ≡ true) × (left ≡ true)
    some_left = (and-eq-true_iff ((leb 1 last && leb last 4) || (eqb last 7 || eqb last 9)) left).0

    none_left : (eqb last 4 && not left) ≡ true → (eqb last 4 ≡ true) × (not left ≡ true)
    none_left = (and-eq-true_iff (eqb last 4) (not left)).0
