-- What a refusal of planning a file for a crew with its own seed says of the study, and what is told of it.
-- Assumes nothing.
use Prim.Native.Nat.{ℕ, ◌≤◌}
use native.Mathlib.Omega.{arith}
use mathlib.Core.Path.{◌≡◌, refl, sym, subst}
use mathlib.Core.Logic.{◌⊎◌, inl, inr, ◌≢◌}
use mathlib.Core.List.{List, [], ◌++◌, append-nil}
use lib.ListN.{length, replicate}
use Rattle.answer.specs.Answers.{three}
use Rattle.answer.specs.declared.Answer.{Answer}
use Rattle.ranking.specs.Ranking.{tested}
use Rattle.std.specs.Prelude.{Ok}
use Rattle.study.specs.Study.{Study}
use Rattle.study.specs.Reading.{Said, says, refused, reading_for}
use Rattle.lawful.specs.Lawful.{Lawful}
use Rattle.orders.specs.Orders.{OnRing}
use Rattle.walks.specs.Walks.{Walks, Met, OnAWalk, ComesBefore}
use Rattle.planning.specs.Planning.{LowestWithout, LowestOff}
use Rattle.planning.specs.Seeded.{PlansSeeded}
use Rattle.planning.proofs.Ways.{Barred, without, off, on_ring, short, fits, Way, at_fault, barred, planned, way_of}
use Rattle.stages.proofs.Drawing.{drawn_fine}
use Rattle.planning.proofs.Found.{straight_plan_short}
use Rattle.telling.specs.Text.{refused_line}
use Rattle.explained.specs.Facts.{Fact, fact_lines}
use Rattle.explained.specs.Refusals.{TracedFromGoal, WalkedPast}
use Rattle.explained.specs.Rings.{Circled}
use Rattle.explained.specs.Explained.{Why, broken, off as past, on_ring as ringed, Told, not_planned, not_read_lem, Explained}

-- 10, 11 or 12
abbrev pub Bars : Study → Answer → Type 0
Bars t r =
    ((r.number ≡ 10) × LowestWithout t r.first r.second)
    ⊎ (((r.number ≡ 11) × (Walks t × LowestOff t r.first r.second))
    ⊎ ((r.number ≡ 12) × (Walks t × (Met t × ((r.second ≡ 0) × ((x : ℕ) × OnRing (OnAWalk t) (ComesBefore t) x))))))

bars : {t : Study} {r : Answer} → Barred t r → Bars t r
bars (without l) = inl (refl, l)
bars (off walks l) = inr (inl (refl, (walks, l)))
bars (on_ring {x = x} walks met c n) = inr (inr (refl, (walks, (met, (refl, (x, c))))))

-- with a rank list and room for every plan
way_bars :
    {t : Study} {ranks before after : List ℕ} {r : Answer} → Lawful t → tested ranks (length t.actions) ≡ Ok tt → 256 ≤ length before
    → Way t ranks before r after → r.number ≢ 0 → Bars t r
way_bars lawful fine room (at_fault f) some = absurd (rw fine at f)
way_bars lawful fine room (barred _ b) some = bars b
way_bars lawful fine room (planned _ p (short l)) some = absurd (omega (arith, straight_plan_short lawful p.straight))
way_bars lawful fine room (planned _ p (fits l)) some = absurd (some refl)

-- the same of a file
pub seeded_bars :
    (file : List ℕ) (crew : ℕ) {t : Study} (after : List ℕ) {r : Answer} → Lawful t → reading_for file crew ≡ says t
    → PlansSeeded (reading_for file crew) (replicate 256 0) r after → r.number ≢ 0 → Bars t r
seeded_bars file crew {t} after lawful said plans some =
    way_bars lawful (drawn_fine t.seed (length t.actions)) (omega arith) (way_of (rw said at plans)) some

-- 12
pub record Ringed (t : Study) (r : Answer) : Type 0 where
  pub is_12 : r.number ≡ 12
  pub second : r.second ≡ 0
  pub walks : Walks t
  pub met : Met t
  pub ring : ℕ
  pub on_ring : OnRing (OnAWalk t) (ComesBefore t) ring

module _ {t : Study} {r : Answer} where
  pub bars_10 : Bars t r → r.number ≡ 10 → LowestWithout t r.first r.second
  bars_10 (inl (e, l)) is = l
  bars_10 (inr (inl (e, l))) is = absurd (omega arith)
  bars_10 (inr (inr (e, l))) is = absurd (omega arith)

  pub bars_11 : Bars t r → r.number ≡ 11 → Walks t × LowestOff t r.first r.second
  bars_11 (inl (e, l)) is = absurd (omega arith)
  bars_11 (inr (inl (e, l))) is = l
  bars_11 (inr (inr (e, l))) is = absurd (omega arith)

  pub bars_12 : Bars t r → r.number ≢ 10 → r.number ≢ 11 → Ringed t r
  bars_12 (inl (e, l)) a b = absurd (a e)
  bars_12 (inr (inl (e, l))) a b = absurd (b e)
  bars_12 (inr (inr (e, (walks, (met, (z, (x, c))))))) a b =
      record { is_12 = e; second = z; walks = walks; met = met; ring = x; on_ring = c }

-- ---- what is told

pub why_10 : {t : Study} {number v b : ℕ} {facts : List Fact} → number ≡ 10 → TracedFromGoal t v facts → Why t (three number v b) facts
why_10 {t} {number} {v} {b} {facts} e p = subst (λ (n : ℕ). Why t (three n v b) facts) (sym e) (broken p)

pub why_11 : {t : Study} {number i u : ℕ} {facts : List Fact} → number ≡ 11 → WalkedPast t i u facts → Why t (three number i u) facts
why_11 {t} {number} {i} {u} {facts} e p = subst (λ (n : ℕ). Why t (three n i u) facts) (sym e) (past p)

pub why_12 : {t : Study} {number n second : ℕ} {facts : List Fact} → number ≡ 12 → second ≡ 0 → Circled t facts → Why t (three number n second) facts
why_12 {t} {number} {n} {second} {facts} e z p =
    subst (λ (m : ℕ). Why t (three m n second) facts) (sym e) (subst (λ (k : ℕ). Why t (three 12 n k) facts) (sym z) (ringed p))

abbrev refused_text : Answer → List ℕ
refused_text r = refused_line r.number r.first r.second

told_said :
    (said : Said Study) (buffer : List ℕ) (r : Answer) (text : List ℕ)
    → ((t : Study) → said ≡ says t → (list : List Fact) × (Why t r list × (text ≡ refused_text r ++ fact_lines list)))
    → ((number place : ℕ) → said ≡ refused number place → text ≡ refused_text r) → Told said buffer r text
told_said (says t) buffer r text of-study of-refused =
    let (list, (why, e)) = of-study t refl in subst (Told (says t) buffer r) (sym e) (not_planned why)
told_said (refused number place) buffer r text of-study of-refused =
    subst (Told (refused number place) buffer r) (sym (of-refused number place refl)) not_read_lem

-- a refusal's line, and the facts where the file says a study
pub refusal_explained :
    (file : List ℕ) (crew : ℕ) (buffer : List ℕ) (r : Answer) (text : List ℕ) → PlansSeeded (reading_for file crew) (replicate 256 0) r buffer
    → ((t : Study) → reading_for file crew ≡ says t → (list : List Fact) × (Why t r list × (text ≡ refused_text r ++ fact_lines list)))
    → ((number place : ℕ) → reading_for file crew ≡ refused number place → text ≡ refused_text r) → Explained (reading_for file crew) text
refusal_explained file crew buffer r text plans of-study of-refused =
    record { answer = r; buffer = buffer; plans = plans; told = told_said (reading_for file crew) buffer r text of-study of-refused }

pub no_lines : (text : List ℕ) → text ++ fact_lines [] ≡ text
unfolding fact_lines
no_lines text = append-nil text
