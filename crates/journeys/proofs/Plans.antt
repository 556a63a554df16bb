-- What a crew's plan comes to is settled, there is something that it comes to, and it is what planning gives into 256 bytes: a refusal that alters nothing, or the plan in front.
-- Assumes nothing.
use Prim.Native.Nat.{ℕ, ◌≤◌}
use native.Mathlib.Omega.{arith}
use mathlib.Core.Path.{◌≡◌, refl, sym, ap, ◌∙◌}
use mathlib.Core.Logic.{◌≢◌}
use mathlib.Core.List.{List, ◌++◌}
use lib.ListN.{length, take, drop, replicate, length-replicate}
use lib.Seq.{take-append_seam}
use Rattle.answer.specs.Answers.{done, refusal}
use Rattle.answer.specs.declared.Answer.{Answer}
use Rattle.ranking.specs.Ranking.{tested}
use Rattle.std.specs.Prelude.{Ok}
use Rattle.study.specs.Study.{Study}
use Rattle.study.specs.Reading.{Said, says, refused, reading_for}
use Rattle.lawful.specs.Lawful.{Lawful}
use Rattle.lawful.proofs.Loads.{LawfulIfHeard, hearing_lawful}
use Rattle.planning.specs.Planning.{FirstPlan, Plans, wrong_length as plan-wrong-length, wrong_entry as plan-wrong-entry, no_walk as plan-no-walk}
use Rattle.planning.specs.Planning.{off_walk_lem as plan-off-walk, ring as plan-ring, no_room as plan-no-room, a_plan as plan-a-plan, PlansFile}
use Rattle.planning.proofs.Determined.{plans_determined}
use Rattle.planning.proofs.Found.{straight_plan_short}
use Rattle.reference.proofs.Reference.{planned_file_allowed}
use Rattle.journeys.specs.Planned.{Planned, no_plan, the_plan, PlansTo, wrong_length, wrong_entry, no_walk, off_walk_lem, ring, a_plan, SaidPlansTo, FilePlansTo}

-- ---- a refusal is no 0, and a plan is the first of a study with so many actions

pub record ThePlan (t : Study) (ranks : List ℕ) (actions : ℕ) (list : List ℕ) : Type 0 where
  pub count : actions ≡ length t.actions
  pub fine : tested ranks (length t.actions) ≡ Ok tt
  pub first_plan : FirstPlan t ranks list

abbrev pub Sound : Study → List ℕ → Planned → Type 0
Sound t ranks (no_plan r) = r.number ≢ 0
Sound t ranks (the_plan actions list) = ThePlan t ranks actions list

pub plans_sound : {t : Study} {ranks : List ℕ} {p : Planned} → PlansTo t ranks p → Sound t ranks p
plans_sound (wrong_length e) = λ z. omega arith
plans_sound (wrong_entry e) = λ z. omega arith
plans_sound (no_walk fine l) = λ z. omega arith
plans_sound (off_walk_lem fine walks l) = λ z. omega arith
plans_sound (ring fine walks met x n) = λ z. omega arith
plans_sound (a_plan fine p) = record { count = refl; fine = fine; first_plan = p }

-- ---- what planning gives with room for any plan is what the plan comes to

-- the answer, and the bytes, with which a plan or its refusal is laid down
abbrev pub answer_of : Planned → Answer
answer_of (no_plan r) = r
answer_of (the_plan actions list) = done (length list) 0

abbrev pub bytes_after : Planned → List ℕ → List ℕ
bytes_after (no_plan r) before = before
bytes_after (the_plan actions list) before = list ++ drop (length list) before

pub record LaidDown (said : Said Study) (ranks before : List ℕ) (r : Answer) (after : List ℕ) : Type 0 where
  pub planned : Planned
  pub comes : SaidPlansTo said ranks planned
  pub answered : r ≡ answer_of planned
  pub bytes : after ≡ bytes_after planned before

module _ (ranks before : List ℕ) (room : 256 ≤ length before) where
  plans_laid : {t : Study} {r : Answer} {after : List ℕ} → Lawful t → Plans t ranks before r after → LaidDown (says t) ranks before r after
  plans_laid lawful (plan-wrong-length e) = record { planned = no_plan _; comes = wrong_length e; answered = refl; bytes = refl }
  plans_laid lawful (plan-wrong-entry e) = record { planned = no_plan _; comes = wrong_entry e; answered = refl; bytes = refl }
  plans_laid lawful (plan-no-walk fine l) = record { planned = no_plan _; comes = no_walk fine l; answered = refl; bytes = refl }
  plans_laid lawful (plan-off-walk fine walks l) = record { planned = no_plan _; comes = off_walk_lem fine walks l; answered = refl; bytes = refl }
  plans_laid lawful (plan-ring fine walks met x n) = record { planned = no_plan _; comes = ring fine walks met x n; answered = refl; bytes = refl }
  plans_laid lawful (plan-no-room fine p short) = absurd (omega (arith, straight_plan_short lawful p.straight))
  plans_laid {t} lawful (plan-a-plan {list = list} fine p h) =
      record { planned = the_plan (length t.actions) list; comes = a_plan fine p; answered = refl; bytes = refl }

  laid_plans : {t : Study} {p : Planned} → Lawful t → PlansTo t ranks p → Plans t ranks before (answer_of p) (bytes_after p before)
  laid_plans lawful (wrong_length e) = plan-wrong-length e
  laid_plans lawful (wrong_entry e) = plan-wrong-entry e
  laid_plans lawful (no_walk fine l) = plan-no-walk fine l
  laid_plans lawful (off_walk_lem fine walks l) = plan-off-walk fine walks l
  laid_plans lawful (ring fine walks met x n) = plan-ring fine walks met x n
  laid_plans lawful (a_plan fine p) = plan-a-plan fine p (omega (arith, straight_plan_short lawful p.straight))

  pub laid_down : {r : Answer} {after : List ℕ} (said : Said Study) → LawfulIfHeard said → PlansFile said ranks before r after → LaidDown said ranks before r after
  laid_down (says t) lawful p = plans_laid lawful p
  laid_down (refused number place) lawful p =
      record { planned = no_plan (refusal number place); comes = refl; answered = p.0; bytes = p.1 }

  pub comes_from_planning : (said : Said Study) (p : Planned) → LawfulIfHeard said → SaidPlansTo said ranks p → PlansFile said ranks before (answer_of p) (bytes_after p before)
  comes_from_planning (says t) p lawful c = laid_plans lawful c
  comes_from_planning (refused number place) p lawful c = rw c (refl, refl)

-- ---- one thing, and some

front : (xs rest : List ℕ) (n : ℕ) → n ≡ length xs → take n (xs ++ rest) ≡ xs
front xs rest n e = rw e (take-append_seam xs rest)

same_laid :
    (t : Study) (ranks before : List ℕ) (p q : Planned) → Sound t ranks p → Sound t ranks q → answer_of p ≡ answer_of q
    → bytes_after p before ≡ bytes_after q before → p ≡ q
same_laid t ranks before (no_plan r) (no_plan s) n m e f = ap no_plan e
same_laid t ranks before (no_plan r) (the_plan b ys) n m e f = absurd (n (ap (λ (a : Answer). a.number) e))
same_laid t ranks before (the_plan a xs) (no_plan s) n m e f = absurd (m (ap (λ (a : Answer). a.number) (sym e)))
same_laid t ranks before (the_plan a xs) (the_plan b ys) n m e f =
    let long : length xs ≡ length ys = ap (λ (a : Answer). a.first) e in
    let count : a ≡ b = n.count ∙ sym m.count in
    let same : xs ≡ ys =
    sym (front xs (drop (length xs) before) (length xs) refl) ∙ ap (take (length xs)) f ∙ front ys (drop (length ys) before) (length xs) long in
    cc

abbrev room : List ℕ
room = replicate 256 0

enough : 256 ≤ length room
enough = omega (arith, length-replicate {A = ℕ} 256 0)

pub said_plans_to_one :
    (said : Said Study) → LawfulIfHeard said → (ranks : List ℕ) (p q : Planned) → SaidPlansTo said ranks p → SaidPlansTo said ranks q → p ≡ q
said_plans_to_one (says t) lawful ranks p q c d =
    let (e, f) = plans_determined lawful (laid_plans ranks room enough lawful c) (laid_plans ranks room enough lawful d) in
    same_laid t ranks room p q (plans_sound c) (plans_sound d) e f
said_plans_to_one (refused number place) lawful ranks p q c d = c ∙ sym d

pub said_plans_to_some : (said : Said Study) → LawfulIfHeard said → (ranks : List ℕ) → (p : Planned) × SaidPlansTo said ranks p
said_plans_to_some said lawful ranks =
    let l = laid_down ranks room enough said lawful (planned_file_allowed said lawful ranks room) in (l.planned, l.comes)

-- whatever rides are lent later: a file, a crew and ranks come to one plan, or to one refusal
pub plan_is_one : (file : List ℕ) (crew : ℕ) (ranks : List ℕ) (p q : Planned) → FilePlansTo file crew ranks p → FilePlansTo file crew ranks q → p ≡ q
plan_is_one file crew ranks = said_plans_to_one (reading_for file crew) (hearing_lawful file crew) ranks

-- .. and that is what planning gives into any buffer of 256 bytes or more
pub plan_is_planned :
    (file : List ℕ) (crew : ℕ) (ranks before : List ℕ) → 256 ≤ length before → {r : Answer} {after : List ℕ} → PlansFile (reading_for file crew) ranks before r after
    → LaidDown (reading_for file crew) ranks before r after
plan_is_planned file crew ranks before room = laid_down ranks before room (reading_for file crew) (hearing_lawful file crew)

pub planned_is_plan :
    (file : List ℕ) (crew : ℕ) (ranks before : List ℕ) → 256 ≤ length before → (p : Planned) → FilePlansTo file crew ranks p
    → PlansFile (reading_for file crew) ranks before (answer_of p) (bytes_after p before)
planned_is_plan file crew ranks before room p = comes_from_planning ranks before room (reading_for file crew) p (hearing_lawful file crew)
