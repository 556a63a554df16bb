-- One text for a file and a crew: what explains the answer is determined.
-- Assumes nothing.
use Prim.Native.Nat.{ℕ}
use native.Mathlib.Omega.{arith}
use mathlib.Core.Path.{◌≡◌, refl, sym, ap, ◌∙◌}
use mathlib.Core.Logic.{◌⊎◌, inl, inr, ◌≢◌}
use mathlib.Core.List.{List, ◌++◌}
use lib.ListN.{take}
use Rattle.answer.specs.declared.Answer.{Answer}
use Rattle.study.specs.Study.{Study}
use Rattle.study.specs.Reading.{Said, says, refused, reading_for}
use Rattle.lawful.specs.Lawful.{Lawful}
use Rattle.lawful.proofs.Loads.{heard_lawful}
use Rattle.walks.specs.Walks.{OnAWalk}
use Rattle.planning.specs.Planning.{Plans, wrong_length, wrong_entry, no_walk, off_walk_lem, ring, no_room, a_plan}
use Rattle.planning.proofs.Determined.{plans_determined}
use Rattle.telling.specs.Text.{refused_line}
use Rattle.explained.specs.Facts.{Fact, fact_lines}
use Rattle.explained.specs.Refusals.{TracedFromGoal, WalkedPast}
use Rattle.explained.specs.Rings.{Circled}
use Rattle.explained.specs.Explained.{plan_explained, Why, broken, off, on_ring, Told, a_plan as tells-plan, not_planned, not_read_lem, Explained}
use Rattle.explained.proofs.Traces.{traced_from_goal_once}
use Rattle.explained.proofs.Walks.{walked_past_once}
use Rattle.explained.proofs.Rings.{circled_once}

-- ---- the three reasons, told apart by the answer's number

abbrev WhyAs : Study → Answer → List Fact → Type 0
WhyAs t r facts =
    ((r.number ≡ 10) × TracedFromGoal t r.first facts)
    ⊎ (((r.number ≡ 11) × WalkedPast t r.first r.second facts) ⊎ ((r.number ≡ 12) × Circled t facts))

why_as : {t : Study} {r : Answer} {facts : List Fact} → Why t r facts → WhyAs t r facts
why_as (broken p) = inl (refl, p)
why_as (off p) = inr (inl (refl, p))
why_as (on_ring p) = inr (inr (refl, p))

why_numbered : {t : Study} {r : Answer} {facts : List Fact} → Why t r facts → r.number ≢ 0
why_numbered (broken p) = omega arith
why_numbered (off p) = omega arith
why_numbered (on_ring p) = omega arith

-- the action of refusal 11 is on a walk
off_on_walk : {t : Study} {ranks before after : List ℕ} {r : Answer} → Plans t ranks before r after → r.number ≡ 11 → OnAWalk t r.first
off_on_walk (wrong_length _) e = absurd (omega arith)
off_on_walk (wrong_entry _) e = absurd (omega arith)
off_on_walk (no_walk _ _) e = absurd (omega arith)
off_on_walk (off_walk_lem _ _ l) e = l.on_walk_lem
off_on_walk (ring _ _ _ _ _) e = absurd (omega arith)
off_on_walk (no_room _ _ _) e = absurd (omega arith)
off_on_walk (a_plan _ _ _) e = absurd (omega arith)

why_once :
    {t : Study} {r : Answer} {a b : List Fact} → Lawful t → (r.number ≡ 11 → OnAWalk t r.first) → Why t r a → Why t r b → a ≡ b
why_once {t} {r} {a} {b} lawful on p q = go (why_as p) (why_as q)
  where
    go : WhyAs t r a → WhyAs t r b → a ≡ b
    go (inl (e, x)) (inl (f, y)) = traced_from_goal_once lawful x y
    go (inl (e, x)) (inr (inl (f, y))) = absurd (omega arith)
    go (inl (e, x)) (inr (inr (f, y))) = absurd (omega arith)
    go (inr (inl (e, x))) (inl (f, y)) = absurd (omega arith)
    go (inr (inl (e, x))) (inr (inl (f, y))) = walked_past_once lawful (on e) x y
    go (inr (inl (e, x))) (inr (inr (f, y))) = absurd (omega arith)
    go (inr (inr (e, x))) (inl (f, y)) = absurd (omega arith)
    go (inr (inr (e, x))) (inr (inl (f, y))) = absurd (omega arith)
    go (inr (inr (e, x))) (inr (inr (f, y))) = circled_once x y

-- ---- the text of an answer

abbrev refused_text : Answer → List ℕ
refused_text r = refused_line r.number r.first r.second

abbrev TextOf : Said Study → List ℕ → Answer → List ℕ → Type 0
TextOf (says t) buffer r text =
    ((r.number ≡ 0) × (text ≡ plan_explained t (take r.first buffer)))
    ⊎ ((facts : List Fact) × (Why t r facts × (text ≡ refused_text r ++ fact_lines facts)))
TextOf (refused number place) buffer r text = text ≡ refused_text r

told_text : {said : Said Study} {buffer : List ℕ} {r : Answer} {text : List ℕ} → Told said buffer r text → TextOf said buffer r text
told_text tells-plan = inl (refl, refl)
told_text (not_planned {facts = facts} why) = inr (facts, (why, refl))
told_text not_read_lem = refl

module _ {t : Study} (lawful : Lawful t) (buffer : List ℕ) (r : Answer) (on : r.number ≡ 11 → OnAWalk t r.first) where
  text_once : {x y : List ℕ} → TextOf (says t) buffer r x → TextOf (says t) buffer r y → x ≡ y
  text_once (inl (e, p)) (inl (f, q)) = p ∙ sym q
  text_once (inl (e, p)) (inr (facts, (why, q))) = absurd (why_numbered why e)
  text_once (inr (facts, (why, p))) (inl (f, q)) = absurd (why_numbered why f)
  text_once (inr (a, (why, p))) (inr (b, (other, q))) =
      p ∙ ap (λ (l : List Fact). refused_text r ++ fact_lines l) (why_once lawful on why other) ∙ sym q

said_once :
    (file : List ℕ) (crew : ℕ) (said : Said Study) → reading_for file crew ≡ said → {x y : List ℕ} → (p : Explained said x) (q : Explained said y) → x ≡ y
said_once file crew (says t) e {x} {y} p q =
    let lawful = heard_lawful file crew t e in
    let (same, stays) = plans_determined lawful p.plans q.plans in
    text_once lawful p.buffer p.answer (off_on_walk p.plans) (told_text p.told) (rw (same, stays) (told_text q.told))
said_once file crew (refused number place) e p q =
    told_text p.told ∙ ap refused_text (p.plans.0 ∙ sym q.plans.0) ∙ sym (told_text q.told)

pub explained_once : (file : List ℕ) (crew : ℕ) {x y : List ℕ} → Explained (reading_for file crew) x → Explained (reading_for file crew) y → x ≡ y
explained_once file crew p q = said_once file crew (reading_for file crew) refl p q
