-- What the program prints of a file for a crew is determined.
-- Assumes nothing.
use mathlib.Core.Path.{◌≡◌, refl, sym, ap, ◌∙◌}
use mathlib.Core.List.{List}
use Prim.Native.Nat.{ℕ}
use Rattle.answer.specs.declared.Answer.{Answer}
use Rattle.study.specs.Study.{Study}
use Rattle.study.specs.Reading.{Said, says, refused, reading_for}
use Rattle.lawful.proofs.Loads.{heard_lawful}
use Rattle.planning.proofs.Determined.{plans_determined}
use Rattle.plan.specs.Printed.{actions_of, text_of, Printed}

same_text :
    {said : Said Study} {text other : List ℕ} (p : Printed said text) (q : Printed said other)
    → (p.answer ≡ q.answer) × (p.buffer ≡ q.buffer) → text ≡ other
same_text {said} p q (e, f) =
    p.told
    ∙ ap (λ (r : Answer). text_of (actions_of said) r p.buffer) e
    ∙ ap (λ (b : List ℕ). text_of (actions_of said) q.answer b) f
    ∙ sym q.told

said_once :
    (file : List ℕ) (crew : ℕ) (said : Said Study) → reading_for file crew ≡ said → {text other : List ℕ} → Printed said text → Printed said other → text ≡ other
said_once file crew (says t) e p q = same_text p q (plans_determined (heard_lawful file crew t e) p.plans q.plans)
said_once file crew (refused number place) e p q =
    same_text p q (p.plans.0 ∙ sym q.plans.0, p.plans.1 ∙ sym q.plans.1)

pub printed_once :
    (file : List ℕ) (crew : ℕ) {text other : List ℕ} → Printed (reading_for file crew) text → Printed (reading_for file crew) other → text ≡ other
printed_once file crew p q = said_once file crew (reading_for file crew) refl p q
