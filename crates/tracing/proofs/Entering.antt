-- Ways entered in the table of steps, from the last action to the first: the row of a whole way, and the other rows.
-- Assumes nothing.
use mathlib.Core.Path.{◌≡◌, refl, sym, ap, ◌∙◌}
use mathlib.Core.Logic.{◌≢◌}
use mathlib.Core.List.{List, [], ◌∷◌, ◌++◌}
use Prim.Native.Nat.{ℕ, ◌+◌, ◌*◌, ◌<◌}
use native.Mathlib.Omega.{arith}
use native.Mathlib.Decide.{dec_lt}
use lib.ListN.{length, get_or, set, length-append, get_or-append}
use lib.Seq.{get_or-set_same, get_or-set_other, get_or-append_seam}
use Rattle.study.specs.Study.{Study}
use Rattle.lawful.specs.Lawful.{Lawful}
use Rattle.walks.specs.Walks.{Way, pre_of, start_of}
use Rattle.walks.proofs.Leads.{leads_each}
use Rattle.walks.proofs.Ways.{way_ends_once}
use Rattle.tracing.specs.Steps.{RowTo, EmptyRow, Enters}
use Rattle.tracing.proofs.Ranges.{pre_small}

pub enters_nothing : (t : Study) (v : ℕ) (steps : List ℕ) → Enters t v [] steps steps
enters_nothing t v steps = record { leaves = λ k h. absurd (omega arith); stays = λ j f. refl }

-- place by place, a list made longer
module _ (list : List ℕ) (i : ℕ) where
  old : (k : ℕ) → k < length list → get_or (list ++ (i ∷ [])) k 0 ≡ get_or list k 0
  old k h = get_or-append list (i ∷ []) 0 k h

  new : get_or (list ++ (i ∷ [])) (length list) 0 ≡ i
  new = get_or-append_seam list i [] 0

  one_more : length (list ++ (i ∷ [])) ≡ length list + 1
  one_more = length-append list (i ∷ [])

-- the last action of a way entered first, and then those before it
module _ {t : Study} (lawful : Lawful t) {v : ℕ} (i : ℕ) {list : List ℕ} (steps : List ℕ) {steps' : List ℕ}
    (inside : 16 * v + pre_of t i < length steps) (way : Way t v (pre_of t i) list)
    (before : Enters t v list (set steps (16 * v + pre_of t i) (i + 2)) steps') where
  -- no action before it leaves the same value
  new_stays : get_or steps' (16 * v + pre_of t i) 0 ≡ i + 2
  new_stays =
      before.stays (16 * v + pre_of t i) (λ k h e. way_ends_once lawful way k h (omega arith))
      ∙ get_or-set_same steps (16 * v + pre_of t i) (i + 2) 0 inside

  pub enters_longer : Enters t v (list ++ (i ∷ [])) steps steps'
  enters_longer =
      record {
        leaves = λ k h. leaves k h (dec_lt k (length list));
        stays = λ j f.
            before.stays j (λ k h e. f k (omega (arith, one_more list i)) (ap (λ (x : ℕ). 16 * v + pre_of t x) (old list i k h) ∙ e))
            ∙ get_or-set_other steps (16 * v + pre_of t i) j (i + 2) 0
            (λ e. f (length list) (omega (arith, one_more list i)) (ap (λ (x : ℕ). 16 * v + pre_of t x) (new list i) ∙ sym e));
      }
    where
      leaves : (k : ℕ) → k < length (list ++ (i ∷ [])) → Dec (k < length list)
          → get_or steps' (16 * v + pre_of t (get_or (list ++ (i ∷ [])) k 0)) 0 ≡ get_or (list ++ (i ∷ [])) k 0 + 2
      leaves k h (yes g) = rw (old list i k g) (before.leaves k g)
      leaves k h (no g) = let e : k ≡ length list = omega (arith, one_more list i) in rw (e, new list i) new_stays

-- the other rows are the same
abbrev pub SameRows : ℕ → List ℕ → List ℕ → Type 0
SameRows v steps steps' = (u x : ℕ) → u ≢ v → x < 16 → get_or steps' (16 * u + x) 0 ≡ get_or steps (16 * u + x) 0

-- a way entered in an empty row, after its end
module _ {t : Study} (lawful : Lawful t) {v q : ℕ} {list : List ℕ} (steps : List ℕ) {steps' : List ℕ}
    (way : Way t v q list) (entered : Enters t v list (set steps (16 * v + q) 1) steps') where
  pub row_entered : 16 * v + q < length steps → EmptyRow v steps → RowTo t v list q steps'
  row_entered inside empty =
      record {
        leaves = entered.leaves;
        ends =
            entered.stays (16 * v + q) (λ k h e. way_ends_once lawful way k h (omega arith))
            ∙ get_or-set_same steps (16 * v + q) 1 0 inside;
        off = λ x h d f.
            entered.stays (16 * v + x) (λ k g e. f k g (omega arith))
            ∙ get_or-set_other steps (16 * v + q) (16 * v + x) 1 0 (λ e. d (omega arith))
            ∙ empty x h;
      }

  pub same_rows : q < 16 → SameRows v steps steps'
  same_rows small u x d h =
      entered.stays (16 * u + x)
      (λ k g e. d (omega (arith, pre_small lawful _ (leads_each t v (start_of t v) list q way.leads k g).0.there)))
      ∙ get_or-set_other steps (16 * v + q) (16 * u + x) 1 0 (λ e. d (omega arith))
