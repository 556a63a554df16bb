-- The lines of a plan: one step more, and the same lines from the tables as from the study.
-- Assumes nothing.
use mathlib.Core.Path.{◌≡◌, refl, sym, ap, ◌∙◌}
use mathlib.Core.List.{List, [], ◌∷◌, ◌++◌, append_assoc, append-nil}
use Prim.Native.Nat.{ℕ, suc, ◌+◌, ◌≤◌, ◌<◌}
use native.Mathlib.Omega.{arith}
use native.Mathlib.Numerals.{add-one}
use lib.ListN.{length, get_or, take}
use lib.Seq.{take-suc, take_all, length-take-le}
use Rattle.telling.specs.Text.{Shown, first_line, line_of, step_lines, plan_text}

pub lines_more :
    (s : Shown) (step : ℕ) (l : List ℕ) (a : ℕ)
    → step_lines s step (l ++ (a ∷ [])) ≡ step_lines s step l ++ line_of s (step + length l) a
unfolding step_lines
lines_more s step [] a = let e : step + 0 ≡ step = omega arith in rw e (append-nil (line_of s step a))
lines_more s step (b ∷ l) a =
    let e : step + suc (length l) ≡ suc step + length l = omega arith in
    rw e
    (ap (λ (r : List ℕ). line_of s step b ++ r) (lines_more s (suc step) l a)
    ∙ sym (append_assoc (line_of s step b) (step_lines s (suc step) l) (line_of s (suc step + length l) a)))

-- one step more after the text of the first k
pub text_more :
    (s : Shown) (head list : List ℕ) (k : ℕ) {text old : List ℕ} → k < length list
    → text ≡ old ++ line_of s k (get_or list k 0) → old ≡ head ++ step_lines s 0 (take k list)
    → text ≡ head ++ step_lines s 0 (take (k + 1) list)
text_more s head list k {text} {old} h e f =
    let n : 0 + length (take k list) ≡ k = omega (arith, length-take-le k list (omega arith)) in
    e
    ∙ ap (λ (l : List ℕ). l ++ line_of s k (get_or list k 0)) f
    ∙ append_assoc head (step_lines s 0 (take k list)) (line_of s k (get_or list k 0))
    ∙ ap (λ (l : List ℕ). head ++ l)
    (rw (add-one k, take-suc list k 0 h, lines_more s 0 (take k list) (get_or list k 0), n))

pub text_all :
    (s : Shown) (list : List ℕ) (k : ℕ) {text : List ℕ} → length list ≤ k
    → text ≡ first_line (length list) ++ step_lines s 0 (take k list) → text ≡ plan_text s list
text_all s list k h e = e ∙ ap (λ (l : List ℕ). first_line (length list) ++ step_lines s 0 l) (take_all k list h)

-- two accounts of the actions that agree on those of a list
pub record Agree (s u : Shown) (a : ℕ) : Type 0 where
  pub var : s.var a ≡ u.var a
  pub pre : s.pre a ≡ u.pre a
  pub post : s.post a ≡ u.post a

pub lines_agree :
    (s u : Shown) (step : ℕ) (l : List ℕ)
    → ((k : ℕ) → k < length l → Agree s u (get_or l k 0)) → step_lines s step l ≡ step_lines u step l
unfolding step_lines
lines_agree s u step [] f = refl
lines_agree s u step (a ∷ l) f =
    let g = f 0 (omega arith) in
    rw (g.var, g.pre, g.post, lines_agree s u (suc step) l (λ k h. f (suc k) (omega arith)))
