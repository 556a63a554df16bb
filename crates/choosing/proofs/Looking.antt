-- A look at a variable's next action: the rank tells the action and the variable, and what the look notes is right.
-- Assumes nothing.
use mathlib.Core.Path.{◌≡◌, refl, sym, ap, ◌∙◌}
use mathlib.Core.List.{List}
use Prim.Native.Nat.{ℕ, ◌+◌, ◌≤◌, ◌<◌}
use native.Mathlib.Omega.{arith}
use native.Mathlib.Decide.{ℕ_discrete}
use lib.ListN.{length, get_or, set, length-set}
use lib.Seq.{get_or-set_same, get_or-set_other}
use Rattle.opening.specs.Conditions.{HoldUpTo, FirstOpen}
use Rattle.opening.specs.Opening.{step_of}
use Rattle.choosing.specs.Choosing.{HeldRight, Noted, Guarded}
use Rattle.choosing.specs.OpenRight.{Free}

-- ---- the rank of a next action

module _ {file vars places manys steps state ranks room : List ℕ} {n : ℕ} {held : List ℕ}
    (guarded : Guarded file vars places manys steps state ranks room n held) where
  module _ {wants : List ℕ} {v i : ℕ} (free : Free steps wants state n v i) where
    pub rank_below : get_or ranks i 0 < 256
    rank_below = (guarded.by_rank i ((guarded.sound v free.below).next i free.next).0).0

    pub rank_tells : get_or room (get_or ranks i 0) 0 ≡ i
    rank_tells = (guarded.by_rank i ((guarded.sound v free.below).next i free.next).0).1

    pub action_tells : get_or vars i 0 ≡ v
    action_tells = (guarded.sound v free.below).own i free.next

  -- two next actions of one rank are one
  module _ {wants wants' : List ℕ} {v i w j : ℕ} (a : Free steps wants state n v i) (b : Free steps wants' state n w j) (e : get_or ranks i 0 ≡ get_or ranks j 0) where
    pub one_action_lem : i ≡ j
    one_action_lem = sym (rank_tells a) ∙ ap (λ (x : ℕ). get_or room x 0) e ∙ rank_tells b

    pub one_variable : v ≡ w
    one_variable = sym (action_tells a) ∙ ap (λ (x : ℕ). get_or vars x 0) one_action_lem ∙ action_tells b

-- ---- what is noted

pub notes_same : (file places manys steps state held : List ℕ) → Noted file places manys steps state held held
notes_same file places manys steps state held = record { long = refl; right = λ v h. h }

pub noted_again :
    {file places manys steps state held held' held'' : List ℕ}
    → Noted file places manys steps state held held' → Noted file places manys steps state held' held'' → Noted file places manys steps state held held''
noted_again a b = record { long = b.long ∙ a.long; right = λ v h. b.right v (a.right v h) }

-- what was found to hold is noted
pub notes_more :
    {file places manys steps state held : List ℕ} (v i : ℕ) {k : ℕ} → v < 32 → step_of steps state v ≡ i + 2
    → FirstOpen file (get_or places i 0) (get_or manys i 0) state (get_or held v 0) k → length held ≡ 32
    → Noted file places manys steps state held (set held v k)
notes_more {file} {places} {manys} {steps} {state} {held} v i {k} low next first long =
    record { long = length-set held v k; right = λ u h j e. go u h j e (ℕ_discrete u v) }
  where
    one_next : (j : ℕ) → step_of steps state v ≡ j + 2 → j ≡ i
    one_next j e = omega arith

    go :
        (u : ℕ) → HeldRight file places manys steps state held u → (j : ℕ) → step_of steps state u ≡ j + 2 → Dec (u ≡ v)
        → (get_or (set held v k) u 0 ≤ get_or manys j 0) × HoldUpTo file (get_or places j 0) state (get_or (set held v k) u 0)
    go u h j e (no o) = rw (get_or-set_other held v u k 0 o) (h j e)
    go u h j e (yes f) =
        rw (f, get_or-set_same held v k 0 (omega arith), one_next j (rw f at e))
        (first.most, first.hold (rw (f, one_next j (rw f at e)) at (h j e).1))
