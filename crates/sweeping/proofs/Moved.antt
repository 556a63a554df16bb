-- Moves one after another: joined they are moves, and what guides the first guides those after them.
-- Assumes nothing.
use mathlib.Core.Path.{◌≡◌, refl, subst}
use mathlib.Core.List.{List}
use Prim.Native.Nat.{ℕ, suc, ◌+◌, ◌≤◌, ◌<◌}
use native.Mathlib.Omega.{arith}
use native.Mathlib.Decide.{ℕ_discrete}
use Rattle.tables.specs.Rows.{Row}
use Rattle.sweeping.specs.Moving.{Stays, Moves, none, more, Guided, Advanced, Passed}

none_added : (k : ℕ) → k ≡ k + 0
none_added k = omega arith

one_added : (k j : ℕ) → suc (k + j) ≡ k + suc j
one_added k j = omega arith

module _ {file : List ℕ} {acts : List Row} {steps : List ℕ} {n : ℕ} where
  as_many :
      {wants state wants₁ state₁ : List ℕ} {k j : ℕ} → k ≡ j
      → Moves file acts steps n wants state k wants₁ state₁ → Moves file acts steps n wants state j wants₁ state₁
  as_many {wants} {state} {wants₁} {state₁} e = subst (λ (m : ℕ). Moves file acts steps n wants state m wants₁ state₁) e

  pub moves_joined :
      {wants state wants₁ state₁ wants₂ state₂ : List ℕ} {k j : ℕ}
      → Moves file acts steps n wants state k wants₁ state₁ → Moves file acts steps n wants₁ state₁ j wants₂ state₂
      → Moves file acts steps n wants state (k + j) wants₂ state₂
  moves_joined {k = k} first none = as_many (none_added k) first
  moves_joined {k = k} first (more {k = j} v i rest h looks) = as_many (one_added k j) (more v i (moves_joined first rest) h looks)

  module _ {wants state : List ℕ} (guided : Guided file acts steps n wants state) where
    pub guided_on :
        {wants₁ state₁ : List ℕ} {k : ℕ} → Moves file acts steps n wants state k wants₁ state₁ → Guided file acts steps n wants₁ state₁
    guided_on first j wants₂ state₂ rest =
        let g = guided _ _ _ (moves_joined first rest) in
        (g.0, omega (arith, g.1))

    pub few_moves : {wants₁ state₁ : List ℕ} {k : ℕ} → Moves file acts steps n wants state k wants₁ state₁ → k ≤ 256
    few_moves moves = (guided _ _ _ moves).1

  -- no move at all leaves all as it was
  pub no_moves :
      {wants state wants₁ state₁ : List ℕ} {k : ℕ} → Moves file acts steps n wants state k wants₁ state₁ → k ≡ 0 → (wants₁ ≡ wants) × (state₁ ≡ state)
  no_moves none e = (refl, refl)
  no_moves (more v i rest h looks) e = absurd (omega arith)

-- ---- a pass over the variables

-- k moves while the variables below v had their turn; if none, none of them can move
pub record Passing (file : List ℕ) (acts : List Row) (steps : List ℕ) (n : ℕ) (wants state : List ℕ) (k v : ℕ) (wants₁ state₁ : List ℕ) : Type 0 where
  pub within : v ≤ n
  pub moves : Moves file acts steps n wants state k wants₁ state₁
  pub stay : k ≡ 0 → (u : ℕ) → u < v → Stays file acts steps wants state u

module _ {file : List ℕ} {acts : List Row} {steps : List ℕ} {n : ℕ} {wants state : List ℕ} where
  pub passing_starts : Passing file acts steps n wants state 0 0 wants state
  passing_starts = record { within = omega arith; moves = none; stay = λ _ u h. absurd (omega arith) }

  module _ {k v : ℕ} {wants₁ state₁ : List ℕ} (passing : Passing file acts steps n wants state k v wants₁ state₁) where
    pub passing_next :
        {r : ℕ} {wants₂ state₂ : List ℕ} → v < n → Advanced file acts steps n v wants₁ state₁ r wants₂ state₂
        → Passing file acts steps n wants state (k + r) (v + 1) wants₂ state₂
    passing_next {r} {wants₂} {state₂} h advanced = record {
      within = omega arith;
      moves = moves_joined passing.moves advanced.moves;
      stay = λ e u b. go e u b (ℕ_discrete u v);
    }
      where
        go : k + r ≡ 0 → (u : ℕ) → u < v + 1 → Dec (u ≡ v) → Stays file acts steps wants state u
        go e u b (no o) = passing.stay (omega arith) u (omega arith)
        go e u b (yes f) =
            let first = no_moves passing.moves (omega arith) in
            let then = no_moves advanced.moves (omega arith) in
            rw (f, ← first.0, ← first.1, ← then.0, ← then.1) advanced.stays

    pub passing_ends : n ≤ v → Passed file acts steps n wants state k wants₁ state₁
    passing_ends h = record { moves = passing.moves; stay = λ e u b. passing.stay e u (omega (arith, passing.within)) }
