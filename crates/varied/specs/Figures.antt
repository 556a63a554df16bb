-- The figures of a report, by counting: how many plans, how many refusals of each number, how many different plans, and how often each action stood at each position.
-- Assumes nothing.
use Rattle.std.specs.Prelude.{ℕ, zero, suc, ◌+◌, Bool, true, false, not, ◌&&◌, ◌||◌, List, [], ◌∷◌, ◌++◌, map, eqb, length, get_or}
use Rattle.answer.specs.declared.Answer.{Answer}
use Rattle.ranks.specs.Ranks.{one}
use Rattle.planning.specs.Refusals.{without_walk, off_walk, with_ring}
use Rattle.varied.specs.Outcomes.{Outcome, planned, barred}

unfoldable pub plans_among : List Outcome → List (List ℕ)
plans_among [] = []
plans_among (planned list ∷ rest) = list ∷ plans_among rest
plans_among (barred r ∷ rest) = plans_among rest

-- how many were refused with a number
unfoldable pub refused_with : ℕ → List Outcome → ℕ
refused_with n [] = 0
refused_with n (planned list ∷ rest) = refused_with n rest
refused_with n (barred r ∷ rest) = one (eqb r.number n) + refused_with n rest

-- the refusals that are counted, in the order in which planning tests them
abbrev pub counted_refusals : List ℕ
counted_refusals = (without_walk 0 0).number ∷ (off_walk 0 0).number ∷ (with_ring 0).number ∷ []

-- two lists are the same
unfoldable pub same_list : List ℕ → List ℕ → Bool
same_list [] [] = true
same_list [] (y ∷ ys) = false
same_list (x ∷ xs) [] = false
same_list (x ∷ xs) (y ∷ ys) = eqb x y && same_list xs ys

unfoldable pub is_among : List ℕ → List (List ℕ) → Bool
is_among p [] = false
is_among p (other ∷ rest) = same_list p other || is_among p rest

-- how many different lists: each counts where it stands last
unfoldable pub different : List (List ℕ) → ℕ
different [] = 0
different (p ∷ rest) = one (not (is_among p rest)) + different rest

-- in how many plans the action stands at the position
unfoldable pub standing : List (List ℕ) → ℕ → ℕ → ℕ
standing [] at i = 0
standing (p ∷ rest) at i = one (eqb (get_or p at 0) i) + standing rest at i

-- f of n numbers in a row, from k on
unfoldable pub listed : (ℕ → ℕ) → ℕ → ℕ → List ℕ
listed f k zero = []
listed f k (suc n) = f k ∷ listed f (suc k) n

-- a row for each of so many positions from this one on, and in it a figure for each action
unfoldable pub rows : List (List ℕ) → (actions : ℕ) → (at : ℕ) → (positions : ℕ) → List ℕ
rows plans actions at zero = []
rows plans actions at (suc n) = listed (standing plans at) 0 actions ++ rows plans actions (suc at) n

-- how many positions: the length of the first plan, 0 where there is none
abbrev pub positions_of : List (List ℕ) → ℕ
positions_of [] = 0
positions_of (p ∷ rest) = length p

unfoldable pub report_of : ℕ → List Outcome → List ℕ
report_of actions outcomes =
    length (plans_among outcomes)
    ∷ (map (λ n. refused_with n outcomes) counted_refusals
    ++ (different (plans_among outcomes) ∷ rows (plans_among outcomes) actions 0 (positions_of (plans_among outcomes))))
