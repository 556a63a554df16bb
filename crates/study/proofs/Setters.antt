-- Some action of a list, in force, sets a variable to a value exactly where one can be named.
-- Assumes nothing.
use mathlib.Core.Path.{◌≡◌, refl}
use mathlib.Core.Logic.{◌⊎◌, inl, inr, ◌↔◌}
use mathlib.Core.Bool.{true, ◌&&◌, ◌||◌, and-eq-true_iff, or-true, or-false, or_assoc, false≢true}
use mathlib.Core.List.{List, [], ◌∷◌, ◌++◌}
use Prim.Native.Nat.{ℕ, zero, suc, ◌<◌}
use native.Mathlib.Omega.{arith}
use lib.Dec.{eqb}
use lib.ListN.{length, set}
use borrow.Author.Tests.{eqb-true, eq-eqb}
use Rattle.plain.proofs.Tests.{either}
use Rattle.study.specs.Study.{Action, in_force, action_at}
use Rattle.study.specs.Reading.{sets_to, sets}

-- action i of the list is in force and sets the variable to the value
pub record SetsAt (situation : ℕ) (actions : List Action) (v q i : ℕ) : Type 0 where
  pub there : i < length actions
  pub in_force_lem : in_force situation (action_at actions i) ≡ true
  pub var : (action_at actions i).var ≡ v
  pub post : (action_at actions i).post ≡ q

module _ (situation : ℕ) where
  -- the first of the list does, or one of the others
  pub sets_first : (a : Action) (rest : List Action) (v q : ℕ) → (sets_to situation a v q ≡ true) ↔ SetsAt situation (a ∷ rest) v q 0
  sets_first a rest v q = (from, λ s. rw (s.in_force_lem, eq-eqb a.var v s.var, eq-eqb a.post q s.post))
    where
      from : sets_to situation a v q ≡ true → SetsAt situation (a ∷ rest) v q 0
      from e =
          let h = (and-eq-true_iff (in_force situation a) (eqb a.var v && eqb a.post q)).0 e in
          let t = (and-eq-true_iff (eqb a.var v) (eqb a.post q)).0 h.1 in
          record { there = omega arith; in_force_lem = h.0; var = eqb-true a.var v t.0; post = eqb-true a.post q t.1 }

  pub sets_later : (a : Action) (rest : List Action) (v q i : ℕ) → SetsAt situation rest v q i ↔ SetsAt situation (a ∷ rest) v q (suc i)
  sets_later a rest v q i = (
    λ s. record { there = omega (arith, s.there); in_force_lem = s.in_force_lem; var = s.var; post = s.post },
    λ s. record { there = omega (arith, s.there); in_force_lem = s.in_force_lem; var = s.var; post = s.post },
  )

  pub one_sets : (actions : List Action) (v q i : ℕ) → SetsAt situation actions v q i → sets situation actions v q ≡ true
  unfolding sets
  one_sets [] v q i s = absurd (omega (arith, s.there))
  one_sets (a ∷ rest) v q zero s = rw ((sets_first a rest v q).1 s)
  one_sets (a ∷ rest) v q (suc i) s = rw (one_sets rest v q i ((sets_later a rest v q i).1 s)) (or-true (sets_to situation a v q))

  pub who_sets : (actions : List Action) (v q : ℕ) → sets situation actions v q ≡ true → (i : ℕ) × SetsAt situation actions v q i
  unfolding sets
  who_sets [] v q e = absurd (false≢true e)
  who_sets (a ∷ rest) v q e = from (either (sets_to situation a v q) (sets situation rest v q) e) (who_sets rest v q)
    where
      from :
          (sets_to situation a v q ≡ true) ⊎ (sets situation rest v q ≡ true)
          → (sets situation rest v q ≡ true → (i : ℕ) × SetsAt situation rest v q i) → (i : ℕ) × SetsAt situation (a ∷ rest) v q i
      from (inl e) f = (0, (sets_first a rest v q).0 e)
      from (inr e) f = let (i, s) = f e in (suc i, (sets_later a rest v q i).0 s)

  -- with one action more
  pub sets_more :
      (actions : List Action) (a : Action) (v q : ℕ)
      → sets situation (actions ++ (a ∷ [])) v q ≡ (sets situation actions v q || sets_to situation a v q)
  unfolding sets
  sets_more [] a v q = or-false (sets_to situation a v q)
  sets_more (b ∷ rest) a v q = rw (sets_more rest a v q, or_assoc (sets_to situation b v q) (sets situation rest v q) (sets_to situation a v q))
