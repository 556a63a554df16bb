-- The lowest of the actions on or after a ring that something is so of: of two things, of a thing in other words, and of a thing that one action at most has.
-- Assumes nothing.
use mathlib.Core.Path.{◌≡◌, refl, ◌∙◌}
use mathlib.Core.Logic.{◌⊎◌, inl, inr, ◌≢◌}
use mathlib.Core.List.{List}
use Prim.Native.Nat.{ℕ, ◌<◌}
use native.Mathlib.Omega.{arith}
use native.Mathlib.Decide.{ℕ_discrete}
use Rattle.std.specs.Prelude.{Option, Some, None, is_some, unwrap_or, true}
use Rattle.study.specs.Study.{Study}
use Rattle.explained.specs.Rings.{Stuck}
use Rattle.ringing.specs.Stranded.{LeftAre}
use Rattle.circling.specs.Lowest.{LowerOf, LowestBelow}

-- a number below 256 is one that was found
pub some_below : (o : Option ℕ) → unwrap_or o 256 < 256 → is_some o ≡ true
some_below (Some x) h = refl
some_below None h = absurd (omega (arith, h))

module _ {t : Study} where
  pub lowest_of_none : {P : ℕ → Type 0} {from : ℕ} → ((i : ℕ) → Stuck t i → P i → ⊥) → LowestBelow t P from from
  lowest_of_none none = record { most = omega arith; lowest = λ i s p. absurd (none i s p); is = λ d. absurd (d refl) }

  pub lowest_in_other_words :
      {P Q : ℕ → Type 0} {from r : ℕ} → ((i : ℕ) → P i → Q i) → ((i : ℕ) → Q i → P i) → LowestBelow t P from r → LowestBelow t Q from r
  lowest_in_other_words {r = r} f g l = record {
    most = l.most;
    lowest = λ i s q. l.lowest i s (g i q);
    is = λ d. ((l.is d).0, f r (l.is d).1);
  }

  pub lowest_of_both :
      {P Q : ℕ → Type 0} {from low r : ℕ} → LowestBelow t P from low → LowestBelow t Q low r → LowestBelow t (λ i. P i ⊎ Q i) from r
  lowest_of_both {P} {Q} {from} {low} {r} one other = record {
    most = omega (arith, one.most, other.most);
    lowest = λ i s h. elim h [ inl p ↦ omega (arith, one.lowest i s p, other.most) | inr q ↦ other.lowest i s q ];
    is = from_which (ℕ_discrete r low);
  }
    where
      from_which : Dec (r ≡ low) → r ≢ from → Stuck t r × (P r ⊎ Q r)
      from_which (yes e) d = let (s, p) = one.is (λ f. d (e ∙ f)) in (rw e s, inl (rw e p))
      from_which (no n) d = let (s, q) = other.is n in (s, inr q)

  -- one action has it, and the lower of that and `low` is taken, if it is left
  pub lowest_of_one :
      {P : ℕ → Type 0} {left : List ℕ} {one low r : ℕ} → LeftAre t left → one < 256 → P one → ((i : ℕ) → Stuck t i → P i → i ≡ one)
      → LowerOf left low one r → LowestBelow t P low r
  lowest_of_one {one = one} left_are small has only lower = record {
    most = lower.most;
    lowest = λ i s p. let e = only i s p in rw e (lower.lower ((left_are one small).1 (rw e at s)));
    is = λ d. let (e, w) = lower.is d in (rw e ((left_are one small).0 w), rw e has);
  }
