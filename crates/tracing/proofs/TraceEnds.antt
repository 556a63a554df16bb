-- What a trace answers at each of its returns.
-- Assumes nothing.
use mathlib.Core.Path.{◌≡◌, refl, sym}
use mathlib.Core.Logic.{inl, inr, ◌≢◌}
use mathlib.Core.List.{List, [], ◌∷◌, ◌++◌}
use Prim.Native.Nat.{ℕ, ◌+◌, ◌-◌, ◌*◌, ◌<◌}
use native.Mathlib.Omega.{arith}
use lib.ListN.{length, set, length-append}
use native.Mathlib.Decide.{ℕ_discrete, dec_lt}
use borrow.Author.Tests.{lt-ltb, le-ltb, ne_eqb}
use Rattle.study.specs.Study.{Study}
use Rattle.lawful.specs.Lawful.{Lawful}
use Rattle.walks.specs.Walks.{pre_of, start_of}
use Rattle.walks.specs.Breaks.{Trail}
use Rattle.walks.proofs.Ways.{way_empty, way_longer}
use Rattle.walks.proofs.Breaks.{trail_joined}
use Rattle.std.specs.Prelude.{Some, None, Result, Ok, Err}
use Rattle.tracing.specs.Steps.{SetterIs, told, ComesTo, Traces}
use Rattle.tracing.specs.declared.Break.{Break}
use Rattle.tracing.specs.declared.Break.TheVariants.{At, Round}
use Rattle.tracing.proofs.Entering.{enters_nothing, enters_longer}

-- ---- what the numbers say

pub told_met : (r : ℕ) → r < 32 → told r ≡ Ok r
told_met r h = rw (lt-ltb r 32 h)

pub told_breaks : (q : ℕ) → q < 16 → told (32 + q) ≡ Err (At q)
told_breaks q h =
    let e : 32 + q - 32 ≡ q = omega arith in
    rw (le-ltb (32 + q) 32 (omega arith), ne_eqb (32 + q) 255 (omega arith), e)

pub met_told : (r k : ℕ) → told r ≡ Ok k → (r ≡ k) × (r < 32)
met_told r k e = go (dec_lt r 32) (ℕ_discrete r 255)
  where
    go : Dec (r < 32) → Dec (r ≡ 255) → (r ≡ k) × (r < 32)
    go (yes h) d = let f = told_met r h in (cc, h)
    go (no h) (yes d) =
        let f : told r ≡ Err Round = rw d in
        let z : ◌≡◌ {A = ℕ} 0 1 = cc in
        absurd (omega arith)
    go (no h) (no d) =
        let f : told r ≡ Err (At (r - 32)) = rw (le-ltb r 32 (omega arith), ne_eqb r 255 d) in
        let z : ◌≡◌ {A = ℕ} 0 1 = cc in
        absurd (omega arith)

-- ---- at each return

module _ (t : Study) (v q left passed : ℕ) (steps : List ℕ) where
  pub at_start_lem : start_of t v ≡ q → Traces t v q left passed steps steps (Ok passed)
  at_start_lem e = record { comes = ([], (rw (← e) way_empty, (omega arith, enters_nothing t v steps))) }

  standing : Trail t v q [] q
  standing = record { leads = refl; new = λ i h. absurd h }

  -- nothing may be passed any more
  pub no_more_left : left ≡ 0 → Traces t v q left passed steps steps (Err Round)
  no_more_left e = record { comes = (q, ([], (standing, sym e))) }

  module _ (off : q ≢ start_of t v) where
    pub none_sets : SetterIs t v q None → Traces t v q left passed steps steps (Err (At q))
    none_sets none = record { comes = ([], (standing, (off, none))) }

    -- the action that sets the value, with a trace from what it leaves
    module _ (lawful : Lawful t) (some_left : left ≢ 0) {i : ℕ} (setter : SetterIs t v q (Some i)) where
      one_step : Trail t v (pre_of t i) (i ∷ []) q
      one_step =
          record {
            leads = (setter.0, (setter.1, (refl, setter.2)));
            new = λ j h. elim h [ inl e ↦ rw (e, setter.2) off | inr g ↦ absurd g ];
          }

      module _ (inside : 16 * v + pre_of t i < length steps) (after : List ℕ) where
        one_longer :
            (r : Result ℕ Break) → ComesTo t v (pre_of t i) (left - 1) (passed + 1) (set steps (16 * v + pre_of t i) (i + 2)) after r
            → ComesTo t v q left passed steps after r
        one_longer (Ok r) (list, (way, (e, entered))) = (
          list ++ (i ∷ []),
          (
            way_longer setter.0 setter.1 setter.2 off way,
            (omega (arith, length-append list (i ∷ []), e), enters_longer lawful i steps inside way entered),
          ),
        )
        one_longer (Err (At p)) (list, (trail, rest)) = (list ++ (i ∷ []), (trail_joined trail one_step, rest))
        one_longer (Err Round) (p, (list, (trail, e))) =
            (p, (list ++ (i ∷ []), (trail_joined trail one_step, omega (arith, length-append list (i ∷ []), e, some_left))))

        pub goes_back :
            {r : Result ℕ Break} → Traces t v (pre_of t i) (left - 1) (passed + 1) (set steps (16 * v + pre_of t i) (i + 2)) after r
            → Traces t v q left passed steps after r
        goes_back {r} from-there = record { comes = one_longer r from-there.comes }
