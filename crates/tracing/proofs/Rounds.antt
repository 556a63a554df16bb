-- The turns of the loop over the variables: what the trace of one more walk ensures takes the loop on, or ends it.
-- Assumes nothing.
use mathlib.Core.Path.{◌≡◌, sym}
use mathlib.Core.List.{List}
use Prim.Native.Nat.{ℕ, ◌+◌, ◌*◌, ◌≤◌, ◌<◌}
use native.Mathlib.Omega.{arith}
use lib.ListN.{length, get_or, set}
use Rattle.study.specs.Study.{Study}
use Rattle.walks.specs.Walks.{start_of, goal_of}
use Rattle.tracing.specs.Facts.{Moves, Tells}
use Rattle.tracing.specs.Steps.{EmptyRow, told, Traces, WalksAll}
use Rattle.std.specs.Prelude.{Ok, Err}
use Rattle.tracing.specs.declared.Break.{Break}
use Rattle.tracing.specs.declared.Break.TheVariants.{At, Round}
use Rattle.tracing.proofs.WalksEntered.{Entered, one_more_entered, breaks_off, goes_round}
use Rattle.tracing.proofs.TraceEnds.{met_told}

-- what the tables must tell for the rows to be those of the study's walks
pub record Told (n a : ℕ) (setters vars pres posts outs starts goals steps₀ : List ℕ) (t : Study) : Type 0 where
  pub moves : Moves a setters vars pres posts outs t
  pub count : n ≡ length t.tasks
  pub tells_start : Tells start_of n starts t
  pub tells_goal : Tells goal_of n goals t
  pub empty : (u : ℕ) → u < 32 → EmptyRow u steps₀

-- where the loop stands
pub record Underway (n a : ℕ) (setters vars pres posts outs starts goals steps₀ steps : List ℕ) (total v : ℕ) : Type 0 where
  pub inside : v ≤ n
  pub few : total ≤ 16 * v
  pub sized : length steps ≡ 512
  pub entered : (t : Study) → Told n a setters vars pres posts outs starts goals steps₀ t → Entered t v steps total

-- what a trace from the end that is entered ensures
abbrev pub TraceEnsures : ℕ → ℕ → ℕ → ℕ → List ℕ → List ℕ → List ℕ → List ℕ → List ℕ → List ℕ → List ℕ → ℕ → Type 0
TraceEnsures v s q a setters vars pres posts outs steps steps' r =
    ((length steps' ≡ 512) × (r < 32 → r ≤ 16 + 0))
    × ((t : Study) → Moves a setters vars pres posts outs t → start_of t v ≡ s → Traces t v q 16 0 (set steps (16 * v + q) 1) steps' (told r))

module _ {n a : ℕ} {setters vars pres posts outs starts goals steps₀ steps : List ℕ} {total v : ℕ}
    (under : Underway n a setters vars pres posts outs starts goals steps₀ steps total v) (low : v < n) (steps' : List ℕ) {r : ℕ}
    (ensures : TraceEnsures v (get_or starts v 0) (get_or goals v 0) a setters vars pres posts outs steps steps' r) where
  traced : (t : Study) → Told n a setters vars pres posts outs starts goals steps₀ t → Traces t v (goal_of t v) 16 0 (set steps (16 * v + goal_of t v) 1) steps' (told r)
  traced t told = rw (told.tells_goal v low) at (ensures.1 t told.moves (sym (told.tells_start v low)))

  -- a walk was entered, or the trace breaks off
  pub goes_on : {k : ℕ} → told r ≡ Ok k → Underway n a setters vars pres posts outs starts goals steps₀ steps' (total + k) (v + 1)
  goes_on {k} is =
      let (e, small) = met_told r k is in
      record {
        inside = omega arith;
        few = omega (arith, under.few, ensures.0.1 small);
        sized = ensures.0.0;
        entered =
            λ t told.
            one_more_entered told.moves.lawful (omega (arith, told.count)) steps total (under.entered t told) steps'
            under.sized (rw is at (traced t told)).comes;
      }

  pub stops :
      (b : Break) → told r ≡ Err b → (t : Study) → Told n a setters vars pres posts outs starts goals steps₀ t
      → WalksAll t n steps' (Err (record { var = v; breaks = b }))
  stops (At p) is t told =
      breaks_off told.moves.lawful (omega (arith, told.count)) steps total (under.entered t told) (rw is at (traced t told)).comes
  stops Round is t told =
      goes_round told.moves.lawful (omega (arith, told.count)) steps total (under.entered t told) (rw is at (traced t told)).comes

  pub stops_broken :
      {p : ℕ} → told r ≡ Err (At p) → (t : Study) → Told n a setters vars pres posts outs starts goals steps₀ t
      → WalksAll t n steps' (Err (record { var = v; breaks = At p }))
  stops_broken is = stops _ is

  pub stops_round :
      told r ≡ Err Round → (t : Study) → Told n a setters vars pres posts outs starts goals steps₀ t
      → WalksAll t n steps' (Err (record { var = v; breaks = Round }))
  stops_round is = stops _ is
