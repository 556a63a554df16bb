-- What the report is, and how long: where all seeds are refused alike, and where all give a plan equally long.
-- Assumes nothing.
use Prim.Native.Nat.{ℕ, zero, suc, ◌+◌, ◌*◌, ◌≤◌, ◌<◌}
use native.Mathlib.Nat.{mul-suc}
use native.Mathlib.Omega.{arith}
use mathlib.Core.Path.{◌≡◌, refl, ap}
use mathlib.Core.Bool.{Bool, true, false}
use mathlib.Core.List.{List, [], ◌∷◌, ◌++◌}
use lib.Dec.{eqb}
use lib.ListN.{length, replicate, length-append}
use Rattle.plain.specs.Choose.{pick}
use Rattle.answer.specs.declared.Answer.{Answer}
use Rattle.ranks.specs.Ranks.{one}
use Rattle.varied.specs.Outcomes.{Outcome, planned, barred}
use Rattle.varied.specs.Figures.{plans_among, refused_with, different, standing, listed, rows, positions_of, report_of}
use Rattle.varied.proofs.Alike.{AllPlans}

-- ---- how long

pub listed-length : (f : ℕ → ℕ) (k n : ℕ) → length (listed f k n) ≡ n
unfolding listed
listed-length f k zero = refl
listed-length f k (suc n) = ap suc (listed-length f (suc k) n)

pub rows-length : (plans : List (List ℕ)) (actions at positions : ℕ) → length (rows plans actions at positions) ≡ actions * positions
unfolding rows
rows-length plans actions at zero = omega arith
rows-length plans actions at (suc n) =
    omega (
      arith,
      length-append (listed (standing plans at) 0 actions) (rows plans actions (suc at) n),
      listed-length (standing plans at) 0 actions,
      rows-length plans actions (suc at) n,
      mul-suc actions n,
    )

-- ---- all are refused alike

pub none_planned : (n : ℕ) (r : Answer) → plans_among (replicate n (barred r)) ≡ []
unfolding plans_among
none_planned zero r = refl
none_planned (suc n) r = none_planned n r

counted_none : (b : Bool) → ◌≡◌ {A = ℕ} 0 (pick b 0 0)
counted_none true = refl
counted_none false = refl

counted_more : (b : Bool) (n : ℕ) → one b + pick b n 0 ≡ pick b (suc n) 0
counted_more true n = omega arith
counted_more false n = omega arith

each-refused : (k n : ℕ) (r : Answer) → refused_with k (replicate n (barred r)) ≡ pick (eqb r.number k) n 0
unfolding refused_with
each-refused k zero r = counted_none (eqb r.number k)
each-refused k (suc n) r = rw (each-refused k n r) (counted_more (eqb r.number k) n)

pub barred_report :
    (actions n : ℕ) (r : Answer)
    → report_of actions (replicate n (barred r))
    ≡ 0 ∷ pick (eqb r.number 10) n 0 ∷ pick (eqb r.number 11) n 0 ∷ pick (eqb r.number 12) n 0 ∷ 0 ∷ []
unfolding report_of different rows
barred_report actions n r = rw (none_planned n r, each-refused 10 n r, each-refused 11 n r, each-refused 12 n r)

-- ---- all give a plan

pub plans_among-length : (len : ℕ) (outcomes : List Outcome) → AllPlans len outcomes → length (plans_among outcomes) ≡ length outcomes
unfolding plans_among
plans_among-length len [] all = refl
plans_among-length len (planned list ∷ rest) (e, all) = ap suc (plans_among-length len rest all)
plans_among-length len (barred r ∷ rest) (e, all) = absurd e

none_refused : (k len : ℕ) (outcomes : List Outcome) → AllPlans len outcomes → refused_with k outcomes ≡ 0
unfolding refused_with
none_refused k len [] all = refl
none_refused k len (planned list ∷ rest) (e, all) = none_refused k len rest all
none_refused k len (barred r ∷ rest) (e, all) = absurd e

positions : (len : ℕ) (outcomes : List Outcome) → AllPlans len outcomes → 1 ≤ length outcomes → positions_of (plans_among outcomes) ≡ len
unfolding plans_among
positions len [] all h = absurd (omega arith)
positions len (planned list ∷ rest) (e, all) h = e
positions len (barred r ∷ rest) (e, all) h = absurd e

pub position_within : (len at : ℕ) (outcomes : List Outcome) → AllPlans len outcomes → at < positions_of (plans_among outcomes) → at < len
unfolding plans_among
position_within len at [] all h = absurd (omega arith)
position_within len at (planned list ∷ rest) (e, all) h = omega arith
position_within len at (barred r ∷ rest) (e, all) h = absurd e

module _ (actions len n : ℕ) (outcomes : List Outcome) (all : AllPlans len outcomes) (each : length outcomes ≡ n) (some : 1 ≤ n) where
  pub plans_report : report_of actions outcomes ≡ n ∷ 0 ∷ 0 ∷ 0 ∷ different (plans_among outcomes) ∷ rows (plans_among outcomes) actions 0 len
  unfolding report_of
  plans_report =
      rw (
        plans_among-length len outcomes all,
        each,
        none_refused 10 len outcomes all,
        none_refused 11 len outcomes all,
        none_refused 12 len outcomes all,
        positions len outcomes all (omega arith),
      )

  pub plans_report_length : length (report_of actions outcomes) ≡ 5 + actions * len
  plans_report_length = rw plans_report (omega (arith, rows-length (plans_among outcomes) actions 0 len))

-- ---- one more outcome

pub plans_among_more : (outcomes : List Outcome) (list : List ℕ) → plans_among (outcomes ++ (planned list ∷ [])) ≡ plans_among outcomes ++ (list ∷ [])
unfolding plans_among
plans_among_more [] list = refl
plans_among_more (planned other ∷ rest) list = ap (λ (l : List (List ℕ)). other ∷ l) (plans_among_more rest list)
plans_among_more (barred r ∷ rest) list = plans_among_more rest list

pub all_plans_more :
    (len : ℕ) (outcomes : List Outcome) (list : List ℕ) → AllPlans len outcomes → length list ≡ len → AllPlans len (outcomes ++ (planned list ∷ []))
all_plans_more len [] list all e = (e, tt)
all_plans_more len (o ∷ rest) list (f, all) e = (f, all_plans_more len rest list all e)
