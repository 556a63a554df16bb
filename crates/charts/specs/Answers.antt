-- What checking a chart answers: 10 to 12 as planning, 19, 14, 25 to 28, or 0.
-- Assumes nothing.
use Rattle.std.specs.Prelude.{ℕ, ◌≤◌, ◌<◌, ◌≡◌, List, length}
use Rattle.answer.specs.Answers.{three, done, refusal}
use Rattle.answer.specs.declared.Answer.{Answer}
use Rattle.study.specs.Study.{Study}
use Rattle.study.specs.Reading.{Said, says, refused, reading_for}
use Rattle.plans.specs.Plans.{StraightPlan}
use Rattle.orders.specs.Orders.{OnRing}
use Rattle.walks.specs.Walks.{OnAWalk, ComesBefore, Walks, Met}
use Rattle.planning.specs.Refusals.{without_walk, off_walk, with_ring}
use Rattle.planning.specs.Planning.{LowestWithout, LowestOff, FreeOfRings}
use Rattle.charts.specs.Charts.{Chart, chart_of}
use Rattle.charts.specs.Faults.{AllUsable, FirstUnusable, NoneAmiss, LowestAmiss, NoneAstray, FirstAstray, InCircle, NoCircle, NoneLacking, LowestLacking}

-- at most so many actions and pairs
abbrev pub most_actions : ℕ
most_actions = 256

abbrev pub most_pairs : ℕ
most_pairs = 4096

-- there is a straight plan
abbrev pub Plannable : Study → Type 0
Plannable t = (list : List ℕ) × StraightPlan t list

-- there is one, and the chart is within the limits
pub record Within (t : Study) (c : Chart) : Type 0 where
  pub plannable : Plannable t
  pub few_actions : length c.actions ≤ most_actions
  pub few_pairs : length c.pairs ≤ most_pairs

-- .. and each action may be used
pub record Usably (t : Study) (c : Chart) : Type 0 where
  pub within : Within t c
  pub usable : AllUsable t c.actions

-- .. and the list has each walk action once and no other
pub record Listed (t : Study) (c : Chart) : Type 0 where
  pub usably : Usably t c
  pub none_amiss : NoneAmiss t c.actions

-- .. and each pair names two listed actions
pub record WellPaired (t : Study) (c : Chart) : Type 0 where
  pub listed : Listed t c
  pub none_astray : NoneAstray c.actions c.pairs

-- .. and the pairs form no circle
pub record Uncircled (t : Study) (c : Chart) : Type 0 where
  pub paired : WellPaired t c
  pub no_circle : NoCircle c.pairs

-- what checking a chart of a study may answer
pub data Charts (t : Study) (c : Chart) : Answer → Type 0 where
  no_walk : {v b : ℕ} → LowestWithout t v b → Charts t c (without_walk v b)
  off_walk_lem : {i u : ℕ} → Walks t → LowestOff t i u → Charts t c (off_walk i u)
  ring : {n x : ℕ} → Walks t → Met t → OnRing (OnAWalk t) (ComesBefore t) x → FreeOfRings t n → Charts t c (with_ring n)
  too_many_actions : Plannable t → most_actions < length c.actions → Charts t c (refusal 19 (length c.actions))
  too_many_pairs :
      Plannable t → length c.actions ≤ most_actions → most_pairs < length c.pairs → Charts t c (refusal 19 (length c.pairs))
  unusable : {k : ℕ} → Within t c → FirstUnusable t c.actions k → Charts t c (refusal 14 k)
  amiss : {i : ℕ} → Usably t c → LowestAmiss t c.actions i → Charts t c (refusal 25 i)
  astray : {k : ℕ} → Listed t c → FirstAstray c.actions c.pairs k → Charts t c (refusal 26 k)
  circle : {x : ℕ} → WellPaired t c → InCircle c.pairs x → Charts t c (refusal 27 0)
  lacking : {i j : ℕ} → Uncircled t c → LowestLacking t c.pairs i j → Charts t c (three 28 i j)
  fine : Uncircled t c → NoneLacking t c.pairs → Charts t c (done (length c.actions) (length c.pairs))

-- what checking a chart of what a file says to a crew may answer, and so of a file and a crew
abbrev pub ChartsFile : Said Study → Chart → Answer → Type 0
ChartsFile (says t) c r = Charts t c r
ChartsFile (refused number place) c r = r ≡ refusal number place

abbrev pub ChartAllows : List ℕ → ℕ → List ℕ → List ℕ → Answer → Type 0
ChartAllows file crew actions pairs = ChartsFile (reading_for file crew) (chart_of actions pairs)
