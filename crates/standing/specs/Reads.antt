-- Where the reading stands: the tables and the place answer to the definition of what a file says.
-- Assumes nothing.
use Rattle.std.specs.Prelude.{ℕ, ◌+◌, ◌-◌, ◌*◌, ◌≤◌, ◌<◌, ◌≡◌, ◌≢◌, Bool, List, leb, length, get_or}
use Rattle.plain.specs.Choose.{pick}
use Rattle.bits.specs.Bits.{bit}
use Rattle.study.specs.Study.{Task, Roster, task_at}
use Rattle.study.specs.Reading.{says, refused, Draft, Verdict, settled, onward, last_action, above, may_follow_lem, read_on, reading}
use Rattle.study.specs.Uses.{uses}
use Rattle.records.specs.declared.Found.{Found}
use Rattle.records.specs.declared.Found.TheVariants.{There, Unknown, Cut, Ended}
use Rattle.tables.specs.Tables.{Tables, Sized, HoldsCounts, HoldsActions, HoldsCrews, HoldsRoster}
use Rattle.lawful.proofs.Order.{stage}
use Rattle.advancing.specs.declared.Progress.{Progress}
use Rattle.advancing.specs.declared.Step.{Step}
use Rattle.advancing.specs.declared.Step.TheVariants.{On, Refused, Done}

-- where no whole record of a known kind stands
abbrev pub not_there_lem : Bool → ℕ → Found → Step
not_there_lem left last (There kind start next) = Refused 0 start
not_there_lem left last (Unknown place) = Refused 2 place
not_there_lem left last (Cut kind place) = Refused (pick (may_follow_lem left last kind) 1 3) place
not_there_lem left last (Ended place) = Refused 1 place

-- before the first record
abbrev pub origin : Progress
origin = record { at = 0; situation = 0; vars = 0; actions = 0; tasks = 0; last = 0; own = 0; above = 0; many = 0; crews = 0; used = 0 }

-- what keeps every index and every sum in range, wherever the bytes come from
pub record Bounds (p : Progress) (counts : List ℕ) : Type 0 where
  pub known_situation : p.situation ≤ 7
  pub few_vars : p.vars ≤ 32
  pub few_actions : p.actions ≤ 256
  pub few_tasks : p.tasks ≤ p.vars
  pub small : (v : ℕ) → v < p.vars → get_or counts v 0 ≤ 16
  pub low : p.above ≤ 32
  pub fewer : p.many ≤ p.above
  pub few_crews : p.crews ≤ 8
  pub room_for_one : p.last ≢ 5 → p.crews < 8
  pub short : p.last ≢ 5 → p.at ≤ 2 + 2 * p.vars + (102 * p.actions + (3 * p.above + (4 * p.tasks + 134 * p.crews)))
  pub shorter : 2 ≤ p.last → p.last ≤ 3 → p.at + 2 ≤ 2 + 2 * p.vars + (102 * p.actions + (3 * p.above + (4 * p.tasks + 134 * p.crews)))
  pub seeded : p.last ≡ 5 → p.at + 1 ≤ 2 + 2 * p.vars + (102 * p.actions + (3 * p.above + 134 * p.crews))
  pub back : p.last ≢ 5 → 4 * p.tasks ≤ p.at
  pub unread : p.last ≡ 0 → p.at ≡ 0
  pub some_action : 2 ≤ p.last → p.last ≤ 3 → 1 ≤ p.actions

-- .. in a file
pub record Safe (file : List ℕ) (p : Progress) (counts : List ℕ) : Type 0 where
  pub inside : p.at ≤ length file
  pub bounds : Bounds p counts

-- the counts of values and the numbers answer to what has been read: they tell every fault of a record
pub record Knows (p : Progress) (table : List ℕ) (d : Draft) : Type 0 where
  pub situation : p.situation ≡ d.study.situation
  pub counts : HoldsCounts p.vars table d.study.counts
  pub actions : p.actions ≡ length d.study.actions
  pub tasks : p.tasks ≡ length d.study.tasks
  pub last : p.last ≡ d.last
  pub own : p.own ≡ (last_action d.study).var
  pub above : (v : ℕ) → leb p.above v ≡ above (last_action d.study).conditions v
  pub used : (v : ℕ) → bit p.used v ≡ uses d.study.actions v
  pub crews : p.crews ≡ length d.crews

-- the tasks of the crew that is being read stand right behind each other, up to a place
pub record Behind (file : List ℕ) (at n : ℕ) (tasks : List Task) : Type 0 where
  pub count : n ≡ length tasks
  pub room : 4 * n ≤ at
  pub start : (v : ℕ) → v < n → get_or file (at - 4 * n + 4 * v + 2) 0 ≡ (task_at tasks v).start
  pub goal : (v : ℕ) → v < n → get_or file (at - 4 * n + 4 * v + 3) 0 ≡ (task_at tasks v).goal

-- .. and so do all the tables, with where each crew begins, and the place
pub record Stands (file : List ℕ) (p : Progress) (t : Tables) (begins : List ℕ) (d : Draft) : Type 0 where
  pub knows : Knows p t.counts d
  pub sized : Sized t
  pub actions : HoldsActions file d.study.situation p.actions t.acts d.study.actions
  pub no_actions : p.last ≡ 0 → p.actions ≡ 0
  pub placed : length d.places ≡ length d.study.actions
  pub places : (i : ℕ) → i < p.actions → get_or t.acts.places i 0 ≡ get_or d.places i 0 + 4
  pub no_tasks : stage p.last ≤ 3 → p.tasks ≡ 0
  pub tasks : p.last ≢ 5 → Behind file p.at p.tasks d.study.tasks
  pub no_crews : stage p.last ≤ 3 → p.crews ≡ 0
  pub crews : HoldsCrews file p.vars p.crews begins d.crews
  pub next-condition : 2 ≤ p.last → p.last ≤ 3 → get_or t.acts.places (p.actions - 1) 0 + 3 * p.many ≡ p.at
  pub counted : 2 ≤ p.last → p.last ≤ 3 → get_or t.acts.manys (p.actions - 1) 0 ≡ p.many
  pub still_in : 2 ≤ p.last → p.last ≤ 3 → get_or t.acts.outs (p.actions - 1) 0 ≡ 0

-- what a file says is what is read on from a place, with what has been read before it; `looks` are enough to its end
pub record Reached (file : List ℕ) (at : ℕ) (d : Draft) : Type 0 where
  pub looks : ℕ
  pub enough : length file < looks + at
  pub reads : reading file ≡ read_on looks file at d

-- a step goes on further down the file, and stays safe
abbrev pub Further : List ℕ → ℕ → List ℕ → Step → Type 0
Further file at counts (On p) = (at < p.at) × Safe file p counts
Further file at counts (Refused n place) = Unit {0}
Further file at counts (Done p) = Unit {0}

-- a step answers to the verdict on the record
abbrev pub Meets : List ℕ → Verdict → Tables → List ℕ → Step → Type 0
Meets file v t begins (On p) = (d : Draft) × (v ≡ onward p.at d) × Stands file p t begins d
Meets file v t begins (Refused n place) = v ≡ settled (refused n place)
Meets file v t begins (Done p) = (r : Roster) × (v ≡ settled (says r)) × HoldsRoster file p.vars p.actions p.crews t begins r
