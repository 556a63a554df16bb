-- The lists that lent bytes stand for: a byte for each variable; five for each action, the fourth its situations, the last how many conditions it takes; two for each condition; five for each crew, how many tasks it takes and then its seed, most significant first; three for each task. No input stands for none: an entry that is cut short, and a condition or a task that is announced and not lent, has 255 for each of its bytes; conditions that no action takes are those of one more action, whose numbers are 255, and tasks that no crew takes are those of one more crew, each byte of whose seed is 255. No record with such a number is allowed, so a slip shows as a refusal.
-- Assumes nothing.
use Rattle.std.specs.Prelude.{ℕ, zero, suc, ◌+◌, ◌*◌, List, [], ◌∷◌, drop}
use Rattle.study.specs.Study.{Condition, Action, always}
use Rattle.spelling.specs.Lists.{Errand, Team, Lists}

-- what stands for a number that is not lent
abbrev pub unlent : ℕ
unlent = 255

abbrev pub unlent_condition : Condition
unlent_condition = record { var = unlent; value = unlent }

abbrev pub unlent_errand : Errand
unlent_errand = record { var = unlent; start = unlent; goal = unlent }

-- an action that is not lent whole takes all the conditions that are left
abbrev pub unlent_action : List Condition → Action
unlent_action conditions = record { var = unlent; pre = unlent; post = unlent; conditions = conditions; situations = always }

-- four bytes, most significant first
abbrev pub number : ℕ → ℕ → ℕ → ℕ → ℕ
number a b c d = ((a * 256 + b) * 256 + c) * 256 + d

-- a crew that is not lent whole takes all the tasks that are left
abbrev pub unlent_team : List Errand → Team
unlent_team tasks = record { tasks = tasks; seed = number unlent unlent unlent unlent }

unfoldable pub conditions_in : List ℕ → List Condition
conditions_in [] = []
conditions_in (v ∷ []) = unlent_condition ∷ []
conditions_in (v ∷ q ∷ rest) = record { var = v; value = q } ∷ conditions_in rest

-- the first n of them, and for those that are not lent what stands for them
unfoldable pub first_of : {A : Type 0} → A → ℕ → List A → List A
first_of other zero xs = []
first_of other (suc n) [] = other ∷ first_of other n []
first_of other (suc n) (x ∷ rest) = x ∷ first_of other n rest

-- conditions with no action left to take them
unfoldable pub left : List Condition → List Action
left [] = []
left (c ∷ rest) = unlent_action (c ∷ rest) ∷ []

unfoldable pub actions_in : List ℕ → List Condition → List Action
actions_in [] conditions = left conditions
actions_in (v ∷ []) conditions = unlent_action conditions ∷ []
actions_in (v ∷ p ∷ []) conditions = unlent_action conditions ∷ []
actions_in (v ∷ p ∷ q ∷ []) conditions = unlent_action conditions ∷ []
actions_in (v ∷ p ∷ q ∷ s ∷ []) conditions = unlent_action conditions ∷ []
actions_in (v ∷ p ∷ q ∷ s ∷ n ∷ rest) conditions =
    record { var = v; pre = p; post = q; conditions = first_of unlent_condition n conditions; situations = s } ∷ actions_in rest (drop n conditions)

-- how many conditions the actions take
unfoldable pub announced : List ℕ → ℕ
announced [] = 0
announced (v ∷ []) = 0
announced (v ∷ p ∷ []) = 0
announced (v ∷ p ∷ q ∷ []) = 0
announced (v ∷ p ∷ q ∷ s ∷ []) = 0
announced (v ∷ p ∷ q ∷ s ∷ n ∷ rest) = n + announced rest

unfoldable pub errands_in : List ℕ → List Errand
errands_in [] = []
errands_in (v ∷ []) = unlent_errand ∷ []
errands_in (v ∷ p ∷ []) = unlent_errand ∷ []
errands_in (v ∷ p ∷ q ∷ rest) = record { var = v; start = p; goal = q } ∷ errands_in rest

-- tasks with no crew left to take them
unfoldable pub untaken : List Errand → List Team
untaken [] = []
untaken (t ∷ rest) = unlent_team (t ∷ rest) ∷ []

unfoldable pub crews_in : List ℕ → List Errand → List Team
crews_in [] tasks = untaken tasks
crews_in (n ∷ []) tasks = unlent_team tasks ∷ []
crews_in (n ∷ a ∷ []) tasks = unlent_team tasks ∷ []
crews_in (n ∷ a ∷ b ∷ []) tasks = unlent_team tasks ∷ []
crews_in (n ∷ a ∷ b ∷ c ∷ []) tasks = unlent_team tasks ∷ []
crews_in (n ∷ a ∷ b ∷ c ∷ d ∷ rest) tasks =
    record { tasks = first_of unlent_errand n tasks; seed = number a b c d } ∷ crews_in rest (drop n tasks)

-- how many tasks the crews take
unfoldable pub tasks_announced : List ℕ → ℕ
tasks_announced [] = 0
tasks_announced (n ∷ []) = 0
tasks_announced (n ∷ a ∷ []) = 0
tasks_announced (n ∷ a ∷ b ∷ []) = 0
tasks_announced (n ∷ a ∷ b ∷ c ∷ []) = 0
tasks_announced (n ∷ a ∷ b ∷ c ∷ d ∷ rest) = n + tasks_announced rest

abbrev pub lent : ℕ → (variables actions conditions crews tasks : List ℕ) → Lists
lent situation variables actions conditions crews tasks =
    record {
      situation = situation;
      variables = variables;
      actions = actions_in actions (conditions_in conditions);
      crews = crews_in crews (errands_in tasks);
    }
