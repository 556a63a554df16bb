-- Bytes tell the records that they spell, and records tell the lists that they come from: neither comes from two.
-- Assumes nothing.
use mathlib.Core.Path.{◌≡◌, refl, sym, ap, ◌∙◌}
use mathlib.Core.Logic.{◌≢◌}
use mathlib.Core.Bool.{Bool, true, false}
use mathlib.Core.List.{List, [], ◌∷◌, ◌++◌, map, append_assoc}
use Prim.Native.Nat.{ℕ, ◌+◌, ◌≤◌}
use native.Mathlib.Omega.{arith}
use lib.Dec.{eqb}
use lib.ListN.{drop}
use borrow.Author.Tests.{eqb-true}
use Rattle.plain.specs.Choose.{pick}
use Rattle.plain.proofs.Tests.{picked}
use Rattle.records.specs.declared.Found.TheVariants.{There}
use Rattle.study.specs.Study.{Condition, Action, always}
use Rattle.study.specs.Reading.{Record, variable, seed, times, present, record_from}
use Rattle.lawful.specs.Lengths.{bytes_of}
use Rattle.spelling.specs.Spelling.{kind_of, spelled}
use Rattle.spelling.specs.Lists.{Errand, Team, Lists, condition_record, task_record, times_record, action_records, team_records, behind, crew_records, records_of}
use Rattle.spelling.proofs.Spelled.{some_bytes, record_there, record_is, rest_there, rest_inside}

-- ---- bytes

pub same_records : (rs ts : List Record) → spelled rs ≡ spelled ts → rs ≡ ts
unfolding spelled
same_records [] [] e = refl
same_records [] (t ∷ ts) e = absurd (omega (arith, rest_inside [] (spelled ts) 0 t e, some_bytes t))
same_records (r ∷ rs) [] e = absurd (omega (arith, rest_inside [] (spelled rs) 0 r (sym e), some_bytes r))
same_records (r ∷ rs) (t ∷ ts) e =
    let file = spelled (r ∷ rs) in
    let there : There (kind_of r) (0 + 1) (0 + bytes_of r) ≡ There (kind_of t) (0 + 1) (0 + bytes_of t) =
    sym (record_there file (spelled rs) 0 r refl) ∙ record_there file (spelled ts) 0 t e in
    let kind : kind_of r ≡ kind_of t = cc in
    let bytes : 0 + bytes_of r ≡ 0 + bytes_of t = cc in
    let first : r ≡ t =
    sym (record_is file (spelled rs) 0 r refl) ∙ ap (record_from file (0 + 1)) kind ∙ record_is file (spelled ts) 0 t e in
    let rest : spelled rs ≡ spelled ts =
    sym (rest_there file (spelled rs) 0 r refl) ∙ ap (λ (n : ℕ). drop n file) bytes ∙ rest_there file (spelled ts) 0 t e in
    rw (first, same_records rs ts rest)

-- ---- records

-- the kind of the first, 0 where there is none
abbrev first : List Record → ℕ
first [] = 0
first (r ∷ rs) = kind_of r

-- records of one kind, and others behind them
module _ {A : Type 0} (f : A → Record) (kind : ℕ) (is : (x : A) → kind_of (f x) ≡ kind) (same : (x y : A) → f x ≡ f y → x ≡ y) where
  same_run : (xs ys : List A) (rs ts : List Record) → first rs ≢ kind → first ts ≢ kind → map f xs ++ rs ≡ map f ys ++ ts → (xs ≡ ys) × (rs ≡ ts)
  same_run [] [] rs ts h g e = (refl, e)
  same_run [] (y ∷ ys) rs ts h g e = absurd (h (ap first e ∙ is y))
  same_run (x ∷ xs) [] rs ts h g e = absurd (g (ap first (sym e) ∙ is x))
  same_run (x ∷ xs) (y ∷ ys) rs ts h g e =
      let head : f x ≡ f y = cc in
      let tail : map f xs ++ rs ≡ map f ys ++ ts = cc in
      let (a, b) = same_run xs ys rs ts h g tail in
      (rw (same x y head, a), b)

same_condition : (c d : Condition) → condition_record c ≡ condition_record d → c ≡ d
same_condition c d e =
    let var : c.var ≡ d.var = cc in
    let value : c.value ≡ d.value = cc in
    λ i. record { var = var i; value = value i }

same_errand : (e f : Errand) → task_record e ≡ task_record f → e ≡ f
same_errand e f h =
    let var : e.var ≡ f.var = cc in
    let start : e.start ≡ f.start = cc in
    let goal : e.goal ≡ f.goal = cc in
    λ i. record { var = var i; start = start i; goal = goal i }

-- a record that is there unless its number is one that is not written, and others behind it
module _ (f : ℕ → Record) (kind unwritten : ℕ) (is : (n : ℕ) → kind_of (f n) ≡ kind) (same : (m n : ℕ) → f m ≡ f n → m ≡ n) where
  abbrev written : ℕ → List Record
  written n = pick (eqb n unwritten) [] (f n ∷ [])

  same_written : (m n : ℕ) (rs ts : List Record) → first rs ≢ kind → first ts ≢ kind → written m ++ rs ≡ written n ++ ts → (m ≡ n) × (rs ≡ ts)
  same_written m n rs ts h g = go (eqb m unwritten) (eqb n unwritten) refl refl
    where
      go :
          (a b : Bool) → eqb m unwritten ≡ a → eqb n unwritten ≡ b
          → pick a [] (f m ∷ []) ++ rs ≡ pick b [] (f n ∷ []) ++ ts → (m ≡ n) × (rs ≡ ts)
      go true true p q e = (eqb-true m unwritten p ∙ sym (eqb-true n unwritten q), e)
      go true false p q e = absurd (h (ap first e ∙ is n))
      go false true p q e = absurd (g (ap first (sym e) ∙ is m))
      go false false p q e =
          let head : f m ≡ f n = cc in
          let tail : rs ≡ ts = cc in
          (same m n head, tail)

-- a team's tasks end where its seed comes, and others stand behind it
same_team :
    (k j : Team) (rs ts : List Record) → team_records k ++ rs ≡ team_records j ++ ts → (k ≡ j) × (rs ≡ ts)
same_team k j rs ts e =
    let (tasks, on) =
    same_run task_record 4 (λ t. refl) same_errand k.tasks j.tasks (seed k.seed ∷ rs) (seed j.seed ∷ ts)
    (λ h. omega arith) (λ h. omega arith) (simp append_assoc at e) in
    let number : k.seed ≡ j.seed = cc in
    let rest : rs ≡ ts = cc in
    ((λ i. record { tasks = tasks i; seed = number i }), rest)

-- the first record of a team is a task or its seed
starts_team : (k : Team) (rs : List Record) → (4 ≤ first (team_records k ++ rs)) × (first (team_records k ++ rs) ≤ 5)
starts_team k rs = from k.tasks
  where
    from : (ts : List Errand) → (4 ≤ first ((map task_record ts ++ (seed k.seed ∷ [])) ++ rs)) × (first ((map task_record ts ++ (seed k.seed ∷ [])) ++ rs) ≤ 5)
    from [] = omega arith
    from (t ∷ ts) = omega arith

same_behind : (ks js : List Team) → behind ks ≡ behind js → ks ≡ js
unfolding behind
same_behind [] [] e = refl
same_behind [] (j ∷ js) e = absurd (omega (arith, ap first e))
same_behind (k ∷ ks) [] e = absurd (omega (arith, ap first e))
same_behind (k ∷ ks) (j ∷ js) e =
    let on : team_records k ++ behind ks ≡ team_records j ++ behind js = cc in
    let (one, rest) = same_team k j (behind ks) (behind js) on in
    rw (one, same_behind ks js rest)

same_crews : (ks js : List Team) → crew_records ks ≡ crew_records js → ks ≡ js
unfolding crew_records
same_crews [] [] e = refl
same_crews [] (j ∷ js) e = absurd (omega (arith, ap first e, (starts_team j (behind js)).1))
same_crews (k ∷ ks) [] e = absurd (omega (arith, ap first e, (starts_team k (behind ks)).1))
same_crews (k ∷ ks) (j ∷ js) e =
    let (one, rest) = same_team k j (behind ks) (behind js) e in
    rw (one, same_behind ks js rest)

-- what comes behind the actions is none of theirs, behind an action's conditions no condition, behind the situation no situation
record BehindActions (rs : List Record) : Type 0 where
  low : 4 ≤ first rs
  high : first rs ≤ 6

record BehindAction (rs : List Record) : Type 0 where
  low : 2 ≤ first rs
  high : first rs ≤ 6
  no_condition_lem : first rs ≢ 3

crews_behind : (ks : List Team) → BehindActions (crew_records ks)
unfolding crew_records
crews_behind [] = record { low = omega arith; high = omega arith }
crews_behind (k ∷ ks) =
    let s = starts_team k (behind ks) in
    record { low = s.0; high = omega (arith, s.1) }

behind-action : (xs : List Action) {rs : List Record} → BehindActions rs → BehindAction (action_records xs ++ rs)
unfolding action_records
behind-action [] h = record { low = omega (arith, h.low); high = h.high; no_condition_lem = λ e. omega (arith, h.low) }
behind-action (x ∷ xs) h = record { low = omega arith; high = omega arith; no_condition_lem = λ e. omega arith }

behind_conditions : (n : ℕ) {rs : List Record} → BehindAction rs → first (times_record n ++ rs) ≢ 3
behind_conditions n {rs} h = picked (λ (r : List Record). first (r ++ rs) ≢ 3) (eqb n always) (λ _. h.no_condition_lem) (λ _ e. omega arith)

behind_situation : (ns : List ℕ) {rs : List Record} → BehindAction rs → first (map variable ns ++ rs) ≢ 8
behind_situation [] h = λ e. omega (arith, h.high)
behind_situation (n ∷ ns) h = λ e. omega arith

same_actions :
    (xs ys : List Action) (rs ts : List Record) → BehindActions rs → BehindActions ts
    → action_records xs ++ rs ≡ action_records ys ++ ts → (xs ≡ ys) × (rs ≡ ts)
unfolding action_records
same_actions [] [] rs ts h g e = (refl, e)
same_actions [] (y ∷ ys) rs ts h g e = absurd (omega (arith, ap first e, h.low))
same_actions (x ∷ xs) [] rs ts h g e = absurd (omega (arith, ap first e, g.low))
same_actions (x ∷ xs) (y ∷ ys) rs ts h g e =
    let var : x.var ≡ y.var = cc in
    let pre : x.pre ≡ y.pre = cc in
    let post : x.post ≡ y.post = cc in
    let rest : (map condition_record x.conditions ++ (times_record x.situations ++ action_records xs)) ++ rs
    ≡ (map condition_record y.conditions ++ (times_record y.situations ++ action_records ys)) ++ ts = cc in
    let (conditions, on) =
    same_run condition_record 3 (λ c. refl) same_condition x.conditions y.conditions
    (times_record x.situations ++ (action_records xs ++ rs)) (times_record y.situations ++ (action_records ys ++ ts))
    (behind_conditions x.situations (behind-action xs h)) (behind_conditions y.situations (behind-action ys g)) (simp append_assoc at rest) in
    let (situations, on') =
    same_written times 7 always (λ n. refl) (λ m n h. cc) x.situations y.situations (action_records xs ++ rs) (action_records ys ++ ts)
    (λ e. omega (arith, (behind-action xs h).high)) (λ e. omega (arith, (behind-action ys g).high)) on in
    let (more, last) = same_actions xs ys rs ts h g on' in
    ((λ i. record { var = var i; pre = pre i; post = post i; conditions = conditions i; situations = situations i } ∷ more i), last)

pub same_lists : (l m : Lists) → records_of l ≡ records_of m → l ≡ m
unfolding records_of
same_lists l m e =
    let l-behind = behind-action l.actions (crews_behind l.crews) in
    let m-behind = behind-action m.actions (crews_behind m.crews) in
    let (situation, on) =
    same_written present 8 0 (λ n. refl) (λ m n h. cc) l.situation m.situation _ _
    (behind_situation l.variables l-behind) (behind_situation m.variables m-behind) e in
    let (variables, on') =
    same_run variable 1 (λ n. refl) (λ x y h. cc) l.variables m.variables _ _
    (λ e. omega (arith, l-behind.low)) (λ e. omega (arith, m-behind.low)) on in
    let (actions, on'') =
    same_actions l.actions m.actions _ _ (crews_behind l.crews) (crews_behind m.crews) on' in
    let crews : l.crews ≡ m.crews = same_crews l.crews m.crews on'' in
    λ i. record { situation = situation i; variables = variables i; actions = actions i; crews = crews i }
