-- A file that loads has exactly as many bytes as the records of its roster, and so 26,482 at most; a longer file is refused. While it is read, each action's record stands as far on as what was read before it.
-- Assumes nothing.
use mathlib.Core.Path.{◌≡◌, refl, sym, ap, ◌∙◌, subst}
use mathlib.Core.Logic.{◌≢◌}
use mathlib.Core.Option.{Option, none, some}
use mathlib.Core.List.{List, [], ◌∷◌, ◌++◌}
use Prim.Native.Nat.{ℕ, zero, suc, ◌+◌, ◌-◌, ◌*◌, ◌≤◌, ◌<◌}
use native.Mathlib.Omega.{arith}
use lib.Dec.{ltb, eqb}
use lib.ListN.{length, set}
use borrow.Author.Tests.{ltb-false, eqb-true, eqb-false, ne_eqb}
use Rattle.plain.specs.Choose.{pick}
use Rattle.plain.proofs.Tests.{picked}
use Rattle.plain.proofs.Lists.{length_more}
use Rattle.records.specs.Records.{body_length_lem, body_lengths, record_at_lem}
use Rattle.records.specs.declared.Found.{Found}
use Rattle.records.specs.declared.Found.TheVariants.{There, Unknown, Cut, Ended}
use Rattle.records.proofs.Laws.{Lies, there_lies}
use Rattle.study.specs.Study.{Action, Crew, Roster, Study, always, action_at, crew_at}
use Rattle.study.specs.Reading.{Said, says, refused, Record, variable, action, condition, task, seed, end, times, present, crew, decoded, record_from, Draft, blank, tasks_left, allowed, fault_in}
use Rattle.study.specs.Uses.{first_unused}
use Rattle.study.specs.Reading.{Verdict, settled, onward, first_repeat, last_action, with_condition, within, with_actions, with, manned, placed, drafted, unrepeated, ended, taken, unless, judged, verdict_at, reading}
use Rattle.study.proofs.Readings.{VerdictHas, reading_has}
use Rattle.lawful.specs.Lawful.{LawfulRoster}
use Rattle.lawful.specs.Lengths.{bytes_of, bytes_of_times, bytes_of_present, bytes_of_actions, bytes_of_crews, places_from, file_length, longest_file}
use Rattle.lawful.proofs.Order.{stage, stage_same, Follows, may_follow_law}
use Rattle.lawful.proofs.Faults.{FaultlessIn, faultless_in}
use Rattle.lawful.proofs.Sound.{Sound, blank_sound}
use Rattle.lawful.proofs.Loads.{SoundVerdict, verdict_sound, loads_lawful}
use Rattle.lawful.proofs.Conditions.{action_conditions_few}

-- ---- a record takes its kind and its body

body_of_others :
    (kind : ℕ) → kind ≢ 1 → kind ≢ 2 → kind ≢ 3 → kind ≢ 4 → kind ≢ 5 → kind ≢ 7 → kind ≢ 8 → body_length_lem kind ≡ 0
unfolding body_length_lem body_lengths
body_of_others zero a b c d e f g = refl
body_of_others (suc zero) a b c d e f g = absurd (a refl)
body_of_others (suc (suc zero)) a b c d e f g = absurd (b refl)
body_of_others (suc (suc (suc zero))) a b c d e f g = absurd (c refl)
body_of_others (suc (suc (suc (suc zero)))) a b c d e f g = absurd (d refl)
body_of_others (suc (suc (suc (suc (suc zero))))) a b c d e f g = absurd (e refl)
body_of_others (suc (suc (suc (suc (suc (suc zero)))))) a b c d e f g = refl
body_of_others (suc (suc (suc (suc (suc (suc (suc zero))))))) a b c d e f g = absurd (f refl)
body_of_others (suc (suc (suc (suc (suc (suc (suc (suc zero)))))))) a b c d e f g = absurd (g refl)
body_of_others (suc (suc (suc (suc (suc (suc (suc (suc (suc zero))))))))) a b c d e f g = refl
body_of_others (suc (suc (suc (suc (suc (suc (suc (suc (suc (suc kind)))))))))) a b c d e f g = refl

record_bytes : (kind a b c d : ℕ) → 1 + body_length_lem kind ≡ bytes_of (decoded kind a b c d)
unfolding decoded body_length_lem body_lengths
record_bytes kind a b c d =
    picked P (eqb kind 1) (λ k. rw (eqb-true kind 1 k))
    λ n1. picked P (eqb kind 2) (λ k. rw (eqb-true kind 2 k))
    λ n2. picked P (eqb kind 3) (λ k. rw (eqb-true kind 3 k))
    λ n3. picked P (eqb kind 4) (λ k. rw (eqb-true kind 4 k))
    λ n4. picked P (eqb kind 5) (λ k. rw (eqb-true kind 5 k))
    λ n5. picked P (eqb kind 7) (λ k. rw (eqb-true kind 7 k))
    λ n7. picked P (eqb kind 8) (λ k. rw (eqb-true kind 8 k))
    λ n8. picked P (eqb kind 9) (λ k. rw (eqb-true kind 9 k))
    λ n9.
    rw (body_of_others kind (eqb-false kind 1 n1) (eqb-false kind 2 n2) (eqb-false kind 3 n3) (eqb-false kind 4 n4) (eqb-false kind 5 n5) (eqb-false kind 7 n7) (eqb-false kind 8 n8))
  where
    P : Record → Type 0
    P r = 1 + body_length_lem kind ≡ bytes_of r

-- ---- what has been read so far

-- behind a seed a byte is counted that has not been read: the opening of the next crew, or the end
abbrev pub ahead : ℕ → ℕ
ahead last = pick (eqb last 5) 1 0

-- the tasks of a crew whose seed has not been read
abbrev pub bytes_of_tasks : Draft → ℕ
bytes_of_tasks d = pick (eqb d.last 5) 0 (4 * length d.study.tasks)

-- the situation and the variables
abbrev pub bytes_before_actions : Study → ℕ
bytes_before_actions s = bytes_of_present s.situation + 2 * length s.counts

abbrev pub bytes_so_far : Draft → ℕ
bytes_so_far d = bytes_before_actions d.study + bytes_of_actions d.study.actions + bytes_of_crews d.crews + bytes_of_tasks d

-- a place between two records is as far on as what was read, and so was that of each action
pub record Placed (at : ℕ) (d : Draft) : Type 0 where
  pub so_far_lem : at + ahead d.last ≡ bytes_so_far d
  pub places : d.places ≡ places_from (bytes_before_actions d.study) d.study.actions

none_ahead : (last : ℕ) → stage last ≤ 4 → ahead last ≡ 0
none_ahead last h = rw (ne_eqb last 5 (λ e. omega (arith, ap stage e)))

one_ahead : (last : ℕ) → last ≡ 5 → ahead last ≡ 1
one_ahead last e = rw e

tasks_counted : (d : Draft) → stage d.last ≤ 4 → bytes_of_tasks d ≡ 4 * length d.study.tasks
tasks_counted d h = rw (ne_eqb d.last 5 (λ e. omega (arith, ap stage e)))

tasks_done : (d : Draft) → d.last ≡ 5 → bytes_of_tasks d ≡ 0
tasks_done d e = rw e

no_crew_bytes : {crews : List Crew} → crews ≡ [] → bytes_of_crews crews ≡ 0
unfolding bytes_of_crews
no_crew_bytes e = rw e

crews_more : (crews : List Crew) (k : Crew) → bytes_of_crews (crews ++ (k ∷ [])) ≡ bytes_of_crews crews + (4 * length k.tasks + 6)
unfolding bytes_of_crews
crews_more [] k = omega arith
crews_more (c ∷ rest) k = omega (arith, crews_more rest k)

times_written : (n : ℕ) → n ≢ always → bytes_of_times n ≡ 2
times_written n differ = rw (ne_eqb n always differ)

present_written : (n : ℕ) → n ≢ 0 → bytes_of_present n ≡ 2
present_written n differ = rw (ne_eqb n 0 differ)

bytes_more :
    (actions : List Action) (a : Action)
    → bytes_of_actions (actions ++ (a ∷ [])) ≡ bytes_of_actions actions + (4 + 3 * length a.conditions + bytes_of_times a.situations)
unfolding bytes_of_actions
bytes_more [] a = omega arith
bytes_more (b ∷ rest) a = omega (arith, bytes_more rest a)

places_more :
    (actions : List Action) (a : Action) (at place : ℕ) → place ≡ at + bytes_of_actions actions
    → places_from at (actions ++ (a ∷ [])) ≡ places_from at actions ++ (place ∷ [])
unfolding bytes_of_actions places_from
places_more [] a at place e = let f : at ≡ place = omega arith in rw f
places_more (b ∷ rest) a at place e = ap (λ (l : List ℕ). at ∷ l) (places_more rest a _ place (omega arith))

-- one action changed, which takes so many bytes more
bytes_set :
    (actions : List Action) (k n : ℕ) (a : Action) → k < length actions
    → 3 * length a.conditions + bytes_of_times a.situations
    ≡ 3 * length (action_at actions k).conditions + bytes_of_times (action_at actions k).situations + n
    → bytes_of_actions (set actions k a) ≡ bytes_of_actions actions + n
unfolding bytes_of_actions
bytes_set [] k n a h e = absurd (omega arith)
bytes_set (b ∷ rest) zero n a h e = omega arith
bytes_set (b ∷ rest) (suc k) n a h e = omega (arith, bytes_set rest k n a (omega arith) e)

-- the last one changed
places_set : (actions : List Action) (k at : ℕ) (a : Action) → suc k ≡ length actions → places_from at (set actions k a) ≡ places_from at actions
unfolding places_from
places_set [] k at a e = absurd (omega arith)
places_set (b ∷ []) zero at a e = refl
places_set (b ∷ (c ∷ rest)) zero at a e = absurd (omega arith)
places_set (b ∷ rest) (suc k) at a e = ap (λ (l : List ℕ). at ∷ l) (places_set rest k _ a (omega arith))

module _ {d : Draft} (sound : Sound d) {at : ℕ} (spaced : Placed at d) (kind : ℕ) where
  -- one record more, that is not the end
  abbrev Extends : Record → Type 0
  Extends r = Follows (tasks_left d.study) d.last kind r → FaultlessIn d r → Placed (at + bytes_of r) (drafted d at kind r)

  no_places : d.study.actions ≡ [] → d.places ≡ []
  unfolding places_from
  no_places e = spaced.places ∙ rw e

  variable_placed : (n : ℕ) → Extends (variable n)
  unfolding with manned placed places_from
  variable_placed n (is, early) ok =
      let no_actions = sound.no_actions early in
      record {
        so_far_lem =
            omega (
              arith,
              spaced.so_far_lem,
              length_more d.study.counts n,
              none_ahead d.last (omega arith),
              tasks_counted d (omega arith),
              none_ahead kind (omega (arith, ap stage is)),
              tasks_counted (drafted d at kind (variable n)) (omega (arith, ap stage is)),
            );
        places = rw no_actions (no_places no_actions);
      }

  action_placed : (v p q : ℕ) → Extends (action v p q)
  unfolding with manned placed
  action_placed v p q (is, low, high) ok = record {
    so_far_lem =
        omega (
          arith,
          here,
          bytes_more old new,
          none_yet,
          no_crew_yet,
          none_ahead kind (omega (arith, ap stage is)),
          tasks_counted (drafted d at kind (action v p q)) (omega (arith, ap stage is)),
        );
    places = ap (λ (l : List ℕ). l ++ (at ∷ [])) spaced.places ∙ sym (places_more old new (bytes_before_actions d.study) at here);
  }
    where
      old : List Action
      old = d.study.actions

      new : Action
      new = record { var = v; pre = p; post = q; conditions = []; situations = always }

      none_yet : length d.study.tasks ≡ 0
      none_yet = ap length (sound.no_tasks high)

      no_crew_yet : bytes_of_crews d.crews ≡ 0
      no_crew_yet = no_crew_bytes (sound.no_crews high)

      here : at ≡ bytes_before_actions d.study + bytes_of_actions old
      here = omega (arith, spaced.so_far_lem, none_yet, no_crew_yet, none_ahead d.last (omega arith), tasks_counted d (omega arith))

  -- the last action changed, which takes so many bytes more
  newest_placed :
      2 ≤ d.last → d.last ≤ 3 → stage kind ≤ 4 → (n : ℕ) (a : Action)
      → 3 * length a.conditions + bytes_of_times a.situations
      ≡ 3 * length (last_action d.study).conditions + bytes_of_times (last_action d.study).situations + n
      → Placed (at + n) (record { study = with_actions d.study (set d.study.actions (length d.study.actions - 1) a); crews = d.crews; last = kind; places = d.places })
  newest_placed low high no-seed-now n a e =
      let some = sound.some_action low high in
      record {
        so_far_lem =
            omega (
              arith,
              spaced.so_far_lem,
              bytes_set old newest n a (omega arith) e,
              none_ahead d.last early,
              tasks_counted d early,
              none_ahead kind no-seed-now,
              tasks_counted (record { study = with_actions d.study (set old newest a); crews = d.crews; last = kind; places = d.places }) no-seed-now,
            );
        places = spaced.places ∙ sym (places_set old newest (bytes_before_actions d.study) a (omega arith));
      }
    where
      old : List Action
      old = d.study.actions

      newest : ℕ
      newest = length old - 1

      early : stage d.last ≤ 4
      early = omega (arith, stage_same d.last (omega arith))

  condition_placed : (v q : ℕ) → Extends (condition v q)
  unfolding with manned placed
  condition_placed v q (is, low, high) ok =
      newest_placed low high (omega (arith, ap stage is)) 3 (with_condition (last_action d.study) v q)
      (omega (arith, length_more (last_action d.study).conditions (record { var = v; value = q })))

  times_placed : (n : ℕ) → Extends (times n)
  unfolding with manned placed
  times_placed n (is, low, high) differ =
      newest_placed low high (omega (arith, ap stage is)) 2 (within (last_action d.study) n)
      (omega (arith, times_written n differ, ap bytes_of_times (sound.still_always low high)))

  task_placed : (v p q : ℕ) → Extends (task v p q)
  unfolding with manned placed
  task_placed v p q (is, low, high, left) ok = record {
    so_far_lem =
        omega (
          arith,
          spaced.so_far_lem,
          length_more d.study.tasks (record { start = p; goal = q }),
          none_ahead d.last high,
          tasks_counted d high,
          none_ahead kind (omega (arith, ap stage is)),
          tasks_counted (drafted d at kind (task v p q)) (omega (arith, ap stage is)),
        );
    places = spaced.places;
  }

  seed_placed : (n : ℕ) → Extends (seed n)
  unfolding with manned placed
  seed_placed n (is, last, left) ok = record {
    so_far_lem =
        omega (
          arith,
          spaced.so_far_lem,
          crews_more d.crews (record { tasks = d.study.tasks; seed = n }),
          none_ahead d.last (omega (arith, ap stage last)),
          tasks_counted d (omega (arith, ap stage last)),
          one_ahead kind is,
          tasks_done (drafted d at kind (seed n)) is,
        );
    places = spaced.places;
  }

  present_placed : (n : ℕ) → Extends (present n)
  unfolding with manned placed places_from
  present_placed n (is, first) (few, differ) =
      let no_actions = sound.no_actions (omega (arith, ap stage first)) in
      record {
        so_far_lem =
            omega (
              arith,
              spaced.so_far_lem,
              ap (λ (s : Study). bytes_of_present s.situation) (sound.nothing_yet first),
              present_written n differ,
              none_ahead d.last (omega (arith, ap stage first)),
              tasks_counted d (omega (arith, ap stage first)),
              none_ahead kind (omega (arith, ap stage is)),
              tasks_counted (drafted d at kind (present n)) (omega (arith, ap stage is)),
            );
        places = rw no_actions (no_places no_actions);
      }

  crew_placed : Extends crew
  unfolding with manned placed
  crew_placed (is, last) few = record {
    so_far_lem =
        omega (
          arith,
          spaced.so_far_lem,
          one_ahead d.last last,
          tasks_done d last,
          none_ahead kind (omega (arith, ap stage is)),
          tasks_counted (drafted d at kind crew) (omega (arith, ap stage is)),
        );
    places = spaced.places;
  }

-- ---- the place where each record ends, and so the file

abbrev pub LengthIfSaid : List ℕ → Said Roster → Type 0
LengthIfSaid file (says s) = length file ≡ file_length s
LengthIfSaid file (refused number place) = Unit {0}

module _ (file : List ℕ) {d : Draft} (sound : Sound d) (at : ℕ) (spaced : Placed at d) where
  abbrev PlacedVerdict : Verdict → Type 0
  PlacedVerdict = VerdictHas (LengthIfSaid file) Placed

  unless_placed : (n : ℕ) (v : Verdict) → (n ≡ 0 → PlacedVerdict v) → PlacedVerdict (unless n at v)
  unfolding unless
  unless_placed zero v h = h refl
  unless_placed (suc n) v h = tt

  unrepeated_length : (next : ℕ) → next ≡ at + 1 → next ≤ length file → d.last ≡ 5 → (unused : Option ℕ) → LengthIfSaid file (unrepeated file next d unused)
  unfolding file_length
  unrepeated_length next e whole last (some v) = tt
  unrepeated_length next e whole last none =
      picked (LengthIfSaid file) (ltb next (length file)) (λ _. tt)
      (λ nothing. omega (arith, spaced.so_far_lem, ltb-false next (length file) nothing, one_ahead d.last last, tasks_done d last))

  ended_length : (next : ℕ) → next ≡ at + 1 → next ≤ length file → d.last ≡ 5 → (repeat : Option ℕ) → LengthIfSaid file (ended file next d repeat)
  ended_length next e whole last (some i) = tt
  ended_length next e whole last none = unrepeated_length next e whole last (first_unused d.study)

  taken_placed :
      (kind next : ℕ) (r : Record) → at + bytes_of r ≡ next → next ≤ length file
      → Follows (tasks_left d.study) d.last kind r → FaultlessIn d r → PlacedVerdict (taken file at d kind next r)
  unfolding taken
  taken_placed kind next (variable n) e whole f ok = rw e at (variable_placed sound spaced kind n f ok)
  taken_placed kind next (action v p q) e whole f ok = rw e at (action_placed sound spaced kind v p q f ok)
  taken_placed kind next (condition v q) e whole f ok = rw e at (condition_placed sound spaced kind v q f ok)
  taken_placed kind next (task v p q) e whole f ok = rw e at (task_placed sound spaced kind v p q f ok)
  taken_placed kind next (seed n) e whole f ok = rw e at (seed_placed sound spaced kind n f ok)
  taken_placed kind next end e whole last ok = ended_length next (sym e) whole last (first_repeat d.study)
  taken_placed kind next (times n) e whole f ok = rw e at (times_placed sound spaced kind n f ok)
  taken_placed kind next (present n) e whole f ok = rw e at (present_placed sound spaced kind n f ok)
  taken_placed kind next crew e whole f ok = rw e at (crew_placed sound spaced kind f ok)

  judged_placed : (f : Found) → record_at_lem file at ≡ f → PlacedVerdict (judged file at d f)
  unfolding judged
  judged_placed (There kind start next) there =
      picked PlacedVerdict (allowed d kind)
      (λ a. unless_placed (fault_in d r) _
      (λ e. taken_placed kind next r
      (omega (arith, lies.goes_on, bytes)) lies.whole (may_follow_law (tasks_left d.study) d.last kind _ _ _ _ a) (faultless_in d r e)))
      (λ _. tt)
    where
      r : Record
      r = record_from file start kind

      lies : Lies file at kind start next
      lies = there_lies file at there

      bytes : 1 + body_length_lem kind ≡ bytes_of r
      bytes = record_bytes kind _ _ _ _
  judged_placed (Unknown place) there = tt
  judged_placed (Cut kind place) there = tt
  judged_placed (Ended place) there = tt

  verdict_placed : PlacedVerdict (verdict_at file at d)
  unfolding verdict_at
  verdict_placed = judged_placed (record_at_lem file at) refl

-- ---- the theorems

-- what is so of a draft and of the place where it is met: at the start, and behind each record that is read
pub record Met (at : ℕ) (d : Draft) : Type 0 where
  pub sound : Sound d
  pub placed : Placed at d

pub blank_met : Met 0 blank
unfolding bytes_of_actions bytes_of_crews places_from
blank_met = record { sound = blank_sound; placed = record { so_far_lem = refl; places = refl } }

abbrev MetVerdict : List ℕ → Verdict → Type 0
MetVerdict file = VerdictHas (LengthIfSaid file) Met

verdict_met : (file : List ℕ) (at : ℕ) (d : Draft) → Met at d → MetVerdict file (verdict_at file at d)
verdict_met file at d met = both (verdict_at file at d) (verdict_sound file met.sound at) (verdict_placed file met.sound at met.placed)
  where
    both : (v : Verdict) → SoundVerdict v → VerdictHas (LengthIfSaid file) Placed v → MetVerdict file v
    both (settled s) p q = q
    both (onward next d') p q = record { sound = p; placed = q }

pub met_onward : (file : List ℕ) {at next : ℕ} {d d' : Draft} → Met at d → verdict_at file at d ≡ onward next d' → Met next d'
met_onward file {at} {d = d} met e = subst (MetVerdict file) e (verdict_met file at d met)

reading-length : (file : List ℕ) → LengthIfSaid file (reading file)
reading-length file = reading_has (LengthIfSaid file) Met file tt (verdict_met file) blank_met

-- a file that loads has as many bytes as its roster's records
pub loads_length : (file : List ℕ) (s : Roster) → reading file ≡ says s → length file ≡ file_length s
loads_length file s e = subst (LengthIfSaid file) e (reading-length file)

few_bytes_of_times : (n : ℕ) → bytes_of_times n ≤ 2
few_bytes_of_times n = picked (λ (m : ℕ). m ≤ 2) (eqb n always) (λ _. omega arith) (λ _. omega arith)

few_bytes_of_present : (n : ℕ) → bytes_of_present n ≤ 2
few_bytes_of_present n = picked (λ (m : ℕ). m ≤ 2) (eqb n 0) (λ _. omega arith) (λ _. omega arith)

few_bytes :
    (actions : List Action) → ((i : ℕ) → i < length actions → length (action_at actions i).conditions ≤ 31)
    → bytes_of_actions actions ≤ (4 + 3 * 31 + 2) * length actions
unfolding bytes_of_actions
few_bytes [] few = omega arith
few_bytes (a ∷ rest) few = omega (arith, few 0 (omega arith), few_bytes_of_times a.situations, few_bytes rest (λ i h. few (suc i) (omega arith)))

few_bytes_of_crews :
    (crews : List Crew) → ((c : ℕ) → c < length crews → length (crew_at crews c).tasks ≤ 32) → bytes_of_crews crews ≤ (4 * 32 + 5 + 1) * length crews
unfolding bytes_of_crews
few_bytes_of_crews [] few = omega arith
few_bytes_of_crews (k ∷ rest) few = omega (arith, few 0 (omega arith), few_bytes_of_crews rest (λ c h. few (suc c) (omega arith)))

lawful_length : {s : Roster} → LawfulRoster s → file_length s ≤ longest_file
unfolding file_length
lawful_length {s} lawful =
    omega (
      arith,
      lawful.few_variables,
      lawful.few_actions,
      lawful.few_crews,
      few_bytes_of_present s.situation,
      few_bytes s.actions (λ i h. action_conditions_few lawful.few_variables (lawful.action i h)),
      few_bytes_of_crews s.crews (λ c h. omega (arith, lawful.few_variables, (lawful.crew c h).a_task_each)),
    )

-- .. and so it is no longer than the longest
pub loads_short : (file : List ℕ) (s : Roster) → reading file ≡ says s → length file ≤ longest_file
loads_short file s e = omega (arith, loads_length file s e, lawful_length (loads_lawful file s e))

-- a longer file is refused: of a file that does not fit into one byte more than the longest, the bytes that fit are refused
pub longer_is_refused : (file : List ℕ) → longest_file < length file → (number : ℕ) × ((place : ℕ) × (reading file ≡ refused number place))
longer_is_refused file long = from (reading file) refl
  where
    from : (said : Said Roster) → reading file ≡ said → (number : ℕ) × ((place : ℕ) × (reading file ≡ refused number place))
    from (says s) e = absurd (omega (arith, loads_short file s e))
    from (refused number place) e = (number, (place, e))

pub longest_is_26482 : longest_file ≡ 26482
longest_is_26482 = refl
