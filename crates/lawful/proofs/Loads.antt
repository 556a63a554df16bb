-- A file that loads says a lawful roster, and to each of its crews a lawful study.
-- Assumes nothing.
use mathlib.Core.Path.{◌≡◌, refl, subst}
use mathlib.Core.Option.{Option, none, some}
use mathlib.Core.List.{List}
use Prim.Native.Nat.{ℕ, zero, suc}
use lib.Dec.{ltb}
use lib.ListN.{length}
use borrow.Author.Tests.{ltb-true}
use Rattle.plain.proofs.Tests.{picked}
use Rattle.records.specs.Records.{record_at_lem}
use Rattle.records.specs.declared.Found.{Found}
use Rattle.records.specs.declared.Found.TheVariants.{There, Unknown, Cut, Ended}
use Rattle.study.specs.Study.{Roster, Study, crew_at, study_of}
use Rattle.study.specs.Reading.{Said, says, refused, Record, variable, action, condition, task, seed, end, times, present, crew, record_from, Draft, tasks_left, allowed, fault_in}
use Rattle.study.specs.Uses.{first_unused}
use Rattle.study.specs.Reading.{Verdict, first_repeat, unrepeated, ended, taken, unless, judged, verdict_at, reading, heard_by, reading_for}
use Rattle.study.proofs.Readings.{VerdictHas, reading_has}
use Rattle.lawful.specs.Lawful.{Lawful, LawfulRoster}
use Rattle.lawful.proofs.Order.{Follows, may_follow_law}
use Rattle.lawful.proofs.Faults.{FaultlessIn, faultless_in}
use Rattle.lawful.proofs.Sound.{Sound, blank_sound, variable_sound, action_sound, condition_sound, task_sound, seed_sound, times_sound, present_sound, crew_sound, end_lawful, crew_lawful}

-- a roster that is said is lawful
abbrev pub LawfulIfSaid : Said Roster → Type 0
LawfulIfSaid (says r) = LawfulRoster r
LawfulIfSaid (refused n place) = Unit

-- .. and a draft to read on with is sound
abbrev pub SoundVerdict : Verdict → Type 0
SoundVerdict = VerdictHas LawfulIfSaid (λ at. Sound)

unless_sound : (n at : ℕ) (v : Verdict) → (n ≡ 0 → SoundVerdict v) → SoundVerdict (unless n at v)
unfolding unless
unless_sound zero at v f = f refl
unless_sound (suc n) at v f = tt

module _ (file : List ℕ) {d : Draft} (sound : Sound d) where
  unrepeated_sound :
      (next : ℕ) → d.last ≡ 5 → first_repeat d.study ≡ none → (unused : Option ℕ) → first_unused d.study ≡ unused
      → LawfulIfSaid (unrepeated file next d unused)
  unrepeated_sound next last e (some v) u = tt
  unrepeated_sound next last e none u = picked LawfulIfSaid (ltb next (length file)) (λ _. tt) (λ _. end_lawful sound last e u)

  ended_sound : (next : ℕ) → d.last ≡ 5 → (repeat : Option ℕ) → first_repeat d.study ≡ repeat → LawfulIfSaid (ended file next d repeat)
  ended_sound next last (some i) e = tt
  ended_sound next last none e = unrepeated_sound next last e (first_unused d.study) refl

  taken_sound :
      (at kind next : ℕ) (r : Record)
      → Follows (tasks_left d.study) d.last kind r → FaultlessIn d r → SoundVerdict (taken file at d kind next r)
  unfolding taken
  taken_sound at kind next (variable n) = variable_sound sound at kind n
  taken_sound at kind next (action v p q) = action_sound sound at kind v p q
  taken_sound at kind next (condition v q) = condition_sound sound at kind v q
  taken_sound at kind next (task v p q) = task_sound sound at kind v p q
  taken_sound at kind next (seed n) = seed_sound sound at kind n
  taken_sound at kind next end = λ last _. ended_sound next last (first_repeat d.study) refl
  taken_sound at kind next (times n) = times_sound sound at kind n
  taken_sound at kind next (present n) = present_sound sound at kind n
  taken_sound at kind next crew = crew_sound sound at kind

  judged_sound : (at : ℕ) (f : Found) → SoundVerdict (judged file at d f)
  unfolding judged
  judged_sound at (There kind start next) =
      picked SoundVerdict (allowed d kind)
      (λ a. unless_sound (fault_in d r) at _
      (λ e. taken_sound at kind next r (may_follow_law (tasks_left d.study) d.last kind _ _ _ _ a) (faultless_in d r e)))
      (λ _. tt)
    where
      r : Record
      r = record_from file start kind
  judged_sound at (Unknown place) = tt
  judged_sound at (Cut kind place) = tt
  judged_sound at (Ended place) = tt

  pub verdict_sound : (at : ℕ) → SoundVerdict (verdict_at file at d)
  unfolding verdict_at
  verdict_sound at = judged_sound at (record_at_lem file at)

pub reading_lawful : (file : List ℕ) → LawfulIfSaid (reading file)
reading_lawful file = reading_has LawfulIfSaid (λ at. Sound) file tt (λ at d sound. verdict_sound file sound at) blank_sound

pub loads_lawful : (file : List ℕ) (r : Roster) → reading file ≡ says r → LawfulRoster r
loads_lawful file r e = subst LawfulIfSaid e (reading_lawful file)

-- ---- what a crew hears

abbrev pub LawfulIfHeard : Said Study → Type 0
LawfulIfHeard (says t) = Lawful t
LawfulIfHeard (refused n place) = Unit

heard_by_lawful : (c : ℕ) (said : Said Roster) → LawfulIfSaid said → LawfulIfHeard (heard_by c said)
heard_by_lawful c (says r) lawful =
    picked LawfulIfHeard (ltb c (length r.crews)) (λ there. crew_lawful lawful c (ltb-true c (length r.crews) there)) (λ _. tt)
heard_by_lawful c (refused n place) lawful = tt

pub hearing_lawful : (file : List ℕ) (c : ℕ) → LawfulIfHeard (reading_for file c)
hearing_lawful file c = heard_by_lawful c (reading file) (reading_lawful file)

pub heard_lawful : (file : List ℕ) (c : ℕ) (t : Study) → reading_for file c ≡ says t → Lawful t
heard_lawful file c t e = subst LawfulIfHeard e (hearing_lawful file c)
