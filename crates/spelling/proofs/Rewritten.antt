-- A file that loads, whose records as they are read are spelled as they stand, is the file that its roster's lists stand for.
-- Assumes nothing.
use mathlib.Core.Path.{◌≡◌, refl, ap, ◌∙◌, subst}
use mathlib.Core.Option.{Option, none, some}
use mathlib.Core.List.{List, [], ◌∷◌, ◌++◌, append-nil, append_assoc}
use Prim.Native.Nat.{ℕ, zero, suc, ◌≤◌}
use lib.Dec.{ltb}
use lib.ListN.{length, drop, drop_of_length-le}
use borrow.Author.Tests.{ltb-false}
use Rattle.plain.proofs.Tests.{picked}
use Rattle.records.specs.Records.{record_at_lem}
use Rattle.records.specs.declared.Found.{Found}
use Rattle.records.specs.declared.Found.TheVariants.{There, Unknown, Cut, Ended}
use Rattle.study.specs.Study.{Roster}
use Rattle.study.specs.Reading.{Said, says, refused, Record, variable, action, condition, task, seed, end, times, present, crew, record_from, Draft, tasks_left, allowed, fault_in}
use Rattle.study.specs.Uses.{first_unused}
use Rattle.study.specs.Reading.{Verdict, first_repeat, roster_of, drafted, unrepeated, ended, taken, unless, judged, verdict_at, reading}
use Rattle.study.proofs.Readings.{VerdictHas, verdict_has_both, reading_has}
use Rattle.lawful.proofs.Order.{Follows, may_follow_law}
use Rattle.lawful.proofs.Faults.{FaultlessIn, faultless_in}
use Rattle.lawful.proofs.Sound.{Sound, blank_sound}
use Rattle.lawful.proofs.Loads.{LawfulIfSaid, verdict_sound}
use Rattle.spelling.specs.Spelling.{spelled_record, spelled}
use Rattle.spelling.specs.Lists.{action_records, errands_from, lists_of, file_of}
use Rattle.spelling.proofs.SoFar.{so_far, joined, opening, More, variable_more, action_more, condition_more, task_more, seed_more, times_more, present_more, crew_more, all_records}

pub spelled-append : (rs more : List Record) → spelled (rs ++ more) ≡ spelled rs ++ spelled more
unfolding spelled
spelled-append [] more = refl
spelled-append (r ∷ rs) more = rw (spelled-append rs more, append_assoc)

abbrev pub RewrittenIfSaid : List ℕ → Said Roster → Type 0
RewrittenIfSaid file (says r) = file_of (lists_of r) ≡ file
RewrittenIfSaid file (refused number place) = Unit {0}

-- where a record is read it is spelled, and what is so of its place is so of the next
abbrev pub SpelledAlong : List ℕ → (ℕ → Type 0) → Type 0
SpelledAlong file Along =
    (at : ℕ) → Along at → (kind start next : ℕ) → record_at_lem file at ≡ There kind start next
    → (drop at file ≡ spelled_record (record_from file start kind) ++ drop next file) × Along next

module _ (file : List ℕ) (Along : ℕ → Type 0) (along : SpelledAlong file Along) where
  -- the file is what has been read so far, spelled, and what follows
  pub record Between (at : ℕ) (d : Draft) : Type 0 where
    pub so_far_lem : spelled (so_far d) ++ drop at file ≡ file
    pub on : Along at

  module _ {d : Draft} (sound : Sound d) (at : ℕ) (between : Between at d) where
    abbrev pub RewrittenVerdict : Verdict → Type 0
    RewrittenVerdict = VerdictHas (RewrittenIfSaid file) Between

    unless_rewritten : (n : ℕ) (v : Verdict) → (n ≡ 0 → RewrittenVerdict v) → RewrittenVerdict (unless n at v)
    unfolding unless
    unless_rewritten zero v h = h refl
    unless_rewritten (suc n) v h = tt

    module _ (kind next : ℕ) (on : Along next) where
      -- one record more
      onward : (r : Record) → drop at file ≡ spelled_record r ++ drop next file → More sound at kind r → Between next (drafted d at kind r)
      unfolding spelled
      onward r here more = record {
        so_far_lem =
            ap (λ (rs : List Record). spelled rs ++ drop next file) more
            ∙ rw (spelled-append (so_far d) (r ∷ []), append-nil, append_assoc, ← here) between.so_far_lem;
        on = on;
      }

      unrepeated_rewritten :
          drop at file ≡ spelled_record end ++ drop next file → d.last ≡ 5 → (unused : Option ℕ) → RewrittenIfSaid file (unrepeated file next d unused)
      unfolding file_of spelled
      unrepeated_rewritten here last (some v) = tt
      unrepeated_rewritten here last none = picked (RewrittenIfSaid file) (ltb next (length file)) (λ _. tt) (λ nothing. whole (ltb-false next (length file) nothing))
        where
          whole : length file ≤ next → file_of (lists_of (roster_of d)) ≡ file
          whole nothing =
              rw (← all_records d last, spelled-append (so_far d) (end ∷ []), ← drop_of_length-le file nothing, ← here) between.so_far_lem

      ended_rewritten :
          drop at file ≡ spelled_record end ++ drop next file → d.last ≡ 5 → (repeat : Option ℕ) → RewrittenIfSaid file (ended file next d repeat)
      ended_rewritten here last (some i) = tt
      ended_rewritten here last none = unrepeated_rewritten here last (first_unused d.study)

      taken_rewritten :
          (r : Record) → drop at file ≡ spelled_record r ++ drop next file
          → Follows (tasks_left d.study) d.last kind r → FaultlessIn d r → RewrittenVerdict (taken file at d kind next r)
      unfolding taken
      taken_rewritten (variable n) here f ok = onward (variable n) here (variable_more sound at kind n f ok)
      taken_rewritten (action v p q) here f ok = onward (action v p q) here (action_more sound at kind v p q f ok)
      taken_rewritten (condition v q) here f ok = onward (condition v q) here (condition_more sound at kind v q f ok)
      taken_rewritten (task v p q) here f ok = onward (task v p q) here (task_more sound at kind v p q f ok)
      taken_rewritten (seed n) here f ok = onward (seed n) here (seed_more sound at kind n f ok)
      taken_rewritten end here last ok = ended_rewritten here last (first_repeat d.study)
      taken_rewritten (times n) here f ok = onward (times n) here (times_more sound at kind n f ok)
      taken_rewritten (present n) here f ok = onward (present n) here (present_more sound at kind n f ok)
      taken_rewritten crew here f ok = onward crew here (crew_more sound at kind f ok)

    judged_rewritten : (f : Found) → record_at_lem file at ≡ f → RewrittenVerdict (judged file at d f)
    unfolding judged
    judged_rewritten (There kind start next) there =
        let t = along at between.on kind start next there in
        picked RewrittenVerdict (allowed d kind)
        (λ a. unless_rewritten (fault_in d (record_from file start kind)) _
        (λ e. taken_rewritten kind next t.1 (record_from file start kind) t.0
        (may_follow_law (tasks_left d.study) d.last kind _ _ _ _ a) (faultless_in d (record_from file start kind) e)))
        (λ _. tt)
    judged_rewritten (Unknown place) there = tt
    judged_rewritten (Cut kind place) there = tt
    judged_rewritten (Ended place) there = tt

    pub verdict_rewritten : RewrittenVerdict (verdict_at file at d)
    unfolding verdict_at
    verdict_rewritten = judged_rewritten (record_at_lem file at) refl

  module _ (start : Along 0) where
    reading_rewritten : LawfulIfSaid (reading file) × RewrittenIfSaid file (reading file)
    unfolding spelled action_records errands_from joined opening
    reading_rewritten =
        reading_has (λ s. LawfulIfSaid s × RewrittenIfSaid file s) (λ at d. Sound d × Between at d) file (tt, tt)
        (λ at d h.
        verdict_has_both LawfulIfSaid (RewrittenIfSaid file) (λ at. Sound) Between (verdict_at file at d)
        (verdict_sound file h.0 at) (verdict_rewritten h.0 at h.1))
        (blank_sound, record { so_far_lem = refl; on = start })

    pub rewritten : (r : Roster) → reading file ≡ says r → file_of (lists_of r) ≡ file
    rewritten r e = subst (RewrittenIfSaid file) e reading_rewritten.1
