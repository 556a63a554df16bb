-- Reading what was written gives the lists back; halfway through, what has been read is what stands before the place.
-- Assumes nothing.
use mathlib.Core.Path.{◌≡◌, refl, sym, ap, ◌∙◌, subst}
use mathlib.Core.List.{List, [], ◌∷◌, ◌++◌}
use Prim.Native.Nat.{ℕ, ◌+◌}
use native.Mathlib.Omega.{arith}
use lib.ListN.{length, drop, length-drop}
use Rattle.records.specs.declared.Found.TheVariants.{There}
use Rattle.records.proofs.Laws.{there_lies}
use Rattle.study.specs.Study.{Roster}
use Rattle.study.specs.Reading.{says, Record, end, Draft, roster_of, blank, onward, verdict_at, reading}
use Rattle.study.proofs.Readings.{VerdictHas}
use Rattle.lawful.specs.Lengths.{bytes_of}
use Rattle.lawful.proofs.Lengths.{Met, blank_met, met_onward}
use Rattle.spelling.specs.Spelling.{kind_of, spelled}
use Rattle.spelling.specs.Lists.{Lists, action_records, records_of, errands_from, lists_of, file_of}
use Rattle.spelling.proofs.Spelled.{record_there, record_is, rest_there}
use Rattle.spelling.proofs.Told.{same_records, same_lists}
use Rattle.spelling.proofs.SoFar.{so_far, joined, opening, all_records}
use Rattle.spelling.proofs.Rewritten.{spelled-append, RewrittenIfSaid, SpelledAlong, Between, verdict_rewritten, rewritten}

-- what follows a place is records, spelled
abbrev Follow : List ℕ → ℕ → Type 0
Follow file at = (rs : List Record) × (drop at file ≡ spelled rs)

spelled_along : (file : List ℕ) → SpelledAlong file (Follow file)
unfolding spelled
spelled_along file at ([], none) kind start next there =
    absurd (omega (arith, length-drop at file, ap length none, (there_lies file at there).inside))
spelled_along file at (r ∷ rs, here) kind start next there =
    let same : There (kind_of r) (at + 1) (at + bytes_of r) ≡ There kind start next = sym (record_there file (spelled rs) at r here) ∙ there in
    let is_kind : kind ≡ kind_of r = cc in
    let starts : start ≡ at + 1 = cc in
    let goes_on : next ≡ at + bytes_of r = cc in
    let on : drop next file ≡ spelled rs = rw goes_on (rest_there file (spelled rs) at r here) in
    (rw (is_kind, starts, on, record_is file (spelled rs) at r here) here, (rs, on))

pub read_back : (l : Lists) (r : Roster) → reading (file_of l) ≡ says r → lists_of r ≡ l
unfolding file_of
read_back l r e =
    same_lists (lists_of r) l
    (same_records (records_of (lists_of r)) (records_of l) (rewritten (file_of l) (Follow (file_of l)) (spelled_along (file_of l)) (records_of l, refl) r e))

-- ---- halfway through

-- what has been read up to a place, with all that the way there tells
pub record Retold (file : List ℕ) (at : ℕ) (d : Draft) : Type 0 where
  pub met : Met at d
  pub so_far_lem : spelled (so_far d) ++ drop at file ≡ file

pub nothing_retold : (file : List ℕ) → Retold file 0 blank
unfolding spelled action_records errands_from joined opening
nothing_retold file = record { met = blank_met; so_far_lem = refl }

-- one record more, where records follow
pub retold_onward :
    {file : List ℕ} {at next : ℕ} {d d' : Draft} (rs : List Record) → drop at file ≡ spelled rs
    → Retold file at d → verdict_at file at d ≡ onward next d' → Retold file next d'
retold_onward {file} {at} {next} {d} {d'} rs here r e = record {
  met = met_onward file r.met e;
  so_far_lem =
      (subst (VerdictHas (RewrittenIfSaid file) (Between file (Follow file) (spelled_along file))) e
      (verdict_rewritten file (Follow file) (spelled_along file) r.met.sound at (record { so_far_lem = r.so_far_lem; on = (rs, here) }))
      ).so_far_lem;
}

-- where only the end is left, the lists have been read
pub all_retold :
    (l : Lists) {at : ℕ} {d : Draft} → Retold (file_of l) at d → drop at (file_of l) ≡ spelled (end ∷ []) → d.last ≡ 5 → lists_of (roster_of d) ≡ l
unfolding file_of
all_retold l {at} {d} r here last =
    same_lists (lists_of (roster_of d)) l
    (same_records (records_of (lists_of (roster_of d))) (records_of l)
    (rw (← all_records d last, spelled-append (so_far d) (end ∷ []), ← here) r.so_far_lem))
