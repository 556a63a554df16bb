-- The end: 7 where an action repeats an earlier one, 21 where nobody uses a variable, and else the file loads.
-- Assumes nothing.
use mathlib.Core.Path.{◌≡◌, sym, ap, ◌∙◌, subst}
use mathlib.Core.Option.{Option, none, some}
use mathlib.Core.List.{List, [], ◌∷◌}
use Prim.Native.Nat.{ℕ, ◌+◌}
use native.Mathlib.Omega.{arith}
use lib.ListN.{length, get_or, length-drop}
use borrow.Author.Tests.{le-ltb, eq-eqb}
use Rattle.std.specs.Prelude.{Option as Repeat, Some, None}
use Rattle.study.specs.Study.{Roster}
use Rattle.study.specs.Uses.{first_unused}
use Rattle.study.specs.Reading.{says, refused, Draft, end, roster_of, fault, fault_in, first_repeat, ended, taken, unless, may_follow_lem, reading}
use Rattle.lawful.proofs.Sound.{Sound}
use Rattle.advancing.specs.declared.Progress.{Progress}
use Rattle.standing.proofs.Reached.{settles}
use Rattle.spelling.specs.Spelling.{spelled_record, spelled}
use Rattle.spelling.specs.Lists.{Lists, lists_of, file_of}
use Rattle.spelling.proofs.ReadBack.{all_retold}
use Rattle.repeats.specs.Repeats.{Small}
use Rattle.drafts.specs.Drafts.{Drafted}
use Rattle.drafting.specs.Judges.{RepeatedIn}
use Rattle.drafts.proofs.OneRecord.{verdict_here}

sound_small : {d : Draft} → Sound d → Small d.study.actions
sound_small sound i h =
    let a = sound.actions.each i h in
    omega (arith, a.has_post.there, a.has_post.small, sound.counts.few, sound.counts.few_values _ a.has_post.there)

module _ (l : Lists) {counts : List ℕ} {p : Progress} (h : Drafted (file_of l) counts p (end ∷ [])) (last : p.last ≡ 5) where
  long : p.at + 1 ≡ length (file_of l)
  unfolding spelled spelled_record
  long = omega (arith, length-drop p.at (file_of l), ap length h.rest, h.inside)

  said : (repeat : Option ℕ) → first_repeat h.draft.study ≡ repeat → reading (file_of l) ≡ ended (file_of l) (p.at + 1) h.draft repeat
  unfolding taken fault_in fault unless may_follow_lem
  said repeat e = settles h.reached h.inside (verdict_here end h (eq-eqb p.last 5 last) ∙ rw e)

  -- the lists' repeat is the draft's
  of_the_draft : (repeat : Repeat ℕ) → RepeatedIn l repeat → RepeatedIn (lists_of (roster_of h.draft)) repeat
  of_the_draft repeat repeated = subst (λ (m : Lists). RepeatedIn m repeat) (sym (all_retold l h.retold h.rest (sym h.knows.last ∙ last))) repeated

  small : Small h.draft.study.actions
  small = sound_small h.retold.met.sound

  pub loads :
      RepeatedIn l None → first_unused h.draft.study ≡ none → ((r : Roster) × (reading (file_of l) ≡ says r)) × (p.at + 1 ≡ length (file_of l))
  loads repeated used = (
    (
      roster_of h.draft,
      said none (of_the_draft None repeated small) ∙ rw (used, le-ltb (p.at + 1) (length (file_of l)) (omega (arith, long))),
    ),
    long,
  )

  pub unused_there : RepeatedIn l None → {v : ℕ} → first_unused h.draft.study ≡ some v → reading (file_of l) ≡ refused 21 v
  unused_there repeated unused = said none (of_the_draft None repeated small) ∙ rw unused

  pub repeats_there : (place : ℕ) → RepeatedIn l (Some place) → reading (file_of l) ≡ refused 7 place
  repeats_there place repeated =
      let (k, (is, there)) = of_the_draft (Some place) repeated small in
      said (some k) is ∙ ap (refused 7) (ap (λ (places : List ℕ). get_or places k 0) h.retold.met.placed.places ∙ there)
