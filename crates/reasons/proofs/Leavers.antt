-- The set of those that want what a step leaves, from the lowest on: the reasons by rule (c) of those passed stand behind the facts before.
-- Assumes nothing.
use mathlib.Core.Path.{◌≡◌, sym, ap, ◌∙◌}
use mathlib.Core.Bool.{true, false, not, ◌&&◌, and-false, and-eq-true_iff}
use mathlib.Core.List.{List, [], ◌∷◌, ◌++◌, append-nil, append_assoc, map-append}
use Prim.Native.Nat.{ℕ, ◌+◌, ◌≤◌, ◌<◌}
use native.Mathlib.Omega.{arith}
use native.Mathlib.Decide.{ℕ_discrete, dec_lt}
use lib.Dec.{eqb, leb}
use lib.ListN.{length, get_or, take, get_or-eq_default}
use borrow.Author.Tests.{eq-eqb, ne_eqb, lt-ltb, leb-true, le-leb, lt-leb}
use Rattle.bits.specs.Bits.{within, Removed, LeastMember}
use Rattle.study.specs.Study.{Action, Study, no_action}
use Rattle.walks.specs.Walks.{conditions_of}
use Rattle.facts.specs.declared.Fact.{Fact as FactRow}
use Rattle.facts.specs.declared.Fact.TheVariants.{After}
use Rattle.facts.specs.declared.Rule.TheVariants.{Leaves}
use Rattle.wanting.specs.Wanting.{wants}
use Rattle.explained.specs.Facts.{rows_of}
use Rattle.explained.specs.Reasons.{stands, leave_reasons}
use Rattle.explained.specs.Wanters.{Sets, set_at}
use Rattle.reasons.specs.Known.{Reasonable}
use Rattle.reasons.proofs.Between.{leaver, none_more, one_more}

-- ---- the set has those of the plan that want the value

module _
    {firsts setters : List ℕ} {wanters : Sets} {places : List ℕ} {t : Study} {plan : List ℕ}
    (known : Reasonable firsts setters wanters places t plan) {v q : ℕ} (low : v < 32) (narrow : q < 16) where
  past_none : (i : ℕ) → length t.actions ≤ i → leaver t plan v q i ≡ false
  unfolding wants
  past_none i h =
      ap (λ (a : Action). stands plan i && wants a.conditions v q) (get_or-eq_default t.actions no_action h) ∙ and-false (stands plan i)

  in_set : (i : ℕ) → i < 256 → within (set_at wanters v q) i ≡ leaver t plan v q i
  in_set i b = from (dec_lt i (length t.actions))
    where
      from : Dec (i < length t.actions) → within (set_at wanters v q) i ≡ leaver t plan v q i
      from (yes h) = rw (lt-ltb i (length t.actions) h) at (known.noted v q i low narrow b)
      from (no h) = rw (known.noted v q i low narrow b, past_none i (omega arith), and-false)

  -- where nobody is left, all are told
  all_told : (lo : ℕ) → lo ≤ 256 → ((i : ℕ) → lo ≤ i → i < 256 → leaver t plan v q i ≡ false)
      → leave_reasons t plan v q 0 lo ≡ leave_reasons t plan v q 0 (length t.actions)
  all_told lo h none =
      sym (none_more t plan v q lo 256 h none)
      ∙ none_more t plan v q (length t.actions) 256 known.lawful.few_actions (λ i f g. past_none i f)

-- ---- the lowest of those that are left is taken out

still_left :
    (set rest rest' : List ℕ) (lo i : ℕ) → ((m : ℕ) → within rest m ≡ (leb lo m && within set m)) → lo ≤ i
    → LeastMember rest i → Removed i rest rest' → (m : ℕ) → within rest' m ≡ (leb (i + 1) m && within set m)
still_left set rest rest' lo i left passed least removed m = removed.members m ∙ from (dec_lt m i) (ℕ_discrete i m)
  where
    from : Dec (m < i) → Dec (i ≡ m) → (not (eqb i m) && within rest m) ≡ (leb (i + 1) m && within set m)
    from (yes h) _ = rw (least.none_below m h, lt-leb (i + 1) m (omega arith), and-false)
    from (no h) (yes e) = rw (eq-eqb i m e, lt-leb (i + 1) m (omega arith))
    from (no h) (no d) = rw (ne_eqb i m d, left m, le-leb lo m (omega arith), le-leb (i + 1) m (omega arith))

-- ---- where the pass stands: those of the set from `lo` on are left

pub record Underway
    (v q begin : ℕ) (wanters : Sets) (places : List ℕ) (facts facts' : List FactRow) (rest : List ℕ) (n : ℕ) : Type 0 where
  pub low : v < 32
  pub narrow : q < 16
  pub start : begin ≤ 32
  pub size : length facts' ≡ 288
  pub long : length rest ≡ 4
  pub lo : ℕ
  pub passed : n ≤ begin + lo
  pub inside : lo ≤ 256
  pub left : (i : ℕ) → within rest i ≡ (leb lo i && within (set_at wanters v q) i)
  pub so_far_lem :
      (firsts setters : List ℕ) (t : Study) (plan : List ℕ) → Reasonable firsts setters wanters places t plan
      → take n facts' ≡ take begin facts ++ rows_of (leave_reasons t plan v q 0 lo)

pub begins :
    {v q begin : ℕ} {wanters : Sets} {places : List ℕ} {facts : List FactRow} {rest : List ℕ}
    → v < 32 → q < 16 → begin ≤ 32 → length facts ≡ 288 → length rest ≡ 4 → rest ≡ set_at wanters v q
    → Underway v q begin wanters places facts facts rest begin
unfolding leave_reasons
begins low narrow start size long is = record {
  low = low;
  narrow = narrow;
  start = start;
  size = size;
  long = long;
  lo = 0;
  passed = omega arith;
  inside = omega arith;
  left = λ i. rw (is, le-leb 0 i (omega arith));
  so_far_lem = λ firsts setters t plan r. sym (append-nil _);
}

module _
    {v q begin : ℕ} {wanters : Sets} {places : List ℕ} {facts facts' : List FactRow} {rest : List ℕ} {n : ℕ}
    (under : Underway v q begin wanters places facts facts' rest n) where
  module _ {i : ℕ} (least : LeastMember rest i) where
    -- nobody below it is left
    none_before :
        {firsts setters : List ℕ} {t : Study} {plan : List ℕ} → Reasonable firsts setters wanters places t plan
        → (m : ℕ) → under.lo ≤ m → m < i → m < 256 → leaver t plan v q m ≡ false
    none_before known m from below b =
        sym (in_set known under.low under.narrow m b)
        ∙ (sym (rw (le-leb under.lo m from) at (under.left m)) ∙ least.none_below m below)

    module _ (is_one : i < 256) where
      it_is_left : (leb under.lo i && within (set_at wanters v q) i) ≡ true
      it_is_left = sym (under.left i) ∙ least.there is_one

      not_passed : under.lo ≤ i
      not_passed = leb-true under.lo i ((and-eq-true_iff (leb under.lo i) (within (set_at wanters v q) i)).0 it_is_left).0

      -- there is room for one fact more
      pub has_room : n < 288
      has_room = omega (arith, under.passed, under.start, not_passed)

      is_leaver :
          {firsts setters : List ℕ} {t : Study} {plan : List ℕ} → Reasonable firsts setters wanters places t plan → leaver t plan v q i ≡ true
      is_leaver known =
          sym (in_set known under.low under.narrow i is_one)
          ∙ ((and-eq-true_iff (leb under.lo i) (within (set_at wanters v q) i)).0 it_is_left).1

      pub goes_on :
          {n' : ℕ} {facts'' : List FactRow} {rest' : List ℕ} → Removed i rest rest'
          → length facts'' ≡ 288 → n' ≡ n + 1 → take n' facts'' ≡ take n facts' ++ (After Leaves (get_or places i 0) i v q ∷ [])
          → Underway v q begin wanters places facts facts'' rest' n'
      goes_on {rest' = rest'} removed size more front = record {
        low = under.low;
        narrow = under.narrow;
        start = under.start;
        size = size;
        long = removed.long;
        lo = i + 1;
        passed = omega (arith, more, under.passed, not_passed);
        inside = omega arith;
        left = still_left (set_at wanters v q) rest rest' under.lo i under.left not_passed least removed;
        so_far_lem = λ firsts setters t plan known.
            let is = is_leaver known in
            let (in_plan, _) = (and-eq-true_iff (stands plan i) (wants (conditions_of t i) v q)).0 is in
            rw (
              front,
              under.so_far_lem firsts setters t plan known,
              one_more t plan v q under.lo i not_passed (λ m f g. none_before known m f g (omega arith)) is,
              map-append,
              ← known.placed i in_plan,
              append_assoc,
            );
      }

  told_all :
      {firsts setters : List ℕ} {t : Study} {plan : List ℕ} → Reasonable firsts setters wanters places t plan
      → ((m : ℕ) → under.lo ≤ m → m < 256 → leaver t plan v q m ≡ false)
      → take n facts' ≡ take begin facts ++ rows_of (leave_reasons t plan v q 0 (length t.actions))
  told_all {firsts} {setters} {t} {plan} known none =
      rw (all_told known under.low under.narrow under.lo under.inside none) at (under.so_far_lem firsts setters t plan known)

  -- nobody is left
  pub ends_empty :
      LeastMember rest 256 → {firsts setters : List ℕ} {t : Study} {plan : List ℕ} → Reasonable firsts setters wanters places t plan
      → take n facts' ≡ take begin facts ++ rows_of (leave_reasons t plan v q 0 (length t.actions))
  ends_empty least known = told_all known (λ m f g. none_before least known m f g g)
