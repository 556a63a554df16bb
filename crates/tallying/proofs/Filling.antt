-- Filling the report row after row: the rows passed are the report's, and the others are as they came.
-- Assumes nothing.
use mathlib.Core.Path.{◌≡◌, refl, sym, ap, ◌∙◌}
use mathlib.Core.List.{List, ◌++◌, append_assoc, append-nil}
use Prim.Native.Nat.{ℕ, zero, suc, ◌+◌, ◌*◌, ◌-◌, ◌≤◌, ◌<◌}
use native.Mathlib.Nat.{zero-add, add-sub_cancel_left}
use native.Mathlib.Numerals.{add-one}
use native.Mathlib.Omega.{arith}
use lib.ListN.{length, get_or, take, drop, length-append, length-drop, take-append-drop}
use lib.Seq.{get_or-take, get_or-drop, length-take-le, drop-drop, take_at, drop_at}
use Rattle.ranks.specs.Ranks.{count}
use Rattle.varied.specs.Figures.{standing, listed, rows}
use Rattle.matching.specs.Kept.{Kept, RoomFor, KeptBelow}
use Rattle.tallying.specs.Tallied.{tallied, AllBelow}
use Rattle.matching.proofs.Places.{row_within}
use Rattle.tallying.proofs.Counting.{length-listed, row_tallied}

-- ---- the entries of a position

-- what the first n plans have at position p
pub record ColumnOf (kept : List ℕ) (base stride n p : ℕ) (entries : List ℕ) : Type 0 where
  pub long : length entries ≡ n
  pub entry : (k : ℕ) → k < n → get_or entries k 0 ≡ get_or kept (base + stride * p + k) 0

pub length_part : (l : List ℕ) (at n : ℕ) → at + n ≤ length l → length (take n (drop at l)) ≡ n
length_part l at n there = length-take-le n (drop at l) (omega (arith, length-drop at l))

pub column_there :
    (kept : List ℕ) (base stride len n at p : ℕ) → RoomFor base stride len kept → n ≤ stride → p < len → at ≡ base + stride * p
    → ColumnOf kept base stride n p (take n (drop at kept))
column_there kept base stride len n at p room few h is_at = record {
  long = length_part kept at n (omega (arith, row_within stride h));
  entry = λ k g. rw (← is_at) (get_or-take n (drop at kept) k 0 g ∙ get_or-drop at kept k 0);
}

module _ {kept : List ℕ} {base stride n p : ℕ} {entries : List ℕ} (column : ColumnOf kept base stride n p entries) {len : ℕ} (h : p < len) where
  pub column_below : {limit : ℕ} → KeptBelow limit n base stride len kept → AllBelow limit entries
  column_below below k g =
      let low : k < n = omega (arith, column.long) in
      rw (column.entry k low) (below k p low h)

  column_tallied :
      {plans : List (List ℕ)} (actions : ℕ) → length plans ≡ n → Kept kept base stride len plans
      → tallied entries actions ≡ listed (standing plans p) 0 actions
  column_tallied {plans} actions each held =
      row_tallied plans p actions entries (column.long ∙ sym each) (λ k g. column.entry k (omega arith) ∙ held.stands k p g h)

-- ---- the rows

rows_more :
    (plans : List (List ℕ)) (actions at n : ℕ)
    → rows plans actions at (suc n) ≡ rows plans actions at n ++ listed (standing plans (at + n)) 0 actions
unfolding rows
rows_more plans actions at zero = append-nil _ ∙ ap (λ (k : ℕ). listed (standing plans k) 0 actions) (omega arith)
rows_more plans actions at (suc n) =
    ap (λ (r : List ℕ). listed (standing plans at) 0 actions ++ r) (rows_more plans actions (suc at) n)
    ∙ (sym (append_assoc (listed (standing plans at) 0 actions) (rows plans actions (suc at) n) _)
    ∙ ap (λ (k : ℕ). rows plans actions at (suc n) ++ listed (standing plans k) 0 actions) (omega arith))

rows_next : (plans : List (List ℕ)) (actions p : ℕ) → rows plans actions 0 (p + 1) ≡ rows plans actions 0 p ++ listed (standing plans p) 0 actions
rows_next plans actions p = rw (add-one p) (rw (zero-add p) at (rows_more plans actions 0 p))

-- a row that was lent as a part, put back filled
pub put_back :
    (report : List ℕ) (at actions : ℕ) {row filled : List ℕ} → row ≡ filled
    → take at report ++ (row ++ drop (at + actions - at) (drop at report)) ≡ take at report ++ (filled ++ drop (at + actions) report)
put_back report at actions is = rw (add-sub_cancel_left at actions, drop-drop actions at report, is)

-- the place of row p
abbrev pub place : ℕ → ℕ → ℕ
place actions p = 5 + actions * p

-- the first p rows are filled, for the n plans that are kept
pub record FilledTo (kept : List ℕ) (base stride len n actions : ℕ) (before : List ℕ) (p : ℕ) (report : List ℕ) : Type 0 where
  pub long : length report ≡ length before
  pub ahead : drop (place actions p) report ≡ drop (place actions p) before
  pub filled : (plans : List (List ℕ)) → length plans ≡ n → Kept kept base stride len plans → take (place actions p) report ≡ take 5 before ++ rows plans actions 0 p

module _ {kept : List ℕ} {base stride len n actions : ℕ} {before : List ℕ} where
  pub none_filled : FilledTo kept base stride len n actions before 0 before
  unfolding rows
  none_filled =
      let first : place actions 0 ≡ 5 = omega arith in
      record { long = refl; ahead = refl; filled = λ plans each held. rw first (sym (append-nil (take 5 before))) }

  module _ {p : ℕ} {report : List ℕ} (to : FilledTo kept base stride len n actions before p report) where
    pub row_fits : RoomFor 5 actions len before → p < len → place actions p + actions ≤ length report
    row_fits room h = omega (arith, to.long, row_within actions h)

    pub one_filled :
        {entries after : List ℕ} → RoomFor 5 actions len before → p < len → ColumnOf kept base stride n p entries
        → after ≡ take (place actions p) report ++ (tallied entries actions ++ drop (place actions p + actions) report)
        → FilledTo kept base stride len n actions before (p + 1) after
    one_filled {entries} {after} room h column is-after = record {
      long = rw after_is (omega (arith, length-append front rest, front_long, length-drop (at + actions) report, to.long, row_fits room h));
      ahead = rw next (rw (after_is, drop_at front rest (at + actions) front_long, ← drop-drop actions at report, ← drop-drop actions at before, to.ahead));
      filled = λ plans each held.
          rw next
          (rw (after_is, take_at front rest (at + actions) front_long, to.filled plans each held, column_tallied column h actions each held)
          (append_assoc (take 5 before) (rows plans actions 0 p) _ ∙ rw (rows_next plans actions p)));
    }
      where
        at : ℕ
        at = place actions p

        next : place actions (p + 1) ≡ at + actions
        next = omega arith

        front : List ℕ
        front = take at report ++ tallied entries actions

        rest : List ℕ
        rest = drop (at + actions) report

        front_long : length front ≡ at + actions
        front_long =
            omega (
              arith,
              length-append (take at report) (tallied entries actions),
              length-take-le at report (omega (arith, row_fits room h)),
              length-listed (λ i. count i entries) 0 actions,
            )

        after_is : after ≡ front ++ rest
        after_is = is-after ∙ sym (append_assoc (take at report) (tallied entries actions) rest)

  pub all_filled :
      {p : ℕ} {report : List ℕ} → FilledTo kept base stride len n actions before p report → p ≡ len
      → (plans : List (List ℕ)) → length plans ≡ n → Kept kept base stride len plans
      → report ≡ take 5 before ++ (rows plans actions 0 len ++ drop (5 + actions * len) before)
  all_filled {p} {report} to all plans each held =
      sym (take-append-drop (place actions p) report)
      ∙ rw (to.filled plans each held, to.ahead, all) (append_assoc (take 5 before) (rows plans actions 0 len) _)
