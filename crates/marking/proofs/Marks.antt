-- Bits put into a word of a table: those that were set stay, the new ones are set, and no others.
-- Assumes nothing.
use mathlib.Core.Path.{◌≡◌, refl, sym, ◌∙◌}
use mathlib.Core.Logic.{◌⊎◌, inl, inr, ◌≢◌}
use mathlib.Core.Bool.{Bool, true, ◌||◌, or-true}
use mathlib.Core.List.{List}
use Prim.Native.Nat.{ℕ, ◌+◌, ◌-◌, ◌<◌, ◌≤◌}
use native.Mathlib.Omega.{arith}
use native.Mathlib.Decide.{ℕ_discrete}
use lib.Dec.{eqb}
use lib.ListN.{length, get_or, set, length-set}
use lib.Seq.{get_or-set_same, get_or-set_other}
use borrow.Author.Tests.{eq-eqb, eqb-true}
use Rattle.plain.proofs.Tests.{either}
use Rattle.bits.specs.Bits.{bit}
use Rattle.marking.specs.Marking.{Marked, Grows, SetterMarked, LeaverMarked}

-- new bits put into word l
module _
    (table : List ℕ) (l word : ℕ) (new : ℕ → Bool) (h : l < length table)
    (is : (b : ℕ) → bit word b ≡ (new b || bit (get_or table l 0) b)) where
  pub put_grows : Grows table (set table l word)
  put_grows a b m = go (ℕ_discrete a l)
    where
      go : Dec (a ≡ l) → Marked (set table l word) a b
      go (yes e) = rw (e, get_or-set_same table l word 0 h, is b, rw e at m) (or-true (new b))
      go (no n) = rw (get_or-set_other table l a word 0 n) m

  pub put_there : (b : ℕ) → new b ≡ true → Marked (set table l word) l b
  put_there b e = rw (get_or-set_same table l word 0 h, is b, e)

  pub put_only : (a b : ℕ) → Marked (set table l word) a b → Marked table a b ⊎ ((a ≡ l) × (new b ≡ true))
  put_only a b m = go (ℕ_discrete a l)
    where
      from : (new b ≡ true) ⊎ (bit (get_or table l 0) b ≡ true) → a ≡ l → Marked table a b ⊎ ((a ≡ l) × (new b ≡ true))
      from (inl f) e = inr (e, f)
      from (inr f) e = inl (rw e f)

      go : Dec (a ≡ l) → Marked table a b ⊎ ((a ≡ l) × (new b ≡ true))
      go (yes e) = from (either (new b) (bit (get_or table l 0) b) (rw (e, get_or-set_same table l word 0 h, is b) at m)) e
      go (no n) = inl (rw (get_or-set_other table l a word 0 n) at m)

-- ---- the rank of an action that sets a value

module _ (word q start rank : ℕ) where
  pub start_unmarked : q ≡ start → SetterMarked word q start rank word
  start_unmarked e = record { grows = λ b m. m; there = λ d. absurd (d e); only = λ b m. inl m }

  pub setter_marked :
      (word' : ℕ) → q ≢ start → ((b : ℕ) → bit word' b ≡ (eqb rank b || bit word b)) → SetterMarked word q start rank word'
  setter_marked word' d is = record {
    grows = λ b m. rw (is b, m) (or-true (eqb rank b));
    there = λ _. rw (is rank, eq-eqb rank rank refl);
    only = λ b m. from b (either (eqb rank b) (bit word b) (rw (is b) at m));
  }
    where
      from : (b : ℕ) → (eqb rank b ≡ true) ⊎ (bit word b ≡ true) → (bit word b ≡ true) ⊎ ((q ≢ start) × (rank ≡ b))
      from b (inl e) = inr (d, eqb-true rank b e)
      from b (inr m) = inl m

-- ---- a rank before that of the action that leaves a value

module _ (step rank : ℕ) (ranks before : List ℕ) (size : length before ≡ 64) where
  pub end_unmarked : step ≤ 1 → LeaverMarked step rank ranks before before
  end_unmarked h = record { long = size; grows = λ a b m. m; there = λ l e. absurd (omega arith); only = λ a b m. inl m }

  pub leaver_marked :
      (l word : ℕ) → 1 < step → l ≡ get_or ranks (step - 2) 0 → l < 64
      → ((b : ℕ) → bit word b ≡ (eqb rank b || bit (get_or before l 0) b)) → LeaverMarked step rank ranks before (set before l word)
  leaver_marked l word h is low bits = record {
    long = length-set before l word ∙ size;
    grows = put_grows before l word (eqb rank) there bits;
    there = λ k e.
        let same : step - 2 ≡ k = omega arith in
        rw (← same, ← is) (put_there before l word (eqb rank) there bits rank (eq-eqb rank rank refl));
    only = λ a b m. from a b (put_only before l word (eqb rank) there bits a b m);
  }
    where
      there : l < length before
      there = omega arith

      from :
          (a b : ℕ) → Marked before a b ⊎ ((a ≡ l) × (eqb rank b ≡ true))
          → Marked before a b ⊎ ((b ≡ rank) × ((k : ℕ) × ((step ≡ k + 2) × (get_or ranks k 0 ≡ a))))
      from a b (inl m) = inl m
      from a b (inr (e, f)) = inr (sym (eqb-true rank b f), (step - 2, (omega arith, sym (e ∙ is))))
