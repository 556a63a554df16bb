-- Bytes put one run after another: what is left to put, put where the last run ended, gives what was to be put.
-- Assumes nothing.
use mathlib.Core.Path.{◌≡◌, refl, ap, ◌∙◌}
use mathlib.Core.List.{List, [], ◌∷◌, ◌++◌}
use Prim.Native.Nat.{ℕ, suc, ◌+◌, ◌≤◌}
use native.Mathlib.Nat.{zero-add}
use native.Mathlib.Omega.{arith}
use lib.ListN.{length, set, drop, length-append}
use lib.Seq.{sets, length-sets, sets-eq}
use Rattle.putting.specs.Put.{Fits, Put}

sets-append : (xs ys l : List ℕ) (at next : ℕ) → next ≡ at + length xs → sets l at (xs ++ ys) ≡ sets (sets l at xs) next ys
sets-append [] ys l at next e = let same : next ≡ at = omega arith in rw same
sets-append (x ∷ xs) ys l at next e = sets-append xs ys (set l at x) (suc at) next (omega arith)

-- of the whole, put into the file as it was from a place on, so much is left, to put into the file as it is
pub record Left (whole : List ℕ) (begin : ℕ) (before left : List ℕ) (at : ℕ) (now : List ℕ) : Type 0 where
  pub same : sets now at left ≡ sets before begin whole
  pub ends : at + length left ≡ begin + length whole
  pub room : length now ≡ length before

pub all_left : (whole : List ℕ) (begin : ℕ) (before : List ℕ) → Left whole begin before whole begin before
all_left whole begin before = record { same = refl; ends = refl; room = refl }

-- some bytes come first, and the rest behind them
pub record Starts (bytes first rest : List ℕ) : Type 0 where
  pub split : bytes ≡ first ++ rest

pub in_front : (first rest : List ℕ) → Starts (first ++ rest) first rest
in_front first rest = record { split = refl }

module _ {whole before left now : List ℕ} {begin at : ℕ} (l : Left whole begin before left at now) where
  pub first_fits : {first rest : List ℕ} → Starts left first rest → Fits whole begin before → Fits first at now
  first_fits {first} {rest} s fits = omega (arith, ap length s.split, length-append first rest)

  pub first_put : {first rest after : List ℕ} {next : ℕ} → Starts left first rest → Put first at now after next → Left whole begin before rest next after
  first_put {first} {rest} {after} {next} s put =
      record {
        same = rw (put.file, ← sets-append first rest now at next put.place, ← s.split) l.same;
        ends = omega (arith, ap length s.split, length-append first rest);
        room = ap length put.file ∙ length-sets now at first ∙ l.room;
      }

pub none_left : {whole before now : List ℕ} {begin at : ℕ} → Left whole begin before [] at now → Put whole begin before now at
none_left l = record { file = l.same; place = omega arith }

-- from the front on
pub sets_front : (bytes l : List ℕ) → length bytes ≤ length l → sets l 0 bytes ≡ bytes ++ drop (length bytes) l
sets_front bytes l fits = sets-eq bytes l 0 (omega arith) ∙ rw (zero-add (length bytes))
