-- Laws of records: how long a body is, and where a record that is there lies.
-- Assumes nothing.
use mathlib.Core.Logic.{◌≢◌}
use mathlib.Core.Path.{◌≡◌, sym, ◌∙◌}
use mathlib.Core.Logic.{inl, inr}
use mathlib.Core.List.{List, [], ◌∷◌}
use Prim.Native.Nat.{ℕ, zero, suc, ◌+◌, ◌≤◌, ◌<◌}
use native.Mathlib.Nat.{sub_self}
use native.Mathlib.Omega.{arith}
use native.Mathlib.Decide.{dec_le, dec_lt}
use lib.ListN.{length, get_or}
use borrow.Author.Tests.{lt-ltb, le-ltb, le-leb, lt-leb}
use types.Run.{OneOf}
use denote.Enum.Declared.{tag_of}
use Rattle.records.specs.Records.{body_length_lem, body_lengths, bodied, record_of, record_at_lem, part, start_of, next_of}
use Rattle.records.specs.declared.Found.{Found}
use Rattle.records.specs.contracts.Found.{the_type}
use Rattle.records.specs.declared.Found.TheVariants.{There, Unknown, Cut, Ended}

pub body_length_small : (kind : ℕ) → body_length_lem kind ≤ 4
unfolding body_length_lem body_lengths
body_length_small zero = omega arith
body_length_small (suc zero) = omega arith
body_length_small (suc (suc zero)) = omega arith
body_length_small (suc (suc (suc zero))) = omega arith
body_length_small (suc (suc (suc (suc zero)))) = omega arith
body_length_small (suc (suc (suc (suc (suc zero))))) = omega arith
body_length_small (suc (suc (suc (suc (suc (suc zero)))))) = omega arith
body_length_small (suc (suc (suc (suc (suc (suc (suc zero))))))) = omega arith
body_length_small (suc (suc (suc (suc (suc (suc (suc (suc zero)))))))) = omega arith
body_length_small (suc (suc (suc (suc (suc (suc (suc (suc (suc zero))))))))) = omega arith
body_length_small (suc (suc (suc (suc (suc (suc (suc (suc (suc (suc kind)))))))))) = omega arith

-- a number from 1 on that is none of 1 to 9
one_higher : (low k : ℕ) → low ≤ k → k ≢ low → suc low ≤ k
one_higher low k h d = omega (arith, d)

pub beyond_the_kinds :
    {k : ℕ} → 1 ≤ k → k ≢ 1 → k ≢ 2 → k ≢ 3 → k ≢ 4 → k ≢ 5 → k ≢ 6 → k ≢ 7 → k ≢ 8 → k ≢ 9 → 9 < k
beyond_the_kinds {k} low a b c d e f g h i =
    one_higher 9 k (one_higher 8 k (one_higher 7 k (one_higher 6 k (one_higher 5 k (one_higher 4 k (one_higher 3 k (one_higher 2 k (one_higher 1 k low a) b) c) d) e) f) g) h) i

-- which case of record_at_lem holds, by the tests that lead to it
module _ (file : List ℕ) (at : ℕ) where
  pub record_ended : length file ≤ at → record_at_lem file at ≡ Ended (length file)
  unfolding record_at_lem
  record_ended h = rw (le-ltb at (length file) h)

  module _ (inside : at < length file) where
    of_its_kind : record_at_lem file at ≡ record_of file at (get_or file at 0)
    unfolding record_at_lem
    of_its_kind = rw (lt-ltb at (length file) inside)

    pub record_unknown_low : get_or file at 0 < 1 → record_at_lem file at ≡ Unknown at
    unfolding record_of
    record_unknown_low h = rw (of_its_kind, lt-leb 1 (get_or file at 0) h)

    pub record_unknown_high : 1 ≤ get_or file at 0 → 9 < get_or file at 0 → record_at_lem file at ≡ Unknown at
    unfolding record_of
    record_unknown_high l h = rw (of_its_kind, le-leb 1 (get_or file at 0) l, lt-leb (get_or file at 0) 9 h)

    pub record_of_kind : (kind : ℕ) → get_or file at 0 ≡ kind → 1 ≤ kind → kind ≤ 9 → record_at_lem file at ≡ bodied (length file) at kind (body_length_lem kind)
    unfolding record_of
    record_of_kind kind e low high = rw (of_its_kind, e, le-leb 1 kind low, le-leb kind 9 high)

    module _ (low : 1 ≤ get_or file at 0) (high : get_or file at 0 ≤ 9) where
      pub record_there :
          at + 1 + body_length_lem (get_or file at 0) ≤ length file
          → record_at_lem file at ≡ There (get_or file at 0) (at + 1) (at + 1 + body_length_lem (get_or file at 0))
      unfolding record_of
      record_there h = rw (of_its_kind, le-leb 1 (get_or file at 0) low, le-leb (get_or file at 0) 9 high, le-leb (at + 1 + body_length_lem (get_or file at 0)) (length file) h)

      pub record_cut :
          length file < at + 1 + body_length_lem (get_or file at 0)
          → record_at_lem file at ≡ Cut (get_or file at 0) at
      unfolding record_of
      record_cut h = rw (of_its_kind, le-leb 1 (get_or file at 0) low, le-leb (get_or file at 0) 9 high, lt-leb (at + 1 + body_length_lem (get_or file at 0)) (length file) h)

-- where a record that is there lies: inside the file, its body right behind its kind
pub record Lies (file : List ℕ) (at kind start next : ℕ) : Type 0 where
  pub inside : at < length file
  pub is_kind : kind ≡ get_or file at 0
  pub low : 1 ≤ kind
  pub high : kind ≤ 9
  pub starts : start ≡ at + 1
  pub goes_on : next ≡ at + 1 + body_length_lem kind
  pub whole : next ≤ length file

pub there_lies : (file : List ℕ) (at : ℕ) {kind start next : ℕ} → record_at_lem file at ≡ There kind start next → Lies file at kind start next
there_lies file at {kind} {start} {next} e = in_file (dec_lt at (length file))
  where
    k : ℕ
    k = get_or file at 0

    other : {A : Type 0} (f : Found) → f ≡ record_at_lem file at → (f ≡ There kind start next → ⊥) → A
    other f g h = absurd (h (g ∙ e))

    fits : at < length file → 1 ≤ k → k ≤ 9 → Dec (at + 1 + body_length_lem k ≤ length file) → Lies file at kind start next
    fits i l h (yes w) =
        let t = record_there file at i l h w in
        let a : kind ≡ k = cc in
        let b : start ≡ at + 1 = cc in
        let d : next ≡ at + 1 + body_length_lem k = cc in
        record { inside = i; is_kind = a; low = rw a l; high = rw a h; starts = b; goes_on = rw a d; whole = rw d w }
    fits i l h (no w) =
        other (Cut k at) (sym (record_cut file at i l h (omega arith))) (λ x. let z : ◌≡◌ {A = ℕ} 0 1 = cc in omega arith)

    high : at < length file → 1 ≤ k → Dec (k ≤ 9) → Lies file at kind start next
    high i l (yes h) = fits i l h (dec_le (at + 1 + body_length_lem k) (length file))
    high i l (no h) = other (Unknown at) (sym (record_unknown_high file at i l (omega arith))) (λ x. let z : ◌≡◌ {A = ℕ} 0 1 = cc in omega arith)

    low : at < length file → Dec (1 ≤ k) → Lies file at kind start next
    low i (yes l) = high i l (dec_le k 9)
    low i (no l) = other (Unknown at) (sym (record_unknown_low file at i (omega arith))) (λ x. let z : ◌≡◌ {A = ℕ} 0 1 = cc in omega arith)

    in_file : Dec (at < length file) → Lies file at kind start next
    in_file (yes i) = low i (dec_le 1 k)
    in_file (no h) = other (Ended (length file)) (sym (record_ended file at (omega arith))) (λ x. let z : ◌≡◌ {A = ℕ} 0 1 = cc in omega arith)

-- a record that is not there has an empty body
pub empty_part : (file : List ℕ) (place : ℕ) → part file place place ≡ []
empty_part file place = rw (sub_self place)

pub no_body : (file : List ℕ) (f : Found) → OneOf (1 ∷ 2 ∷ 3 ∷ []) (tag_of the_type f) → part file (start_of f) (next_of f) ≡ []
no_body file (There kind start next) h = absurd (none h)
  where
    none : OneOf (1 ∷ 2 ∷ 3 ∷ []) 0 → ⊥
    none (inl e) = omega arith
    none (inr (inl e)) = omega arith
    none (inr (inr e)) = omega arith
no_body file (Unknown place) h = empty_part file place
no_body file (Cut kind place) h = empty_part file place
no_body file (Ended place) h = empty_part file place
