-- Lent bytes from a place on: those of one entry and those behind it; and the conditions in them, two bytes each, and the tasks, three.
-- Assumes nothing.
use mathlib.Core.Path.{◌≡◌, refl, ap}
use mathlib.Core.List.{List, [], ◌∷◌}
use Prim.Native.Nat.{ℕ, zero, suc, ◌+◌, ◌*◌, ◌≤◌}
use native.Mathlib.Numerals.{add-one}
use native.Mathlib.Omega.{arith}
use lib.ListN.{length, get_or, take, drop}
use lib.Seq.{drop-cons, drop-nil}
use Rattle.spelling.specs.Lent.{unlent_condition, unlent_errand, conditions_in, first_of, errands_in}

module _ (bytes : List ℕ) where
  abbrev byte : ℕ → ℕ
  byte i = get_or bytes i 0

  byte_at : (i j : ℕ) → j ≡ i + 1 → j ≤ length bytes → drop i bytes ≡ byte i ∷ drop j bytes
  byte_at i j e h = rw (e, add-one i) (drop-cons bytes i 0 (omega arith))

  module _ (i : ℕ) where
    pub one_byte : i + 1 ≤ length bytes → drop i bytes ≡ byte i ∷ drop (i + 1) bytes
    one_byte h = byte_at i (i + 1) refl h

    pub two_bytes : i + 2 ≤ length bytes → drop i bytes ≡ byte i ∷ byte (i + 1) ∷ drop (i + 2) bytes
    two_bytes h = rw (one_byte (omega arith), byte_at (i + 1) (i + 2) (omega arith) h)

    pub three_bytes : i + 3 ≤ length bytes → drop i bytes ≡ byte i ∷ byte (i + 1) ∷ byte (i + 2) ∷ drop (i + 3) bytes
    three_bytes h = rw (two_bytes (omega arith), byte_at (i + 2) (i + 3) (omega arith) h)

    pub four_bytes : i + 4 ≤ length bytes → drop i bytes ≡ byte i ∷ byte (i + 1) ∷ byte (i + 2) ∷ byte (i + 3) ∷ drop (i + 4) bytes
    four_bytes h = rw (three_bytes (omega arith), byte_at (i + 3) (i + 4) (omega arith) h)

    pub five_bytes :
        i + 5 ≤ length bytes
        → drop i bytes ≡ byte i ∷ byte (i + 1) ∷ byte (i + 2) ∷ byte (i + 3) ∷ byte (i + 4) ∷ drop (i + 5) bytes
    five_bytes h = rw (four_bytes (omega arith), byte_at (i + 4) (i + 5) (omega arith) h)

-- ---- conditions

twice : (n : ℕ) → 2 * suc n ≡ suc (suc (2 * n))
twice n = omega arith

pub conditions_behind : (n : ℕ) (bytes : List ℕ) → drop n (conditions_in bytes) ≡ conditions_in (drop (2 * n) bytes)
unfolding conditions_in
conditions_behind zero bytes = refl
conditions_behind (suc n) [] = rw (drop-nil (2 * suc n)) refl
conditions_behind (suc n) (v ∷ []) = rw (twice n, drop-nil n)
conditions_behind (suc n) (v ∷ q ∷ rest) = rw (twice n) (conditions_behind n rest)

pub first_conditions : (n : ℕ) (bytes : List ℕ) → 2 * n ≤ length bytes → first_of unlent_condition n (conditions_in bytes) ≡ conditions_in (take (2 * n) bytes)
unfolding conditions_in first_of
first_conditions zero bytes h = refl
first_conditions (suc n) [] h = absurd (omega arith)
first_conditions (suc n) (v ∷ []) h = absurd (omega arith)
first_conditions (suc n) (v ∷ q ∷ rest) h = rw (twice n, first_conditions n rest (omega arith))

pub so_many_first : {A : Type 0} (other : A) (n : ℕ) (xs : List A) → length (first_of other n xs) ≡ n
unfolding first_of
so_many_first other zero xs = refl
so_many_first other (suc n) [] = ap suc (so_many_first other n [])
so_many_first other (suc n) (x ∷ rest) = ap suc (so_many_first other n rest)

-- ---- tasks

thrice : (n : ℕ) → 3 * suc n ≡ suc (suc (suc (3 * n)))
thrice n = omega arith

pub errands_behind : (n : ℕ) (bytes : List ℕ) → drop n (errands_in bytes) ≡ errands_in (drop (3 * n) bytes)
unfolding errands_in
errands_behind zero bytes = refl
errands_behind (suc n) [] = rw (drop-nil (3 * suc n)) refl
errands_behind (suc n) (v ∷ []) = rw (thrice n, drop-nil n)
errands_behind (suc n) (v ∷ p ∷ []) = rw (thrice n, drop-nil n)
errands_behind (suc n) (v ∷ p ∷ q ∷ rest) = rw (thrice n) (errands_behind n rest)

pub first_errands : (n : ℕ) (bytes : List ℕ) → 3 * n ≤ length bytes → first_of unlent_errand n (errands_in bytes) ≡ errands_in (take (3 * n) bytes)
unfolding errands_in first_of
first_errands zero bytes h = refl
first_errands (suc n) [] h = absurd (omega arith)
first_errands (suc n) (v ∷ []) h = absurd (omega arith)
first_errands (suc n) (v ∷ p ∷ []) h = absurd (omega arith)
first_errands (suc n) (v ∷ p ∷ q ∷ rest) h = rw (thrice n, first_errands n rest (omega arith))
