-- A fact's kind tells its words, and how many numbers it names.
-- Assumes nothing.
use mathlib.Core.Path.{◌≡◌, refl, sym, ap, ◌∙◌}
use mathlib.Core.List.{List, [], ◌∷◌}
use Prim.Native.Nat.{ℕ}
use lib.ListN.{length, get_or}
use Rattle.facts.specs.declared.Fact.{Fact as FactRow}
use Rattle.explained.specs.Facts.{next, sets, leaves, Fact, goal, set, unset, round, wants, start, walk, ring, after, row_of, bytes_of, kind_of, kind_in, word_of, numbers_of}

-- a fact of each kind but the last
abbrev pub samples : List Fact
samples =
    goal 0 0 ∷ set 0 0 0 0 ∷ unset 0 0 ∷ round 0 0 ∷ wants 0 0 0 ∷ start 0 0 ∷ walk 0 0 0 0
    ∷ ring next 0 0 0 0 ∷ ring sets 0 0 0 0 ∷ ring leaves 0 0 0 0 ∷ after next 0 0 0 0 ∷ after sets 0 0 0 0 ∷ []

abbrev pub sample : ℕ → Fact
sample kind = get_or samples kind (after leaves 0 0 0 0)

pub kind_of_lem : (f : Fact) {row : FactRow} → row ≡ row_of f → kind_of f ≡ kind_in row
kind_of_lem f e = rw e

-- .. as bytes
pub first_byte : (f : Fact) {row : List ℕ} → row ≡ bytes_of f → kind_of f ≡ get_or row 0 0
first_byte f e = rw e

record Alike (f g : Fact) : Type 0 where
  word : word_of f ≡ word_of g
  many : length (numbers_of f) ≡ length (numbers_of g)

alike : (f : Fact) → Alike f (sample (kind_of f))
alike (goal v q) = record { word = refl; many = refl }
alike (set v q i p) = record { word = refl; many = refl }
alike (unset v q) = record { word = refl; many = refl }
alike (round v q) = record { word = refl; many = refl }
alike (wants i v q) = record { word = refl; many = refl }
alike (start v q) = record { word = refl; many = refl }
alike (walk v i p q) = record { word = refl; many = refl }
alike (ring next i j v q) = record { word = refl; many = refl }
alike (ring sets i j v q) = record { word = refl; many = refl }
alike (ring leaves i j v q) = record { word = refl; many = refl }
alike (after next k i v q) = record { word = refl; many = refl }
alike (after sets k i v q) = record { word = refl; many = refl }
alike (after leaves k i v q) = record { word = refl; many = refl }

pub word_of_lem : {kind : ℕ} (k : ℕ) → kind ≡ k → (f : Fact) → kind_of f ≡ kind → word_of (sample k) ≡ word_of f
word_of_lem k e f h = sym ((alike f).word ∙ ap (λ (x : ℕ). word_of (sample x)) (h ∙ e))

pub many_of : {kind : ℕ} (k : ℕ) → kind ≡ k → (f : Fact) → kind_of f ≡ kind → length (numbers_of (sample k)) ≡ length (numbers_of f)
many_of k e f h = sym ((alike f).many ∙ ap (λ (x : ℕ). length (numbers_of (sample x))) (h ∙ e))
