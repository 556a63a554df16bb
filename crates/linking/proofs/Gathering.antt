-- Rows joined to a set one after another: the numbers of one word, then word after word.
-- Assumes nothing.
use mathlib.Core.Path.{◌≡◌, refl, sym, ap, ◌∙◌}
use mathlib.Core.Logic.{◌⊎◌, inl, inr}
use mathlib.Core.Bool.{Bool, true, not, ◌&&◌, ◌||◌, or-true}
use mathlib.Core.List.{List, []}
use Prim.Native.Nat.{ℕ, ◌+◌, ◌*◌, ◌%◌, ◌<◌}
use native.Mathlib.Decide.{ℕ_discrete, dec_lt}
use native.Mathlib.Omega.{arith}
use lib.Dec.{eqb}
use lib.ListN.{length, get_or, set, length-set}
use lib.Seq.{get_or-set_same, get_or-set_other}
use Rattle.plain.proofs.Tests.{either}
use Rattle.bits.specs.Bits.{bit, within}
use Rattle.bits.proofs.Words.{bit_zero}
use Rattle.bits.proofs.Members.{within_word, not_both}
use Rattle.bits.proofs.Changed.{out_gone, out_stays, out_only}
use Rattle.linking.specs.Linking.{Rows, Linked, Shaped}
use Rattle.linking.specs.Passing.{Joined, Joins, OfWord, Gathers}
use Rattle.linking.proofs.Sets.{member_low}

-- ---- one after another

pub joins_none : {some : ℕ → Type 0} {rows : Rows} {s : List ℕ} → length s ≡ 4 → ((y : ℕ) → some y → ⊥) → Joins some rows s s
joins_none e none = record { long = e; kept = λ z h. h; joined = λ y z h l. absurd (none y h); only = λ z h. inl h }

pub joins_one : {rows : Rows} {y : ℕ} {before after : List ℕ} → Joined (get_or rows y []) before after → Joins (λ z. z ≡ y) rows before after
joins_one {rows} {y} {before} {after} j = record {
  long = j.long;
  kept = λ z h. j.members z ∙ rw (h, or-true);
  joined = λ u z e l. j.members z ∙ ap (λ (b : Bool). b || within before z) (rw e at l);
  only = λ z h.
      elim (either (within (get_or rows y []) z) (within before z) (sym (j.members z) ∙ h)) [ inl l ↦ inr (y, (refl, l)) | inr g ↦ inl g ];
}

module _ {one two both : ℕ → Type 0} {rows : Rows} {first second third : List ℕ}
    (h : Joins one rows first second) (g : Joins two rows second third)
    (from_one : (y : ℕ) → one y → both y) (from-two : (y : ℕ) → two y → both y) (parted : (y : ℕ) → both y → one y ⊎ two y) where
  pub joins_more : Joins both rows first third
  joins_more = record {
    long = g.long;
    kept = λ z e. g.kept z (h.kept z e);
    joined = λ y z e l. elim (parted y e) [ inl f ↦ g.kept z (h.joined y z f l) | inr f ↦ g.joined y z f l ];
    only = λ z e. back z (g.only z e);
  }
    where
      back :
          (z : ℕ) → (within second z ≡ true) ⊎ ((y : ℕ) × (two y × Linked rows y z))
          → (within first z ≡ true) ⊎ ((y : ℕ) × (both y × Linked rows y z))
      back z (inl e) = elim (h.only z e) [ inl f ↦ inl f | inr (y, (f, l)) ↦ inr (y, (from_one y f, l)) ]
      back z (inr (y, (f, l))) = inr (y, (from-two y f, l))

-- the same numbers under another name
pub joins_renamed :
    {one two : ℕ → Type 0} {rows : Rows} {before after : List ℕ} → Joins one rows before after
    → ((y : ℕ) → one y → two y) → ((y : ℕ) → two y → one y) → Joins two rows before after
joins_renamed j there back = record {
  long = j.long;
  kept = j.kept;
  joined = λ y z e l. j.joined y z (back y e) l;
  only = λ z e. elim (j.only z e) [ inl f ↦ inl f | inr (y, (f, l)) ↦ inr (y, (there y f, l)) ];
}

-- ---- the numbers of one word

-- a number of the word that is not in the rest
abbrev pub Passed : ℕ → ℕ → ℕ → ℕ → Type 0
Passed q word rest y = (k : ℕ) × ((k < 64) × ((y ≡ q * 64 + k) × ((bit word k ≡ true) × (bit rest k ≡ true → ⊥))))

pub record JoinsTo (q word rest : ℕ) (rows : Rows) (before after : List ℕ) : Type 0 where
  pub rest_of : (k : ℕ) → bit rest k ≡ true → bit word k ≡ true
  pub joins : Joins (Passed q word rest) rows before after

pub word_begins : (q word : ℕ) (rows : Rows) (s : List ℕ) → length s ≡ 4 → JoinsTo q word word rows s s
word_begins q word rows s e = record { rest_of = λ k h. h; joins = joins_none e (λ y (k, (_, (_, (there, gone)))). gone there) }

pub word_on :
    {q word rest : ℕ} {rows : Rows} {first second third : List ℕ} → JoinsTo q word rest rows first second
    → (k : ℕ) → k < 64 → bit rest k ≡ true → (rest' : ℕ) → ((j : ℕ) → bit rest' j ≡ (not (eqb k j) && bit rest j))
    → Joined (get_or rows (64 * q + k) []) second third → JoinsTo q word rest' rows first third
word_on {q} {word} {rest} to k low there rest' out next = record {
  rest_of = λ j h. to.rest_of j (out_only k rest rest' out j h).1;
  joins =
      joins_more to.joins (joins_one next)
      (λ y (j, (l, (e, (w, gone)))). (j, (l, (e, (w, λ h. gone (out_only k rest rest' out j h).1)))))
      (λ y e. (k, (low, (omega arith, (to.rest_of k there, λ h. not_both h (out_gone k rest rest' out))))))
      parted;
}
  where
    parted : (y : ℕ) → Passed q word rest' y → Passed q word rest y ⊎ (y ≡ 64 * q + k)
    parted y (j, (l, (e, (w, gone)))) = go (ℕ_discrete j k)
      where
        go : Dec (j ≡ k) → Passed q word rest y ⊎ (y ≡ 64 * q + k)
        go (yes f) = inr (omega arith)
        go (no d) = inl (j, (l, (e, (w, λ h. gone (out_stays k rest rest' out j d h)))))

pub word_ends :
    {q word rest : ℕ} {rows : Rows} {first second : List ℕ} → JoinsTo q word rest rows first second → rest ≡ 0
    → Joins (OfWord q word) rows first second
word_ends to e =
    joins_renamed to.joins (λ y (k, (l, (f, (w, _)))). (k, (l, (f, w))))
    (λ y (k, (l, (f, w))). (k, (l, (f, (w, λ h. not_both h (rw e (bit_zero k)))))))

-- ---- word after word

-- a member of the first q words
abbrev pub InFirst : List ℕ → ℕ → ℕ → Type 0
InFirst row q y = (within row y ≡ true) × (y < 64 * q)

pub words_begin : (rows : Rows) (row : List ℕ) → length row ≡ 4 → Joins (InFirst row 0) rows row row
words_begin rows row e = joins_none e (λ y (_, h). omega arith)

pub words_on :
    (row : List ℕ) (q : ℕ) {rows : Rows} {first second third : List ℕ} → Joins (InFirst row q) rows first second
    → Joins (OfWord q (get_or row q 0)) rows second third → Joins (InFirst row (q + 1)) rows first third
words_on row q to next =
    joins_more to next (λ y (h, l). (h, omega arith))
    (λ y (k, (l, (e, w))). (within_word row q k y e l ∙ w, omega arith)) parted
  where
    parted : (y : ℕ) → InFirst row (q + 1) y → InFirst row q y ⊎ OfWord q (get_or row q 0) y
    parted y (h, l) = go (dec_lt y (64 * q))
      where
        go : Dec (y < 64 * q) → InFirst row q y ⊎ OfWord q (get_or row q 0) y
        go (yes b) = inl (h, b)
        go (no n) =
            inr (y % 64, (omega arith, (omega arith, sym (within_word row q (y % 64) y (omega arith) (omega arith)) ∙ h)))

pub words_end :
    {x : ℕ} {rows : Rows} {all : List ℕ} → Shaped rows → x < 256 → Joins (InFirst (get_or rows x []) 4) rows (get_or rows x []) all
    → Gathers x rows (set rows x all)
words_end {x} {rows} {all} shaped low to = record {
  shaped = record { long = length-set rows x all ∙ shaped.long; fours = λ y h. four y h (ℕ_discrete y x) };
  others = λ y d. get_or-set_other rows x y all [] d;
  row = rw here (joins_renamed to (λ y (h, _). h) (λ y h. (h, omega (arith, member_low (get_or rows x []) (shaped.fours x low) y h))));
}
  where
    here : get_or (set rows x all) x [] ≡ all
    here = get_or-set_same rows x all [] (omega (arith, shaped.long))

    four : (y : ℕ) → y < 256 → Dec (y ≡ x) → length (get_or (set rows x all) y []) ≡ 4
    four y h (yes e) = rw (e, here) to.long
    four y h (no d) = rw (get_or-set_other rows x y all [] d) (shaped.fours y h)
