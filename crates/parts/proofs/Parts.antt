-- Parts of a list that was cut: as many entries as are asked for, or as are there; and the rest.
-- Assumes nothing.
use mathlib.Core.Path.{◌≡◌, refl, sym, ap, ◌∙◌}
use mathlib.Core.List.{List, [], ◌∷◌}
use Prim.Native.Nat.{ℕ, zero, suc, ◌+◌, ◌-◌, ◌≤◌}
use native.Mathlib.Nat.{zero-add, suc-add}
use native.Mathlib.Omega.{arith}
use native.Mathlib.Decide.{dec_le}
use lib.ListN.{length, take, drop}
use lib.Seq.{take_all, take-nil, take-take, drop-drop}

short : (m : ℕ) (l : List ℕ) → length (take m l) ≤ m
short zero l = omega arith
short (suc m) [] = omega arith
short (suc m) (x ∷ l) = omega (arith, short m l)

nothing_left : (k : ℕ) (l : List ℕ) → length l ≤ k → drop k l ≡ []
nothing_left zero [] h = refl
nothing_left zero (x ∷ l) h = absurd (omega (arith, h))
nothing_left (suc k) [] h = refl
nothing_left (suc k) (x ∷ l) h = nothing_left k l (omega (arith, h))

drop-take : (p q : ℕ) (l : List ℕ) → drop p (take (p + q) l) ≡ take q (drop p l)
drop-take zero q l = ap (λ (k : ℕ). take k l) (zero-add q)
drop-take (suc p) q [] = ap (drop (suc p)) (take-nil (suc p + q)) ∙ sym (take-nil q)
drop-take (suc p) q (x ∷ l) = ap (λ (k : ℕ). drop (suc p) (take k (x ∷ l))) (suc-add p q) ∙ drop-take p q l

-- the smaller of two
abbrev pub least : ℕ → ℕ → ℕ
least k m = k - (k - m)

pub take_same : (k n : ℕ) (l : List ℕ) → k ≡ n → take k l ≡ take n l
take_same k n l e = ap (λ (j : ℕ). take j l) e

pub drop_same : (k n : ℕ) (l : List ℕ) → k ≡ n → drop k l ≡ drop n l
drop_same k n l e = ap (λ (j : ℕ). drop j l) e

pub part : (k m p : ℕ) (l : List ℕ) → p ≡ least k m → take k (take m l) ≡ take p l
part k m p l is = go (dec_le k m)
  where
    go : Dec (k ≤ m) → take k (take m l) ≡ take p l
    go (yes few) = take-take k m l few ∙ take_same k p l (omega (arith, is, few))
    go (no many) = take_all k (take m l) (omega (arith, short m l, many)) ∙ take_same m p l (omega (arith, is, many))

pub rest : (k m p : ℕ) (l : List ℕ) → p ≡ least k m → drop k (take m l) ≡ take (m - p) (drop p l)
rest k m p l is = go (dec_le k m)
  where
    go : Dec (k ≤ m) → drop k (take m l) ≡ take (m - p) (drop p l)
    go (yes few) =
        drop_same k p (take m l) (omega (arith, is, few))
        ∙ ap (drop p) (take_same m (p + (m - p)) l (omega (arith, is, few)))
        ∙ drop-take p (m - p) l
    go (no many) =
        nothing_left k (take m l) (omega (arith, short m l, many)) ∙ take_same 0 (m - p) (drop p l) (omega (arith, is, many))

-- ---- lists that follow each other behind a head

-- the entries from a place up to another
abbrev pub between : ℕ → ℕ → List ℕ → List ℕ
between from to l = take (to - from) (drop from l)

-- what came behind a head of so many entries, of n that came
abbrev pub behind : ℕ → ℕ → List ℕ → List ℕ
behind head n l = take (n - head) (drop head l)

regained : (a b : ℕ) → a ≤ b → a + (b - a) ≡ b
regained a b h = omega (arith, h)

left_over : (end a b : ℕ) → a ≤ b → end - a - (b - a) ≡ end - b
left_over end a b h = omega (arith, h)

-- the first list is `many` entries, or as many as came, and ends at `second`
module _ (head : ℕ) (l : List ℕ) (n end many second : ℕ) (came : end - head ≡ n - head) (first_at : second - head ≡ least many (end - head)) where
  of_what_came : second - head ≡ least many (n - head)
  of_what_came = first_at ∙ ap (least many) came

  pub first_part : take many (behind head n l) ≡ between head second l
  first_part = part many (n - head) (second - head) (drop head l) of_what_came

  pub behind_first : head ≤ second → drop many (behind head n l) ≡ between second end l
  behind_first h =
      rest many (n - head) (second - head) (drop head l) of_what_came
      ∙ take_same (n - head - (second - head)) (end - second) (drop (second - head) (drop head l))
      (ap (λ (k : ℕ). k - (second - head)) (sym came) ∙ left_over end head second h)
      ∙ ap (take (end - second)) (drop-drop (second - head) head l ∙ drop_same (head + (second - head)) second l (regained head second h))

-- the second is `more` entries, or as many as came, and ends at `third`
module _ (head : ℕ) (l : List ℕ) (n end many second : ℕ) (came : end - head ≡ n - head) (first_at : second - head ≡ least many (end - head))
    (h : head ≤ second) (more third : ℕ) (second_at : third - second ≡ least more (end - second)) where
  pub second_part : take more (drop many (behind head n l)) ≡ between second third l
  second_part =
      ap (take more) (behind_first head l n end many second came first_at h)
      ∙ part more (end - second) (third - second) (drop second l) second_at

  pub third_part : second ≤ third → drop (many + more) (behind head n l) ≡ between third end l
  third_part apart =
      let left = end - second - (third - second) in
      sym (drop-drop more many (behind head n l))
      ∙ ap (drop more) (behind_first head l n end many second came first_at h)
      ∙ rest more (end - second) (third - second) (drop second l) second_at
      ∙ ap (take left) (drop-drop (third - second) second l ∙ drop_same (second + (third - second)) third l (regained second third apart))
      ∙ take_same left (end - third) (drop third l) (left_over end second third apart)
