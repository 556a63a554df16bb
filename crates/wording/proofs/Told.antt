-- The lines of facts: one number more, one fact more.
-- Assumes nothing.
use mathlib.Core.Path.{◌≡◌, refl, sym, ap, ◌∙◌}
use mathlib.Core.List.{List, [], ◌∷◌, ◌++◌, append_assoc, append-nil, map}
use Prim.Native.Nat.{ℕ, ◌+◌, ◌≤◌, ◌<◌}
use native.Mathlib.Numerals.{add-one}
use native.Mathlib.Omega.{arith}
use lib.ListN.{length, get_or, take}
use lib.Seq.{take-suc, take_all}
use Rattle.facts.specs.declared.Fact.{Fact as FactRow}
use Rattle.telling.specs.Text.{spaced, Appends}
use Rattle.telling.proofs.Placed.{then}
use Rattle.facts.specs.Rows.{bytes_in}
use Rattle.explained.specs.Facts.{Fact, row_of, rows_of, bytes_of, byte_rows, all_spaced, fact_line, fact_lines}

pub nothing_put : {out : List ℕ} {at : ℕ} → Appends out at [] out at
nothing_put {out} {at} = record { text = sym (append-nil (take at out)); place = omega arith }

-- ---- the numbers of a line

spaced_more : (l : List ℕ) (n : ℕ) → all_spaced (l ++ (n ∷ [])) ≡ all_spaced l ++ spaced n
unfolding all_spaced
spaced_more [] n = append-nil (spaced n)
spaced_more (m ∷ l) n =
    ap (λ (r : List ℕ). spaced m ++ r) (spaced_more l n) ∙ sym (append_assoc (spaced m) (all_spaced l) (spaced n))

pub number_put :
    {before middle out : List ℕ} {at m r : ℕ} (words numbers : List ℕ) (k : ℕ) → k < length numbers
    → Appends before at (words ++ all_spaced (take k numbers)) middle m → Appends middle m (spaced (get_or numbers k 0)) out r
    → Appends before at (words ++ all_spaced (take (k + 1) numbers)) out r
number_put words numbers k h said more =
    rw (add-one k, take-suc numbers k 0 h, spaced_more, ← append_assoc words (all_spaced (take k numbers)) (spaced (get_or numbers k 0))) (then said more)

pub numbers_put :
    {before middle out : List ℕ} {at m r : ℕ} (words numbers last : List ℕ) (k : ℕ) → length numbers ≤ k
    → Appends before at (words ++ all_spaced (take k numbers)) middle m → Appends middle m last out r
    → Appends before at (words ++ (all_spaced numbers ++ last)) out r
numbers_put words numbers last k h said more =
    rw (← append_assoc words (all_spaced numbers) last) (then (rw (take_all k numbers h) at said) more)

-- ---- one fact more

lines_more : (l : List Fact) (f : Fact) → fact_lines (l ++ (f ∷ [])) ≡ fact_lines l ++ fact_line f
unfolding fact_lines
lines_more [] f = append-nil (fact_line f)
lines_more (g ∷ l) f =
    ap (λ (r : List ℕ). fact_line g ++ r) (lines_more l f) ∙ sym (append_assoc (fact_line g) (fact_lines l) (fact_line f))

-- .. of whatever stands for facts, one for each
module _ {A : Type 0} (of : Fact → A) where
  record Ends (rows : List A) (row : A) (facts : List Fact) : Type 0 where
    others : List Fact
    last : Fact
    all : facts ≡ others ++ (last ∷ [])
    before : rows ≡ map of others
    here : row ≡ of last

  ends : (rows : List A) (row : A) (facts : List Fact) → rows ++ (row ∷ []) ≡ map of facts → Ends rows row facts
  ends [] row [] e = absurd cc
  ends [] row (f ∷ []) e = record { others = []; last = f; all = refl; before = refl; here = cc }
  ends [] row (f ∷ g ∷ facts) e = absurd cc
  ends (first ∷ rows) row [] e = absurd cc
  ends (first ∷ rows) row (f ∷ facts) e =
      let rest = ends rows row facts cc in
      record { others = f ∷ rest.others; last = rest.last; all = cc; before = cc; here = rest.here }

  none_put : {out : List ℕ} {at : ℕ} (list : List Fact) → [] ≡ map of list → Appends out at (fact_lines list) out at
  unfolding fact_lines
  none_put [] e = nothing_put
  none_put (f ∷ list) e = absurd cc

  one_put :
      {before middle out : List ℕ} {at m r : ℕ} (rows : List A) (k : ℕ) (row : A) → k < length rows
      → ((list : List Fact) → take k rows ≡ map of list → Appends before at (fact_lines list) middle m)
      → ((f : Fact) → get_or rows k row ≡ of f → Appends middle m (fact_line f) out r)
      → (list : List Fact) → take (k + 1) rows ≡ map of list → Appends before at (fact_lines list) out r
  one_put rows k row h said line list e =
      let split = ends (take k rows) (get_or rows k row) list (sym (take-suc rows k row h) ∙ rw add-one at e) in
      rw (split.all, lines_more) (then (said split.others split.before) (line split.last split.here))

-- .. of facts as the code has them
pub no_facts : {out : List ℕ} {at : ℕ} (list : List Fact) → [] ≡ rows_of list → Appends out at (fact_lines list) out at
no_facts = none_put row_of

pub line_put :
    {before middle out : List ℕ} {at m r : ℕ} (rows : List FactRow) (k : ℕ) (row : FactRow) → k < length rows
    → ((list : List Fact) → take k rows ≡ rows_of list → Appends before at (fact_lines list) middle m)
    → ((f : Fact) → get_or rows k row ≡ row_of f → Appends middle m (fact_line f) out r)
    → (list : List Fact) → take (k + 1) rows ≡ rows_of list → Appends before at (fact_lines list) out r
line_put = one_put row_of

-- .. and of their rows of bytes
pub no_rows : {out : List ℕ} {at : ℕ} (list : List Fact) → [] ≡ byte_rows list → Appends out at (fact_lines list) out at
no_rows = none_put bytes_of

pub row_put :
    {before middle out : List ℕ} {at m r : ℕ} (rows : List (List ℕ)) (k : ℕ) (row : List ℕ) → k < length rows
    → ((list : List Fact) → take k rows ≡ byte_rows list → Appends before at (fact_lines list) middle m)
    → ((f : Fact) → get_or rows k row ≡ bytes_of f → Appends middle m (fact_line f) out r)
    → (list : List Fact) → take (k + 1) rows ≡ byte_rows list → Appends before at (fact_lines list) out r
row_put = one_put bytes_of

-- facts as the code has them are told as their rows
pub rows_told : (list : List Fact) {facts : List FactRow} → facts ≡ rows_of list → map bytes_in facts ≡ byte_rows list
rows_told list e = rw e (told list)
  where
    told : (list : List Fact) → map bytes_in (rows_of list) ≡ byte_rows list
    told [] = refl
    told (f ∷ list) = rw (told list) refl

-- .. and rows as themselves
pub bytes_told : (list : List Fact) {rows : List (List ℕ)} → rows ≡ byte_rows list → map (λ (row : List ℕ). row) rows ≡ byte_rows list
bytes_told list {rows = rows} e = same rows ∙ e
  where
    same : (rows : List (List ℕ)) → map (λ (row : List ℕ). row) rows ≡ rows
    same [] = refl
    same (row ∷ rows) = rw (same rows) refl
