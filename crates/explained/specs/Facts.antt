-- The facts that an explanation tells, a line for each: as the code has it, and as text.
-- Assumes nothing.
use Rattle.std.specs.Prelude.{ℕ, List, [], ◌∷◌, ◌++◌, map, get_or}
use Rattle.facts.specs.declared.Fact.{Fact as FactRow}
use Rattle.facts.specs.declared.Fact.TheVariants.{Goal, Set, Unset, Round, Wants, Start, Walk, Ring, After}
use Rattle.facts.specs.declared.Rule.{Rule as RuleRow}
use Rattle.facts.specs.declared.Rule.TheVariants.{Next, Sets, Leaves}
pub use Rattle.facts.specs.Rows.{rule_in, bytes_in}
use Rattle.telling.specs.Text.{spaced, line_end}

-- the rules of 'comes before': (a), (b), (c)
pub data Rule : Type 0 where
  next : Rule
  sets : Rule
  leaves : Rule

pub data Fact : Type 0 where
  -- of a trace: the goal of variable v is q; action i sets v to q and leaves p; nobody sets v to q; the trace is back at q
  goal : (v q : ℕ) → Fact
  set : (v q i p : ℕ) → Fact
  unset : (v q : ℕ) → Fact
  round : (v q : ℕ) → Fact
  -- of a walk: action i wants v = q, which is off the walk; v starts at q; action i takes v from p to q
  wants : (i v q : ℕ) → Fact
  start : (v q : ℕ) → Fact
  walk : (v i p q : ℕ) → Fact
  -- of a ring: action i comes before action j by the rule, over v = q
  ring : Rule → (i j v q : ℕ) → Fact
  -- of a step of a plan: it comes after step k, which is action i, by the rule, over v = q
  after : Rule → (k i v q : ℕ) → Fact

-- ---- as the code has them

abbrev pub rule_row : Rule → RuleRow
rule_row next = Next
rule_row sets = Sets
rule_row leaves = Leaves

abbrev pub row_of : Fact → FactRow
row_of (goal v q) = Goal v q
row_of (set v q i p) = Set v q i p
row_of (unset v q) = Unset v q
row_of (round v q) = Round v q
row_of (wants i v q) = Wants i v q
row_of (start v q) = Start v q
row_of (walk v i p q) = Walk v i p q
row_of (ring r i j v q) = Ring (rule_row r) i j v q
row_of (after r k i v q) = After (rule_row r) k i v q

abbrev pub rows_of : List Fact → List FactRow
rows_of facts = map row_of facts

-- ---- in rows of numbers: the kind, and four numbers

abbrev pub rule_number : Rule → ℕ
rule_number r = rule_in (rule_row r)

abbrev pub bytes_of : Fact → List ℕ
bytes_of f = bytes_in (row_of f)

abbrev pub byte_rows : List Fact → List (List ℕ)
byte_rows facts = map bytes_of facts

abbrev pub kind_of : Fact → ℕ
kind_of f = get_or (bytes_of f) 0 0

-- .. and of a row
abbrev pub kind_in : FactRow → ℕ
kind_in row = get_or (bytes_in row) 0 0

-- ---- as text: words, and numbers after them

abbrev pub rule_word : Rule → List ℕ
rule_word next = 110 ∷ 101 ∷ 120 ∷ 116 ∷ []
rule_word sets = 115 ∷ 101 ∷ 116 ∷ 115 ∷ []
rule_word leaves = 108 ∷ 101 ∷ 97 ∷ 118 ∷ 101 ∷ 115 ∷ []

abbrev pub word_of : Fact → List ℕ
word_of (goal v q) = 103 ∷ 111 ∷ 97 ∷ 108 ∷ []
word_of (set v q i p) = 115 ∷ 101 ∷ 116 ∷ []
word_of (unset v q) = 117 ∷ 110 ∷ 115 ∷ 101 ∷ 116 ∷ []
word_of (round v q) = 114 ∷ 111 ∷ 117 ∷ 110 ∷ 100 ∷ []
word_of (wants i v q) = 119 ∷ 97 ∷ 110 ∷ 116 ∷ 115 ∷ []
word_of (start v q) = 115 ∷ 116 ∷ 97 ∷ 114 ∷ 116 ∷ []
word_of (walk v i p q) = 119 ∷ 97 ∷ 108 ∷ 107 ∷ []
word_of (ring r i j v q) = (114 ∷ 105 ∷ 110 ∷ 103 ∷ 32 ∷ []) ++ rule_word r
word_of (after r k i v q) = (97 ∷ 102 ∷ 116 ∷ 101 ∷ 114 ∷ 32 ∷ []) ++ rule_word r

abbrev pub numbers_of : Fact → List ℕ
numbers_of (goal v q) = v ∷ q ∷ []
numbers_of (set v q i p) = v ∷ q ∷ i ∷ p ∷ []
numbers_of (unset v q) = v ∷ q ∷ []
numbers_of (round v q) = v ∷ q ∷ []
numbers_of (wants i v q) = i ∷ v ∷ q ∷ []
numbers_of (start v q) = v ∷ q ∷ []
numbers_of (walk v i p q) = v ∷ i ∷ p ∷ q ∷ []
numbers_of (ring r i j v q) = i ∷ j ∷ v ∷ q ∷ []
numbers_of (after r k i v q) = k ∷ i ∷ v ∷ q ∷ []

unfoldable pub all_spaced : List ℕ → List ℕ
all_spaced [] = []
all_spaced (n ∷ rest) = spaced n ++ all_spaced rest

abbrev pub fact_line : Fact → List ℕ
fact_line f = word_of f ++ (all_spaced (numbers_of f) ++ line_end)

unfoldable pub fact_lines : List Fact → List ℕ
fact_lines [] = []
fact_lines (f ∷ rest) = fact_line f ++ fact_lines rest
