-- The text that the program prints, in ASCII: numbers, lines, and what is put at a place of a buffer.
-- Assumes nothing.
use Rattle.std.specs.Prelude.{ℕ, zero, suc, ◌+◌, ◌/◌, ◌%◌, ◌≡◌, List, [], ◌∷◌, ◌++◌, ltb, length, get_or, take}
use Rattle.plain.specs.Choose.{pick}
use Rattle.study.specs.Study.{Action, action_at}

-- a number's decimal digits, the most significant first, with `more` of them besides the last at most
unfoldable pub spelled : ℕ → ℕ → List ℕ
spelled zero n = (48 + n) ∷ []
spelled (suc more) n = pick (ltb n 10) ((48 + n) ∷ []) (spelled more (n / 10) ++ ((48 + n % 10) ∷ []))

-- 20 digits hold every number that an answer may have
abbrev pub decimal : ℕ → List ℕ
decimal n = spelled 19 n

-- a number after a space
abbrev pub spaced : ℕ → List ℕ
spaced n = 32 ∷ decimal n

abbrev pub line_end : List ℕ
line_end = 10 ∷ []

-- `plan` and the length
abbrev pub first_line : ℕ → List ℕ
first_line n = (112 ∷ 108 ∷ 97 ∷ 110 ∷ []) ++ (spaced n ++ line_end)

-- `crew` and its number
abbrev pub crew_line : ℕ → List ℕ
crew_line c = (99 ∷ 114 ∷ 101 ∷ 119 ∷ []) ++ (spaced c ++ line_end)

-- `refused` and the three numbers
abbrev pub refused_line : ℕ → ℕ → ℕ → List ℕ
refused_line number first second =
    (114 ∷ 101 ∷ 102 ∷ 117 ∷ 115 ∷ 101 ∷ 100 ∷ []) ++ (spaced number ++ (spaced first ++ (spaced second ++ line_end)))

-- step, action, variable, pre, post
abbrev pub step_line : ℕ → ℕ → ℕ → ℕ → ℕ → List ℕ
step_line step action var pre post = decimal step ++ (spaced action ++ (spaced var ++ (spaced pre ++ (spaced post ++ line_end))))

-- by action: the variable, pre and post that its line shows
pub record Shown : Type 0 where
  pub var : ℕ → ℕ
  pub pre : ℕ → ℕ
  pub post : ℕ → ℕ

abbrev pub shown_of : List Action → Shown
shown_of actions = record { var = λ a. (action_at actions a).var; pre = λ a. (action_at actions a).pre; post = λ a. (action_at actions a).post }

abbrev pub shown_in : (vars pres posts : List ℕ) → Shown
shown_in vars pres posts = record { var = λ a. get_or vars a 0; pre = λ a. get_or pres a 0; post = λ a. get_or posts a 0 }

abbrev pub line_of : Shown → ℕ → ℕ → List ℕ
line_of s step a = step_line step a (s.var a) (s.pre a) (s.post a)

-- a line for each step, numbered on from the first
unfoldable pub step_lines : Shown → ℕ → List ℕ → List ℕ
step_lines s step [] = []
step_lines s step (a ∷ rest) = line_of s step a ++ step_lines s (suc step) rest

abbrev pub plan_text : Shown → List ℕ → List ℕ
plan_text s list = first_line (length list) ++ step_lines s 0 list

-- what stood before the place stays, `added` follows it, and `next` is the place after that
pub record Appends (before : List ℕ) (at : ℕ) (added after : List ℕ) (next : ℕ) : Type 0 where
  pub text : take next after ≡ take at before ++ added
  pub place : next ≡ at + length added
