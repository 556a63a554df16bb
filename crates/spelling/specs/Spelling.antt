-- The bytes of a record, and of records one after another.
-- Assumes nothing.
use Rattle.std.specs.Prelude.{ℕ, ◌/◌, ◌%◌, List, [], ◌∷◌, ◌++◌}
use Rattle.study.specs.Reading.{Record, variable, action, condition, task, seed, end, times, present, crew}

-- the byte that a record begins with
abbrev pub kind_of : Record → ℕ
kind_of (variable n) = 1
kind_of (action v p q) = 2
kind_of (condition v q) = 3
kind_of (task v p q) = 4
kind_of (seed n) = 5
kind_of end = 6
kind_of (times n) = 7
kind_of (present n) = 8
kind_of crew = 9

-- its kind, then its body: the seed in four bytes, most significant first
unfoldable pub spelled_record : Record → List ℕ
spelled_record (variable n) = 1 ∷ n ∷ []
spelled_record (action v p q) = 2 ∷ v ∷ p ∷ q ∷ []
spelled_record (condition v q) = 3 ∷ v ∷ q ∷ []
spelled_record (task v p q) = 4 ∷ v ∷ p ∷ q ∷ []
spelled_record (seed n) = 5 ∷ n / 16777216 ∷ n / 65536 % 256 ∷ n / 256 % 256 ∷ n % 256 ∷ []
spelled_record end = 6 ∷ []
spelled_record (times n) = 7 ∷ n ∷ []
spelled_record (present n) = 8 ∷ n ∷ []
spelled_record crew = 9 ∷ []

unfoldable pub spelled : List Record → List ℕ
spelled [] = []
spelled (r ∷ rest) = spelled_record r ++ spelled rest
