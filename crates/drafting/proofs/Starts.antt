-- Before the first record: all the records that the lists stand for are to come. Behind the variables the place is as far on as the situation and the variables reach.
-- Assumes nothing.
use mathlib.Core.Path.{◌≡◌, refl, ap}
use mathlib.Core.Bool.{Bool, true, false}
use mathlib.Core.List.{List, [], ◌∷◌, ◌++◌, map}
use Prim.Native.Nat.{ℕ, ◌+◌, ◌*◌}
use native.Mathlib.Omega.{arith}
use lib.Dec.{eqb}
use lib.ListN.{length, replicate, length-append, length-drop}
use Rattle.plain.specs.Choose.{pick}
use Rattle.study.specs.Reading.{Record, variable, present, blank}
use Rattle.tables.specs.Rows.{count_column, column}
use Rattle.lawful.specs.Lengths.{bytes_of_present}
use Rattle.advancing.specs.declared.Progress.{Progress}
use Rattle.standing.specs.Reads.{Bounds, origin}
use Rattle.standing.proofs.Reached.{begun}
use Rattle.standing.proofs.Start.{nothing_known}
use Rattle.spelling.specs.Spelling.{spelled_record, spelled}
use Rattle.spelling.specs.Lists.{present_record, action_records, crew_records, records_of, file_of}
use Rattle.spelling.specs.Lent.{conditions_in, actions_in, errands_in, crews_in, lent}
use Rattle.spelling.proofs.Rewritten.{spelled-append}
use Rattle.spelling.proofs.ReadBack.{nothing_retold}
use Rattle.drafts.specs.Drafts.{Drafted}

pub origin_bounds : (counts : List ℕ) → Bounds origin counts
origin_bounds counts = search arith

variable_bytes : (variables : List ℕ) → length (spelled (map variable variables)) ≡ 2 * length variables
unfolding spelled spelled_record
variable_bytes [] = refl
variable_bytes (n ∷ rest) = omega (arith, variable_bytes rest)

present_bytes : (b : Bool) (n : ℕ) → length (spelled (pick b [] (present n ∷ []))) ≡ pick b 0 2
unfolding spelled spelled_record
present_bytes true n = refl
present_bytes false n = refl

module _ (situation : ℕ) (variables actions conditions crews tasks : List ℕ) where
  abbrev file : List ℕ
  file = file_of (lent situation variables actions conditions crews tasks)

  abbrev pub behind_variables : List Record
  behind_variables = action_records (actions_in actions (conditions_in conditions)) ++ crew_records (crews_in crews (errands_in tasks))

  pub starts : Drafted file (count_column (replicate 32 (replicate 3 0))) origin (present_record situation ++ (map variable variables ++ behind_variables))
  unfolding file_of records_of column
  starts =
      record { draft = blank; reached = begun _; retold = nothing_retold _; knows = nothing_known _; wide = refl; rest = refl; inside = omega arith }

  pub actions_start : {counts : List ℕ} {p : Progress} → Drafted file counts p behind_variables → p.at ≡ bytes_of_present situation + 2 * length variables
  unfolding file_of records_of
  actions_start {p = p} h =
      let all = ap length (spelled-append (present_record situation) (map variable variables ++ behind_variables)) in
      let others = ap length (spelled-append (map variable variables) behind_variables) in
      omega (
        arith,
        all,
        others,
        length-append (spelled (present_record situation)) (spelled (map variable variables ++ behind_variables)),
        length-append (spelled (map variable variables)) (spelled behind_variables),
        present_bytes (eqb situation 0) situation,
        variable_bytes variables,
        length-drop p.at file,
        ap length h.rest,
        h.inside,
      )
