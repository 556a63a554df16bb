-- The file, one list after another: each fits where the last ended, and last come the crews with the end.
-- Assumes nothing.
use mathlib.Core.Path.{◌≡◌, ◌∙◌}
use mathlib.Core.List.{List, ◌++◌, map}
use Prim.Native.Nat.{ℕ, ◌≤◌}
use native.Mathlib.Omega.{arith}
use lib.Dec.{eqb}
use lib.ListN.{length, drop}
use Rattle.study.specs.Reading.{variable, present}
use Rattle.spelling.specs.Spelling.{spelled_record, spelled}
use Rattle.spelling.specs.Lists.{present_record, action_records, crew_records, records_of, file_of}
use Rattle.spelling.specs.Lent.{errands_in, crews_in, lent}
use Rattle.spelling.proofs.Rewritten.{spelled-append}
use Rattle.putting.specs.Put.{Fits, Put}
use Rattle.putting.proofs.Putting.{Starts, in_front, Left, all_left, first_fits, first_put, sets_front}
use Rattle.putting.proofs.Entries.{variables_from, actions_from, unless-spelled, unless_bytes}

abbrev crew_bytes : List ℕ → List ℕ → List ℕ
crew_bytes crews tasks = spelled (crew_records (crews_in crews (errands_in tasks)))

module _ (situation : ℕ) (variables actions conditions crews tasks : List ℕ) where
  abbrev whole : List ℕ
  whole = file_of (lent situation variables actions conditions crews tasks)

  parts :
      Starts whole (unless_bytes 0 8 situation)
      (variables_from variables 0 ++ (actions_from actions conditions 0 0 ++ crew_bytes crews tasks))
  unfolding file_of records_of spelled_record
  parts =
      record {
        split = rw (
          spelled-append (present_record situation) _,
          unless-spelled (eqb situation 0) (present situation),
          spelled-append (map variable variables) _,
          spelled-append (action_records _) _,
        );
      }

  module _ (before : List ℕ) (fits : length whole ≤ length before) where
    abbrev AreLeft : List ℕ → ℕ → List ℕ → Type 0
    AreLeft = Left whole 0 before

    all_fit : Fits whole 0 before
    all_fit = omega arith

    pub situation_fits : Fits (unless_bytes 0 8 situation) 0 before
    situation_fits = first_fits (all_left _ 0 before) parts all_fit

    module _ {after : List ℕ} {next : ℕ} (put : Put (unless_bytes 0 8 situation) 0 before after next) where
      situation_put : AreLeft (variables_from variables 0 ++ (actions_from actions conditions 0 0 ++ crew_bytes crews tasks)) next after
      situation_put = first_put (all_left _ 0 before) parts put

      pub variables_fit : Fits (variables_from variables 0) next after
      variables_fit = first_fits situation_put (in_front (variables_from variables 0) _) all_fit

      module _ {after1 : List ℕ} {next1 : ℕ} (put1 : Put (variables_from variables 0) next after after1 next1) where
        variables_put : AreLeft (actions_from actions conditions 0 0 ++ crew_bytes crews tasks) next1 after1
        variables_put = first_put situation_put (in_front (variables_from variables 0) _) put1

        pub actions_fit : Fits (actions_from actions conditions 0 0) next1 after1
        actions_fit = first_fits variables_put (in_front (actions_from actions conditions 0 0) _) all_fit

        module _ {after2 : List ℕ} {next2 : ℕ} (put2 : Put (actions_from actions conditions 0 0) next1 after1 after2 next2) where
          actions_put : AreLeft (crew_bytes crews tasks) next2 after2
          actions_put = first_put variables_put (in_front (actions_from actions conditions 0 0) _) put2

          pub crews_fit : Fits (crew_bytes crews tasks) next2 after2
          crews_fit = omega (arith, actions_put.ends, actions_put.room)

          pub all_put : {last : List ℕ} {next3 : ℕ} → Put (crew_bytes crews tasks) next2 after2 last next3 → last ≡ whole ++ drop (length whole) before
          all_put put3 = put3.file ∙ (actions_put.same ∙ sets_front whole before fits)
