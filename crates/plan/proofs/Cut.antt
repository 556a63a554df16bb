-- The program never plans a cut file: it reads one byte more than the longest file has, and of a file that fills them all it prints one refusal.
-- Assumes nothing.
use mathlib.Core.Path.{◌≡◌, ◌∙◌}
use mathlib.Core.List.{List}
use Prim.Native.Nat.{ℕ, ◌≤◌, ◌<◌}
use native.Mathlib.Omega.{arith}
use lib.ListN.{length}
use borrow.Author.Tests.{ne_eqb}
use Rattle.study.specs.Reading.{refused, reading, reading_for}
use Rattle.study.proofs.Refusals.{numbered_some, refusals_numbered}
use Rattle.lawful.specs.Lengths.{longest_file}
use Rattle.lawful.proofs.Lengths.{longer_is_refused}
use Rattle.telling.specs.Text.{refused_line}
use Rattle.turns.specs.Turns.{turns_in}
use Rattle.turns.proofs.Taken.{refused_once}
use Rattle.plan.specs.Printed.{Printed}

refusal_printed : (number place : ℕ) → 1 ≤ number → {text : List ℕ} → Printed (refused number place) text → text ≡ refused_line number place 0
refusal_printed number place some p = p.told ∙ (rw (p.plans.0, ne_eqb number 0 (omega arith)))

pub cut_file_is_refused :
    (file : List ℕ) → longest_file < length file → (crew : ℕ) {text : List ℕ} → Printed (reading_for file crew) text
    → (number : ℕ) × ((place : ℕ) × (text ≡ refused_line number place 0))
cut_file_is_refused file long crew p =
    let (number, (place, said)) = longer_is_refused file long in
    (number, (place, refusal_printed number place (numbered_some (rw said at (refusals_numbered file))) (rw said at p)))

pub cut_file_has_one_turn : (file : List ℕ) → longest_file < length file → turns_in (reading file) ≡ 1
cut_file_has_one_turn file long = let (number, (place, said)) = longer_is_refused file long in refused_once file number place said
