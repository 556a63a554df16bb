-- Each turn is a crew's that is there, so that 22 is never told; a file that does not load is told once.
-- Assumes nothing.
use mathlib.Core.Path.{◌≡◌, ap, subst}
use mathlib.Core.Logic.{inl, inr}
use mathlib.Core.List.{List}
use Prim.Native.Nat.{ℕ, ◌<◌}
use native.Mathlib.Omega.{arith}
use lib.ListN.{length}
use borrow.Author.Tests.{lt-ltb}
use Rattle.study.specs.Study.{Roster, Study}
use Rattle.study.specs.Reading.{Said, says, refused, reading, heard_by, reading_for}
use Rattle.study.proofs.Refusals.{Numbered, NumberedIfRefused, refusals_numbered}
use Rattle.turns.specs.Turns.{turns_in}

-- a refusal of the file, and no other
abbrev NumberedIfTold : Said Study → Type 0
NumberedIfTold (says t) = Unit {0}
NumberedIfTold (refused number place) = Numbered number

told_in_turn : (said : Said Roster) (crew : ℕ) → NumberedIfRefused said → crew < turns_in said → NumberedIfTold (heard_by crew said)
told_in_turn (says r) crew h there = rw (lt-ltb crew (length r.crews) there) tt
told_in_turn (refused number place) crew h there = h

not_22 : Numbered 22 → ⊥
not_22 (inl h) = omega arith
not_22 (inr e) = omega arith

pub never_22 : (file : List ℕ) (crew : ℕ) → crew < turns_in (reading file) → (place : ℕ) → reading_for file crew ≡ refused 22 place → ⊥
never_22 file crew there place e = not_22 (subst NumberedIfTold e (told_in_turn (reading file) crew (refusals_numbered file) there))

pub refused_once : (file : List ℕ) (number place : ℕ) → reading file ≡ refused number place → turns_in (reading file) ≡ 1
refused_once file number place e = ap turns_in e
