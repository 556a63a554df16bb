-- `vetting::vet_words` meets its contract: the list is vetted, and where it is in order, the pairs.
-- Assumes nothing.
use Prim.Native.Nat.{ℕ}
use mathlib.Core.List.{List}
use native.Mathlib.Omega.{arith}
use Rattle.bits.specs.Bits.{bit}
use Rattle.study.specs.Study.{Study}
use Rattle.vetting.specs.Words.{WalksTold, InWords}
use Rattle.vetting.proofs.vet_words.Goals as goal

told_in_word :
    {t : Study} {count total members : ℕ} {outs words : List ℕ} → InWords t count total members outs words → WalksTold t count outs (bit members)
told_in_word words = record { plannable = words.plannable; actions = words.actions; force = words.force; walks = words.walks }

pub vet_list-requires : goal.vet_list-requires
vet_list-requires c =
    let (t, words) = c.requires.1 in
    record { room = c.requires.0; few_members = λ i w. omega (arith, words.low i w); known = (t, words.actions, words.force) }

pub vet_ties-requires : goal.vet_ties-requires
vet_ties-requires c =
    let (t, words) = c.requires.1 in
    (words.few, words.counted, words.low, c.in-Ok.ensures.set_of, c.requires.2)

pub returns-in-Ok : goal.returns-in-Ok
returns-in-Ok c t words = c.vet_ties.ensures t words.directs (c.in-Ok.ensures.listed t (told_in_word words))

pub returns-in-Err : goal.returns-in-Err
returns-in-Err c t words = c.in-Err.ensures.refused t (told_in_word words)
