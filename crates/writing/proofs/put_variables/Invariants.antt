-- What holds at each turn of `writing::put_variables`: the bytes from the next variable on are left to put.
-- Assumes nothing.
use Rattle.putting.proofs.Putting.{Left}
use Rattle.putting.proofs.Entries.{variables_from}
use Rattle.writing.proofs.put_variables.Given as goal

abbrev pub invariant-loop-variable : goal.invariant-loop-variable
invariant-loop-variable l = Left (variables_from l.variables 0) l.begin l.initial.file (variables_from l.variables l.variable-index) l.at l.file
