-- `records::body` meets its contract: a record that is there lies inside the file, and one that is not has an empty body.
-- Assumes nothing.
use borrow.Enum.Refused.{opened as keys_of}
use mathlib.Core.Path.{sym, ap, ◌∙◌}
use native.Mathlib.Omega.{arith}
use Rattle.records.specs.Records.{part, start_of, next_of}
use Rattle.records.specs.declared.Found.{Found}
use Rattle.records.proofs.Laws.{there_lies, Lies, no_body}
use Rattle.records.proofs.body.Goals as goal

-- what the match says of the record: it lies inside the file
lies :
    (c : goal.In-There)
    → Lies c.args.file.now c.args.at c.in-There.kind c.in-There.start c.in-There.next
lies c = there_lies _ _ (sym c.record_at-found.ensures ∙ c.in-There.is)

pub returns-in_default : goal.returns-in_default
returns-in_default c =
    let file = c.args.file.now in
    sym (ap (λ (f : Found). part file (start_of f) (next_of f)) (sym c.record_at-found.ensures)
    ∙ no_body file c.record_at-found.result (keys_of c.in_default.in_default-own.keys2))

pub slice_bounds-result-count : goal.slice_bounds-result-count
slice_bounds-result-count c = let l = lies c in omega arith

pub slice_bounds-result-start : goal.slice_bounds-result-start
slice_bounds-result-start c = let l = lies c in omega arith

pub slice_bounds-result-end-2 : goal.slice_bounds-result-end-2
slice_bounds-result-end-2 c = let l = lies c in omega arith

pub returns : goal.returns
returns c =
    let file = c.args.file.now in
    ap (λ (f : Found). part file (start_of f) (next_of f)) (sym c.in-There.is ∙ c.record_at-found.ensures)
