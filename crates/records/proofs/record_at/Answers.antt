-- `records::record_at` meets its contract: at each `return` the tests that led there say which case of `recordAt` holds.
-- Assumes nothing.
use mathlib.Core.Path.{refl, sym}
use Rattle.records.proofs.Laws.{record_ended, record_unknown_low, record_unknown_high, record_of_kind}
use Rattle.records.proofs.record_at.Goals as goal

pub returns-then-len-at : goal.returns-then-len-at
returns-then-len-at c = sym (record_ended _ _ c.if-len-at.true)

pub returns-then-kind-lt1 : goal.returns-then-kind-lt1
returns-then-kind-lt1 c = sym (record_unknown_low _ _ c.if-len-at.false c.if-kind-lt1.true)

pub returns-then-kind-gt9 : goal.returns-then-kind-gt9
returns-then-kind-gt9 c = sym (record_unknown_high _ _ c.if-len-at.false c.if-kind-lt1.false c.if-kind-gt9.true)

pub returns : goal.returns
returns c =
    let of = record_of_kind _ _ c.if-len-at.false _ refl c.if-kind-lt1.false c.if-kind-gt9.false in
    rw (c.with_body.ensures, c.body_length.ensures.0) (sym of)
