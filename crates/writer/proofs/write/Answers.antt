-- `writer::write` meets its contract: what is judged of the lists is what the reader says of their file.
-- Assumes nothing.
use native.Mathlib.Omega.{arith}
use Rattle.writer.proofs.Written.{refused_so, too_short, written}
use Rattle.writer.proofs.write.Goals as goal

pub returns-then-file-length : goal.returns-then-file-length
returns-then-file-length c =
    let (loads, long) = rw c.in-Good.is at c.judge-judged.ensures in
    too_short _ _ loads _ long (omega arith) c.numbers-then-file-length.ensures

pub write-requires : goal.write-requires
write-requires c =
    let (loads, long) = rw c.in-Good.is at c.judge-judged.ensures in
    (loads, omega arith)

pub returns-in-Refused : goal.returns-in-Refused
returns-in-Refused c =
    refused_so _ _ _ _ (rw c.in-Refused.is at c.judge-judged.ensures) c.numbers.ensures

pub returns-else-file-length : goal.returns-else-file-length
returns-else-file-length c =
    let (loads, long) = rw c.in-Good.is at c.judge-judged.ensures in
    written _ _ loads _ long (omega arith) c.numbers-in-Good.ensures c.write.ensures
