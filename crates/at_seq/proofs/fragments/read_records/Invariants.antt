use Rattle.std.proofs.Common.{◌-◌}
use Rattle.at_seq.proofs.Merges.{ReadSoFar}
use Rattle.at_seq.proofs.fragments.read_records.Given as goal

abbrev pub invariant-records : goal.invariant-records
invariant-records l = ReadSoFar l.file.algebra.now l.file.bytes.now l.span.from l.span.to l.start l.kept

abbrev pub decreases-records : goal.decreases-records
decreases-records l = l.span.to - l.start
