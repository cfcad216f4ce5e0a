use Rattle.std.proofs.Common.{arith}
use Rattle.at_scan.proofs.hashes.hash_of_tail.Goals as goal

pub returns-in-Some : goal.returns-in-Some
returns-in-Some c = grind (arith, c.in-Some.ensures.cases, c.from_le_bytes.ensures)

pub returns-in-None : goal.returns-in-None
returns-in-None c = grind (arith, c.in-None.ensures.cases, c.hash_of_few.ensures)
