use Rattle.at_fixed.proofs.Endings.{scanned_by}
use Rattle.at_fixed.proofs.scanning.scanned_of.Goals as goal

pub returns-clause-reads : goal.returns-clause-reads
returns-clause-reads c notation w small front power = rw (c.size_above.ensures, c.size_below.ensures) (scanned_by notation w c.args.front c.args.power small front power)
