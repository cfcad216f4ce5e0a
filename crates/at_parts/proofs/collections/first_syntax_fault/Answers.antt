use Rattle.at_parts.proofs.FirstFaults.{first_syntax_fault}
use Rattle.at_parts.proofs.collections.first_syntax_fault.Goals as goal

pub returns : goal.returns
returns c = first_syntax_fault
