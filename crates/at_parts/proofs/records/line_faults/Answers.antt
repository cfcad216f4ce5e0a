use Rattle.at_parts.proofs.LineParts.{faults_of_parts}
use Rattle.at_parts.proofs.records.line_faults.Goals as goal

pub returns : goal.returns
returns c = faults_of_parts
