use Rattle.at_parts.proofs.SequenceParts.{faults_of_both}
use Rattle.at_parts.proofs.records.sequence_faults.Goals as goal

pub returns : goal.returns
returns c = faults_of_both
