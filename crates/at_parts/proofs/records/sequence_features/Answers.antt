use Rattle.at_parts.proofs.SequenceParts.{features_of_both}
use Rattle.at_parts.proofs.records.sequence_features.Goals as goal

pub returns : goal.returns
returns c = features_of_both
