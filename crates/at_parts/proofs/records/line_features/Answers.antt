use Rattle.at_parts.proofs.LineParts.{features_of_parts}
use Rattle.at_parts.proofs.records.line_features.Goals as goal

pub returns : goal.returns
returns c = features_of_parts
