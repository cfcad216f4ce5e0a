use Rattle.at_parts.proofs.Encodings.{encoding_of_both}
use Rattle.at_parts.proofs.records.encoding_of_parts.Goals as goal

pub returns : goal.returns
returns c = encoding_of_both
