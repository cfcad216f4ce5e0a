use Rattle.at_parts.proofs.Files.{sound_parts}
use Rattle.at_parts.proofs.collections.sound_parts.Goals as goal

pub returns : goal.returns
returns c = sound_parts
