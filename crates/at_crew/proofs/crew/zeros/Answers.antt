use Rattle.std.proofs.lemmas.List.{take-replicate}
use Rattle.at_crew.proofs.crew.zeros.Goals as goal

pub returns : goal.returns
returns c = take-replicate c.args.count 4097 0 c.requires
