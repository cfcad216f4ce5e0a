-- The lanes that aren't the same are marked.
use Rattle.at_scan.proofs.KnownNames.{begins_alike}
use Rattle.at_scan.proofs.known_names.same_lanes.Goals as goal

pub returns : goal.returns
returns c = begins_alike c.args.text.now c.args.at c.args.word.now c.first_set.result c.requires.text c.requires.word c.first_set.ensures
