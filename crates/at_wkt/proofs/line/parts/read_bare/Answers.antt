use Rattle.at_wkt.proofs.PartAnswers.{position_item}
use Rattle.at_wkt.proofs.line.parts.read_bare.Goals as goal

pub returns : goal.returns
returns c = position_item c.args.source.now.rules c.args.source.now.text.now c.args.from.at c.args.from.dimension c.in_ok-read.read _ _ c.in_ok-read.ensures c.in_ok-push.ensures.items
