use Rattle.std.proofs.Common.{length, ◌-◌}
use Rattle.at_wkt.proofs.Names.{ItemsSoFar}
use Rattle.at_wkt.proofs.line.parts.read_members.Given as goal

abbrev pub invariant-members : goal.invariant-members
invariant-members g l = ItemsSoFar g.M.Listed.spells (g.M.Listed.faults l.source.rules.digits l.source.rules.how) (g.M.Listed.added l.source.rules.digits l.source.rules.how) l.fn.kept.items l.kept.items l.source.rules.base l.source.text.now l.fn.from.at l.fn.from.dimension l.last

abbrev pub decreases-members : goal.decreases-members
decreases-members g l = length l.source.text.now - l.last.behind.at
