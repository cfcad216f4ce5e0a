use Rattle.at_nest.proofs.Stretches.{popped_stretch}
use Rattle.at_nest.proofs.open_levels.Levels.pop_before.Goals as goal

pub returns-in-Some : goal.returns-in-Some
returns-in-Some g c = popped_stretch c.args.self.now.before.items c.pop.new.self.items c.in-Some.field-0 c.args.self.now.last.items c.requires c.in-Some.ensures.items
