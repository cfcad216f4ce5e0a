use Rattle.at_nest.proofs.Stretches.{added_stretch}
use Rattle.at_nest.proofs.open_levels.add_stretch.Goals as goal

pub returns-in_ok-push : goal.returns-in_ok-push
returns-in_ok-push g c = added_stretch c.args.before.now.items c.push.new.self.items (record { round = c.pop.new.self; innermost = c.in-Some.innermost }) c.args.levels.items c.in_ok-push.ensures.items c.in-Some.ensures.items
