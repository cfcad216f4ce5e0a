-- The last one is behind all others.
use Rattle.std.proofs.Common.{◌-◌, ◌<◌, length, arith}
use Rattle.at_nest.specs.Shown.{stretched}
use Rattle.at_nest.proofs.Stretches.{puts_end}
use Rattle.at_nest.proofs.open_levels.Levels.put_innermost.Goals as goal

pub returns : goal.returns
returns g c =
    let some : 0 < length c.args.self.now.last.items = omega (arith, c.args.self.now.last.ok, c.len-count.ensures, c.if-count-eq0.false) in
    puts_end (stretched c.args.self.now.before.items) c.args.self.now.last.items (c.len-count.result - 1) c.args.level some (omega (arith, c.args.self.now.last.ok, c.len-count.ensures))
