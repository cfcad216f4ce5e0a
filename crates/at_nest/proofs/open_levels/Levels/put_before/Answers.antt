-- The innermost of the last stretch is another.
use Rattle.std.proofs.Common.{◌≡◌, ◌-◌, ◌<◌, length, arith, refl}
use Rattle.at_nest.proofs.Stretches.{last_at, puts_before}
use Rattle.at_nest.proofs.open_levels.Levels.put_before.Goals as goal

pub returns : goal.returns
returns g c =
    let some : 0 < length c.args.self.now.before.items = omega (arith, c.args.self.now.before.ok, c.len-count.ensures, c.if-count-eq0.false) in
    let place : c.len-count.result - 1 ≡ length c.args.self.now.before.items - 1 = omega (arith, c.args.self.now.before.ok, c.len-count.ensures) in
    puts_before c.args.self.now.before.items c.index_mut.result.now (record { round = c.index_mut.result.now.round; innermost = c.args.level }) (c.len-count.result - 1) c.args.level c.args.self.now.last.items c.requires place
    (last_at c.args.self.now.before.items (c.len-count.result - 1) c.index_mut.result.now some place c.index_mut.ensures.value) refl refl
