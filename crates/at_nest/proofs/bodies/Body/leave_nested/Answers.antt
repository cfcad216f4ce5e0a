-- The nest is gone with its only array, or is one shorter.
use Rattle.std.proofs.Common.{◌≡◌, ◌-◌, suc, arith, refl}
use Rattle.at_nest.specs.Shown.{opens_of}
use Rattle.at_nest.proofs.Nests.{left_nested, less_nested}
use Rattle.at_nest.proofs.bodies.Body.leave_nested.Goals as goal

pub returns-then-nest-eq0-clause-levels : goal.returns-then-nest-eq0-clause-levels
returns-then-nest-eq0-clause-levels g c = let e : c.args.nest.more ≡ 0 = omega (arith, c.if-nest-eq0.true) in
    left_nested (opens_of c.args.self.now.levels) (opens_of c.pop.new.self) c.pop.result c.args.nest e c.requires c.pop.ensures

pub returns-clause-levels : goal.returns-clause-levels
returns-clause-levels g c = let e : c.args.nest.more ≡ suc (c.args.nest.more - 1) = omega (arith, c.if-nest-eq0.false) in
    less_nested (opens_of c.args.self.now.levels) (opens_of c.put_nest.new.self.levels) c.args.nest.last (c.args.nest.more - 1) c.args.nest _ refl e c.saturating_sub.ensures refl c.requires c.put_nest.ensures.levels
