use Rattle.std.proofs.Common.{◌≡◌, ◌+◌, ◌-◌, ◌++◌, length, take, drop, arith, subst, rules}
use Rattle.std.proofs.lemmas.Result.{on_ok_weaker, on_err_weaker}
use Rattle.at_hull.specs.Growth.{HaveOneHull, HoldsFront, held}
use Rattle.at_hull.proofs.OneHull.{always_on_err, nothing_added, stretch_added, stretch_front, rest_added}
use Rattle.at_hull.proofs.builder.HullBuilder.add.Goals as goal

pub stretches-init : goal.stretches-init
stretches-init c = record { inside = omega arith; held = nothing_added c.args.self.now c.args.points.now }

pub returns-in_err-add_stretch-clause-err : goal.returns-in_err-add_stretch-clause-err
returns-in_err-add_stretch-clause-err c =
    let f : HoldsFront c.stretches.self (take (c.stretches.at + 4096 - c.stretches.at) (drop c.stretches.at c.args.points.now)) c.add_stretch.new.self = search rules in
    always_on_err c.from_residual.result (stretch_front c.args.self.now c.stretches.self c.add_stretch.new.self c.args.points.now c.stretches.at (c.stretches.at + 4096 - c.stretches.at) c.stretches.invariant.held f)

pub stretches-preserved : goal.stretches-preserved
stretches-preserved c =
    let o : HaveOneHull (held c.stretches.self ++ take (c.stretches.at + 4096 - c.stretches.at) (drop c.stretches.at c.args.points.now)) (held c.add_stretch.new.self) = search rules in
    let width : c.stretches.at + 4096 - c.stretches.at ≡ 4096 = omega arith in
    record {
      inside = omega (arith, c.stretches-test.true);
      held = stretch_added c.args.self.now c.stretches.self c.add_stretch.new.self c.args.points.now c.stretches.at 4096 c.stretches.invariant.held
          (subst (λ n. HaveOneHull (held c.stretches.self ++ take n (drop c.stretches.at c.args.points.now)) (held c.add_stretch.new.self)) width o);
    }

pub returns-clause-held : goal.returns-clause-held
returns-clause-held c =
    on_ok_weaker c.add_stretch-2.result (λ u. rest_added c.args.self.now c.stretches.self c.add_stretch-2.new.self c.args.points.now c.stretches.at c.stretches.invariant.held u) c.add_stretch-2.ensures.held

pub returns-clause-err : goal.returns-clause-err
returns-clause-err c =
    on_err_weaker c.add_stretch-2.result (λ f. stretch_front c.args.self.now c.stretches.self c.add_stretch-2.new.self c.args.points.now c.stretches.at (length c.args.points.now - c.stretches.at) c.stretches.invariant.held f) c.add_stretch-2.ensures.err
