-- Each number is counted behind those before it.
use Rattle.std.proofs.Common.{arith}
use Rattle.bench_nest.proofs.PassedParts.{array_begins, array_goes_on, array_ends}
use Rattle.bench_nest.proofs.passing.pass_numbers.Goals as goal

pub numbers-init : goal.numbers-init
numbers-init c =
    let inside = c.stands.ensures.inside c.if-not-stands.false in
    record { order = omega arith; within = omega (arith, inside); counted = array_begins c.args.text.now c.args.at inside }

pub returns-then-stands : goal.returns-then-stands
returns-then-stands c = array_ends c.args.text.now c.args.at c.numbers.place c.numbers.count c.in_ok-number.number c.numbers.invariant.order (c.stands.ensures.byte c.if-not-stands.false) c.numbers.invariant.counted c.in_ok-number.ensures
    (c.stands-in-numbers.ensures.inside c.if-stands.true) (c.stands-in-numbers.ensures.byte c.if-stands.true)

pub numbers-preserved : goal.numbers-preserved
numbers-preserved c =
    let here = c.if-not-stands-2.false in
    let inside = c.stands-in-numbers-2.ensures.inside here in
    record {
      order = omega (arith, c.numbers.invariant.order, c.in_ok-number.ensures.0);
      within = omega (arith, inside);
      counted = array_goes_on c.args.text.now c.args.at c.numbers.place c.numbers.count c.in_ok-number.number c.numbers.invariant.order c.numbers.invariant.counted c.in_ok-number.ensures inside (c.stands-in-numbers-2.ensures.byte here);
    }
