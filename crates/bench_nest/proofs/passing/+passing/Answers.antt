-- Each item and each member is counted behind those before it.
use Rattle.std.proofs.Common.{arith}
use Rattle.bench_nest.proofs.PassedParts.{item_passed, array_begins, array_goes_on, array_ends, empty_array, object_begins, object_goes_on, object_ends, empty_object}
use Rattle.bench_nest.proofs.passing.+passing.Goals as goal

pub pass_array-returns-then-stands : goal.pass_array-returns-then-stands
pass_array-returns-then-stands t c = empty_array c.args.text.now c.args.at c.skip_spaces-first.result (omega (arith, c.skip_spaces-first.ensures.order)) (c.stands.ensures.inside c.if-stands.true) c.requires.opens (c.stands.ensures.byte c.if-stands.true) c.skip_spaces-first.ensures.spaces

pub pass_array-items-init : goal.pass_array-items-init
pass_array-items-init t c = record { order = omega arith; within = omega (arith, c.requires.inside); counted = array_begins c.args.text.now c.args.at c.requires.inside }

pub pass_array-returns-then-stands-2 : goal.pass_array-returns-then-stands-2
pass_array-returns-then-stands-2 t c = array_ends c.args.text.now c.args.at c.items.place c.items.count c.in_ok-item.item c.items.invariant.order c.requires.opens c.items.invariant.counted c.in_ok-item.ensures
    (c.stands-in-items.ensures.inside c.if-stands-2.true) (c.stands-in-items.ensures.byte c.if-stands-2.true)

pub pass_array-items-preserved : goal.pass_array-items-preserved
pass_array-items-preserved t c =
    let here = c.if-not-stands.false in
    let inside = c.stands-in-items-2.ensures.inside here in
    record {
      order = omega (arith, c.items.invariant.order, c.in_ok-item.ensures.0);
      within = omega (arith, inside);
      counted = array_goes_on c.args.text.now c.args.at c.items.place c.items.count c.in_ok-item.item c.items.invariant.order c.items.invariant.counted c.in_ok-item.ensures inside (c.stands-in-items-2.ensures.byte here);
    }

pub pass_item-returns : goal.pass_item-returns
pass_item-returns t c = item_passed c.args.text.now c.args.at c.skip_spaces-first.result c.skip_spaces-end.result c.in_ok-passed.passed c.skip_spaces-first.ensures.order c.skip_spaces-first.ensures.spaces c.in_ok-passed.ensures
    c.skip_spaces-end.ensures.order c.skip_spaces-end.ensures.within c.skip_spaces-end.ensures.spaces

pub pass_object-returns-then-stands : goal.pass_object-returns-then-stands
pass_object-returns-then-stands t c = empty_object c.args.text.now c.args.at c.skip_spaces-first.result (omega (arith, c.skip_spaces-first.ensures.order)) (c.stands.ensures.inside c.if-stands.true) c.requires.opens (c.stands.ensures.byte c.if-stands.true) c.skip_spaces-first.ensures.spaces

pub pass_object-members-init : goal.pass_object-members-init
pass_object-members-init t c = record { order = omega arith; within = omega (arith, c.requires.inside); counted = object_begins c.args.text.now c.args.at c.requires.inside }

pub pass_object-returns-then-stands-2 : goal.pass_object-returns-then-stands-2
pass_object-returns-then-stands-2 t c = object_ends c.args.text.now c.args.at c.members.place c.in_ok-colon.colon c.members.count c.in_ok-item.item c.members.invariant.order c.requires.opens c.members.invariant.counted c.in_ok-colon.ensures c.in_ok-item.ensures
    (c.stands-in-members.ensures.inside c.if-stands-2.true) (c.stands-in-members.ensures.byte c.if-stands-2.true)

pub pass_object-members-preserved : goal.pass_object-members-preserved
pass_object-members-preserved t c =
    let here = c.if-not-stands.false in
    let inside = c.stands-in-members-2.ensures.inside here in
    record {
      order = omega (arith, c.members.invariant.order, c.in_ok-colon.ensures.0, c.in_ok-item.ensures.0);
      within = omega (arith, inside);
      counted = object_goes_on c.args.text.now c.args.at c.members.place c.in_ok-colon.colon c.members.count c.in_ok-item.item c.members.invariant.order c.members.invariant.counted c.in_ok-colon.ensures c.in_ok-item.ensures inside (c.stands-in-members-2.ensures.byte here);
    }
