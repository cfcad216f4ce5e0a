use Rattle.std.proofs.Common.{◌∙◌, sym}
use Rattle.at_geom.specs.Segments.{IsInRange}
use Rattle.at_hull.proofs.Stacks.{dropped_at, last_has, front_has}
use Rattle.at_hull.proofs.chains.ends_right.Goals as goal

pub is_no_left_turn-requires-clause-a_in_range : goal.is_no_left_turn-requires-clause-a_in_range
is_no_left_turn-requires-clause-a_in_range c =
    last_has IsInRange c.in-Some-split_last.a.now c.in-Some.front.now c.in-Some-split_last.field-0-1.now c.in-Some-split_last.ensures.cases.0
    (front_has IsInRange c.in-Some.b.now c.args.way.now c.in-Some.front.now c.in-Some.ensures.cases.0 c.requires.way_in_range)

pub is_no_left_turn-requires-clause-b_in_range : goal.is_no_left_turn-requires-clause-b_in_range
is_no_left_turn-requires-clause-b_in_range c =
    last_has IsInRange c.in-Some.b.now c.args.way.now c.in-Some.front.now c.in-Some.ensures.cases.0 c.requires.way_in_range

pub returns : goal.returns
returns c =
    c.is_no_left_turn.ensures ∙ sym (dropped_at c.args.next c.in-Some.b.now c.in-Some-split_last.a.now c.args.way.now c.in-Some.front.now c.in-Some-split_last.field-0-1.now c.in-Some.ensures.cases.0 c.in-Some-split_last.ensures.cases.0)
