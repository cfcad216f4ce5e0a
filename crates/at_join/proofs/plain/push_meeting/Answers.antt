use Rattle.std.proofs.Common.{◌∷◌, [], sym, subst}
use Rattle.at_geom.specs.Shapes.{IsShapeInRange}
use Rattle.at_query.specs.declared.answer.parts.Entry.{Entry}
use Rattle.at_join.specs.Meetings.{Finds, Meeting, at_entries}
use Rattle.at_join.proofs.FoundLists.{finds_pair}
use Rattle.at_join.proofs.plain.push_meeting.Goals as goal

pub push_one-requires-clause-other : goal.push_one-requires-clause-other
push_one-requires-clause-other c =
    subst (λ (e : Entry). IsShapeInRange e.shape) (sym c.other-item.is) (c.requires.others c.loop-other.other-index c.other-item.result c.loop-other-test.true)

pub loop-other-preserved : goal.loop-other-preserved
loop-other-preserved c =
    let entry = c.args.entry.now in
    let mid = c.loop-other.pairs.items in
    let new = c.push_one.new.pairs.items in
    finds_pair Meeting at_entries entry c.args.others.now c.loop-other.other-index c.other-item.result c.args.pairs.now.items mid new c.loop-other-test.true c.loop-other.invariant
    (subst (λ (e : Entry). Finds Meeting at_entries ((entry, e) ∷ []) mid new) c.other-item.is c.in_ok-push_one.ensures)
