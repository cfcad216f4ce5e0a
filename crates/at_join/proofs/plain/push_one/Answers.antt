use Rattle.std.proofs.Common.{◌∷◌, [], sym, subst}
use Rattle.at_geom.proofs.Elements.{untrue}
use Rattle.at_query.specs.declared.answer.parts.Entry.{Entry}
use Rattle.at_join.specs.Meetings.{Finds, Meeting, at_entries}
use Rattle.at_join.proofs.FoundLists.{finds_one, finds_not}
use Rattle.at_join.proofs.plain.push_one.Goals as goal

pub returns-then-not-shapes_meet : goal.returns-then-not-shapes_meet
returns-then-not-shapes_meet c =
    finds_not Meeting at_entries (c.args.entry.now, c.args.other.now) c.args.pairs.now.items (untrue c.shapes_meet.result c.if-not-shapes_meet.true c.shapes_meet.ensures.1)

pub returns : goal.returns
returns c =
    let pair : Entry × Entry = (c.args.entry.now, c.args.other.now) in
    subst (λ l. Finds Meeting at_entries (pair ∷ []) c.args.pairs.now.items l) (sym c.in_ok-push.ensures.items) (finds_one Meeting at_entries pair c.args.pairs.now.items (c.shapes_meet.ensures.0 c.if-not-shapes_meet.false))
