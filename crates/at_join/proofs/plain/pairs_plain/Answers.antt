use Rattle.std.proofs.Common.{◌≡◌, ◌∷◌, List, [], sym, subst}
use Rattle.at_geom.specs.Shapes.{IsShapeInRange}
use Rattle.at_query.specs.Results.{pairs_of}
use Rattle.at_query.specs.declared.answer.parts.Entry.{Entry}
use Rattle.at_join.specs.Meetings.{AreInRange, Finds, Meeting, at_entries}
use Rattle.at_join.proofs.FoundLists.{finds_row}
use Rattle.at_join.proofs.plain.pairs_plain.Goals as goal

in_range : (xs ys : List Entry) → xs ≡ ys → AreInRange ys → AreInRange xs
in_range xs ys e h = subst AreInRange (sym e) h

pub push_meeting-requires-clause-entry : goal.push_meeting-requires-clause-entry
push_meeting-requires-clause-entry c =
    let all = in_range c.as_slice-entry-items.result.now c.args.a.now c.loop-entry.invariant.same c.requires.first in
    subst (λ (e : Entry). IsShapeInRange e.shape) (sym c.entry-item.is) (all c.loop-entry.entry-index c.entry-item.result c.loop-entry-test.true)

pub push_meeting-requires-clause-others : goal.push_meeting-requires-clause-others
push_meeting-requires-clause-others c = in_range c.as_slice.result.now c.args.b.now c.as_slice.ensures c.requires.second

pub loop-entry-preserved : goal.loop-entry-preserved
loop-entry-preserved c =
    let mid = c.loop-entry.pairs.items in
    let new = c.push_meeting.new.pairs.items in
    let b = c.args.b.now in
    let here = subst (λ l. Finds Meeting at_entries (pairs_of (c.entry-item.result ∷ []) l) mid new) c.as_slice.ensures c.in_ok-push_meeting.ensures in
    record {
      same = c.loop-entry.invariant.same;
      pairs = finds_row Meeting at_entries c.as_slice-entry-items.result.now b c.loop-entry.entry-index c.entry-item.result [] mid new c.loop-entry-test.true c.loop-entry.invariant.pairs
          (subst (λ (e : Entry). Finds Meeting at_entries (pairs_of (e ∷ []) b) mid new) c.entry-item.is here);
    }
