use Rattle.std.proofs.Common.{◌∷◌, [], sym, subst, ◌∙◌}
use Rattle.at_geom.proofs.Elements.{untrue}
use Rattle.at_join.specs.declared.outlines.Outline.{Outline}
use Rattle.at_join.specs.Meetings.{Finds}
use Rattle.at_join.specs.Sides.{CellHit, at_outlines}
use Rattle.at_join.proofs.FoundLists.{finds_one, finds_not}
use Rattle.at_join.proofs.Rows.{entry_in_range, cell_apart}
use Rattle.at_join.proofs.finding.Search.push_pair.Goals as goal

pub shapes_meet-requires-clause-a_in_range : goal.shapes_meet-requires-clause-a_in_range
shapes_meet-requires-clause-a_in_range g c = entry_in_range c.args.self.now.first.now.entries c.args.outline.index c.entry-first.result.now c.entry-first.ensures c.requires.in_range.0

pub shapes_meet-requires-clause-b_in_range : goal.shapes_meet-requires-clause-b_in_range
shapes_meet-requires-clause-b_in_range g c = entry_in_range c.args.self.now.second.now.entries c.args.other.index c.entry-second.result.now c.entry-second.ensures c.requires.in_range.1

pub returns-in_ok-push-clause-pairs : goal.returns-in_ok-push-clause-pairs
returns-in_ok-push-clause-pairs g c =
    let s = c.args.self.now in
    let P = CellHit s.rect s.first.now s.second.now in
    let pair : Outline × Outline = (c.args.outline, c.args.other) in
    let here = sym c.is_here.ensures ∙ c.if-not-is_here.false in
    let hit : P pair = (here, c.entry-first.result.now, c.entry-second.result.now, c.entry-first.ensures, c.entry-second.ensures, c.shapes_meet.ensures.0 c.if-shapes_meet.true) in
    subst (λ l. Finds P at_outlines (pair ∷ []) c.args.pairs.now.items l) (sym c.in_ok-push.ensures.items) (finds_one P at_outlines pair c.args.pairs.now.items hit)

pub returns-else-shapes_meet-clause-pairs : goal.returns-else-shapes_meet-clause-pairs
returns-else-shapes_meet-clause-pairs g c =
    let s = c.args.self.now in
    let apart = untrue c.shapes_meet.result c.if-shapes_meet.false c.shapes_meet.ensures.1 in
    finds_not (CellHit s.rect s.first.now s.second.now) at_outlines (c.args.outline, c.args.other) c.args.pairs.now.items
    (cell_apart s.rect s.first.now s.second.now c.args.outline c.args.other c.entry-first.result.now c.entry-second.result.now c.entry-first.ensures c.entry-second.ensures apart)
