use Rattle.std.proofs.Common.{◌+◌, arith}
use Rattle.at_join.specs.Sides.{CellHit, at_outlines, is_cell_here}
use Rattle.at_join.proofs.Covering.{no_outline}
use Rattle.at_join.proofs.FoundLists.{finds_row, count_row, count_rows_least}
use Rattle.at_join.proofs.finding.Search.push_stretch.Goals as goal

pub returns-in_err-push_row-clause-steps : goal.returns-in_err-push_row-clause-steps
returns-in_err-push_row-clause-steps g c =
    let p = is_cell_here c.args.self.now.rect in
    let here = c.in_err-push_row.ensures.steps in
    let one = count_row p c.args.stretch.now c.args.near.now c.loop-outline.outline-index no_outline c.loop-outline-test.true in
    let all = count_rows_least p c.args.stretch.now c.args.near.now (c.loop-outline.outline-index + 1) in
    omega (arith, c.loop-outline.invariant.steps, here, one, all)

pub loop-outline-preserved : goal.loop-outline-preserved
loop-outline-preserved g c =
    let s = c.args.self.now in
    let i = c.loop-outline.invariant in
    let here = c.in_ok-push_row.ensures.steps in
    let one = count_row (is_cell_here s.rect) c.args.stretch.now c.args.near.now c.loop-outline.outline-index no_outline c.loop-outline-test.true in
    record {
      pairs = finds_row (CellHit s.rect s.first.now s.second.now) at_outlines c.args.stretch.now c.args.near.now c.loop-outline.outline-index no_outline c.args.pairs.now.items c.loop-outline.pairs.items c.push_row.new.pairs.items c.loop-outline-test.true i.pairs c.in_ok-push_row.ensures.pairs;
      steps = omega (arith, i.steps, here, one);
    }
