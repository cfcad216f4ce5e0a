use Rattle.std.proofs.Common.{get_or, take, arith}
use Rattle.at_join.specs.Sides.{CellHit, at_outlines, is_cell_here}
use Rattle.at_join.proofs.FoundLists.{part_of, take_to, past_rows, count_next, count_rows_least}
use Rattle.at_join.proofs.Rows.{cell_off}
use Rattle.at_join.proofs.Stretches.{stretch_known, near_known, part_is, part_found, part_stepped}
use Rattle.at_join.proofs.finding.Search.push_cell.Goals as goal

pub loop-from-preserved-then-next-from : goal.loop-from-preserved-then-next-from
loop-from-preserved-then-next-from g c =
    let s = c.args.self.now in
    let i = c.loop-from.invariant in
    let from = c.loop-from.from in
    let next = c.ahead-next.result in
    let xs = s.first.now.outlines.items in
    let ys = s.second.now.outlines.items in
    let up = c.ahead-next.ensures.ahead in
    let more = count_next (is_cell_here s.rect) (take from xs) (part_of xs from next) ys (take_to xs from next up) in
    record {
      pairs = past_rows (CellHit s.rect s.first.now s.second.now) at_outlines xs ys from next c.args.pairs.now.items c.loop-from.pairs.items up
          (λ k d least to lt y. cell_off s.rect s.first.now s.second.now (get_or xs k d) y (c.requires.sides.0.wide k d lt) (c.ahead-next.ensures.clear k d least to lt)) i.pairs;
      steps = omega (arith, i.steps, more);
    }

pub returns-in_err-push_near-clause-steps : goal.returns-in_err-push_near-clause-steps
returns-in_err-push_near-clause-steps g c =
    let s = c.args.self.now in
    let all = count_rows_least (is_cell_here s.rect) s.first.now.outlines.items s.second.now.outlines.items c.loop-from.from in
    omega (arith, c.loop-from.invariant.steps, all)

pub push_stretch-requires-clause-stretch : goal.push_stretch-requires-clause-stretch
push_stretch-requires-clause-stretch g c =
    let a = c.args.self.now.first.now in
    stretch_known a.entries a.outlines.items c.as_slice-outlines.result.now c.loop-from.from c.stretch_end-to.result c.as_slice-outlines.ensures.value c.requires.sides.0.indices

pub push_stretch-requires-clause-near : goal.push_stretch-requires-clause-near
push_stretch-requires-clause-near g c =
    let b = c.args.self.now.second.now in
    near_known b.entries b.outlines.items c.clear.new.self.items c.push_near.new.near.items c.as_slice.result.now c.common.result c.as_slice.ensures.value c.clear.ensures.items c.in_ok-push_near.ensures c.requires.sides.1.indices

pub returns-in_err-push_stretch-clause-steps : goal.returns-in_err-push_stretch-clause-steps
returns-in_err-push_stretch-clause-steps g c =
    let s = c.args.self.now in
    let part = part_is s.rect c.round.result c.common.result s.first.now s.second.now c.as_slice-outlines.result.now c.clear.new.self.items c.push_near.new.near.items c.as_slice.result.now c.loop-from.from c.stretch_end-to.result
    c.requires.sides.1 c.as_slice-outlines.ensures.value c.as_slice.ensures.value c.stretch_end-to.ensures.end.0 c.round.ensures c.common.ensures c.clear.ensures.items c.in_ok-push_near.ensures in
    let some = part_stepped c.args.steps.now c.loop-from.steps c.push_stretch.new.steps part c.loop-from.invariant.steps c.in_err-push_stretch.ensures.steps in
    let all = count_rows_least (is_cell_here s.rect) s.first.now.outlines.items s.second.now.outlines.items c.stretch_end-to.result in
    omega (arith, some, all)

pub loop-from-preserved : goal.loop-from-preserved
loop-from-preserved g c =
    let s = c.args.self.now in
    let part = part_is s.rect c.round.result c.common.result s.first.now s.second.now c.as_slice-outlines.result.now c.clear.new.self.items c.push_near.new.near.items c.as_slice.result.now c.loop-from.from c.stretch_end-to.result
    c.requires.sides.1 c.as_slice-outlines.ensures.value c.as_slice.ensures.value c.stretch_end-to.ensures.end.0 c.round.ensures c.common.ensures c.clear.ensures.items c.in_ok-push_near.ensures in
    record {
      pairs = part_found c.args.pairs.now.items c.loop-from.pairs.items c.push_stretch.new.pairs.items part c.loop-from.invariant.pairs c.in_ok-push_stretch.ensures.pairs;
      steps = part_stepped c.args.steps.now c.loop-from.steps c.push_stretch.new.steps part c.loop-from.invariant.steps c.in_ok-push_stretch.ensures.steps;
    }
