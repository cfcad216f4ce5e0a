use Rattle.std.proofs.Common.{arith}
use Rattle.std.specs.Prelude.{cond}
use Rattle.std.proofs.lemmas.List.Sums.{sum_by_more}
use Rattle.at_join.specs.declared.outlines.Outline.{Outline}
use Rattle.at_join.specs.Sides.{CellHit, at_outlines, is_row_here}
use Rattle.at_join.proofs.Covering.{no_outline}
use Rattle.at_join.proofs.FoundLists.{finds_pair}
use Rattle.at_join.proofs.finding.Search.push_row.Goals as goal

pub loop-other-preserved : goal.loop-other-preserved
loop-other-preserved g c =
    let s = c.args.self.now in
    let i = c.loop-other.invariant in
    let here = c.in_ok-push_pair.ensures.steps in
    let one = sum_by_more (λ (q : Outline). cond (is_row_here s.rect c.args.outline q) 1 0) c.args.near.now c.loop-other.other-index no_outline c.loop-other-test.true in
    record {
      pairs = finds_pair (CellHit s.rect s.first.now s.second.now) at_outlines c.args.outline c.args.near.now c.loop-other.other-index no_outline c.args.pairs.now.items c.loop-other.pairs.items c.push_pair.new.pairs.items c.loop-other-test.true i.pairs c.in_ok-push_pair.ensures.pairs;
      steps = omega (arith, i.steps, here, one);
    }
